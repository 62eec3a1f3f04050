-- What every process keeps to, of a drawing.
use Rattle.std.specs.Prelude.{◌≡◌, ℕ, ◌+◌, ◌*◌, Bool, true, false, ◌&&◌, length, replicate, Some, None, nat_lt, slice_index, slice_set, refl, ◌≤◌}
use Rattle.std.proofs.Common.{ap, ◌∙◌, sym, inl, inr, arith}
use Rattle.std.proofs.lemmas.List.{get_or_past, get_or-replicate, length-replicate}
use Rattle.std.proofs.lemmas.Bool.{and_parts, cases_lt}
use Rattle.process.specs.Meaning.{Row, IsRow, Lawful}
use Rattle.process.specs.Bounds.{Within}
use Rattle.token_tables.specs.declared.kind.Kind.{Kind}
use Rattle.token_tables.specs.declared.kind.Kind.TheVariants as kind
use Rattle.token_tables.specs.Tables.{Drawing, n_of, e_of, node_at, edge_at}
use Rattle.token.specs.declared.act.Act.{Act}
use Rattle.token.specs.declared.act.Act.TheVariants.{Pass, Complete, Enter, Choose}
use Rattle.token.specs.Clocks.{cap_of}
use Rattle.token.specs.Rows.{f_of, day_of, width_of, safe}
use Rattle.token.specs.Rules.{act_of, up, down, clear, wiped, sweep, start_one, pass_one, give_one, take_one, disarm_one, arm_one, given, taken, disarmed, armed, may, start_row, passed, ceded, entered, after_choose, made, next_row, meaning_of}
use Rattle.token.specs.Known.{Amounts, AtMost}
use Rattle.token.specs.declared.token_drawing.TokenDrawing.{TokenDrawing}
use Rattle.token.specs.Drawn.{drawing_of, means}
use Rattle.token.specs.Tame.{Tame, tame_more, tame_none, tame_zero, tame_one, tame_up, tame_down, tame_if, tame_both, tame_clear, tame_sweep, tame_wiped}
use Rattle.token.specs.Steps.{start_tame, pass_tame, give_tame, take_tame, disarm_tame, arm_tame}
use Rattle.token.specs.Lows.{fits_of, safe_low}

module _ (d : Drawing) where
  abbrev Mild : ℕ → (Row → Row) → Type 0
  Mild k f = Tame (width_of d) k f

  still : (k : ℕ) → Mild k (λ r. r)
  still k = tame_more (width_of d) 0 k (λ r. r) (omega arith) (tame_none (width_of d))

  cleared : (n : ℕ) → Mild 0 (λ r. clear (n_of d) r n)
  cleared n = tame_clear (width_of d) (n_of d) n

  tame_taken : (m : ℕ) → Mild 0 (taken d m)
  tame_taken m = tame_more (width_of d) (0 * e_of d) 0 (taken d m) (omega arith) (tame_sweep (width_of d) 0 (take_one (f_of d) m) (take_tame (width_of d) (f_of d) m) 0 d.edges)

  tame_disarmed : (h : ℕ) → Mild 0 (disarmed d h)
  tame_disarmed h = tame_more (width_of d) (0 * n_of d) 0 (disarmed d h) (omega arith) (tame_sweep (width_of d) 0 (disarm_one (n_of d) h) (disarm_tame (width_of d) (n_of d) h) 0 d.nodes)

  pub tame_ceded : (k : Kind) (n : ℕ) → Mild 0 (ceded k d n)
  tame_ceded kind.Start n = cleared n
  tame_ceded kind.TimedStart n = cleared n
  tame_ceded kind.Task n = tame_both (width_of d) 0 0 (λ r. clear (n_of d) r n) (disarmed d n) (cleared n) (tame_disarmed n)
  tame_ceded kind.Exclusive n = cleared n
  tame_ceded kind.Parallel n = tame_taken n
  tame_ceded kind.Wait n = cleared n
  tame_ceded kind.Stopping n =
      let h = (node_at d n).host in
      tame_both (width_of d) 0 0 (λ r. slice_set (clear (n_of d) r n) h 0) (disarmed d h) (tame_both (width_of d) 0 0 (λ r. clear (n_of d) r n) (λ r. slice_set r h 0) (cleared n) (tame_zero (width_of d) h)) (tame_disarmed h)
  tame_ceded kind.Side n = cleared n
  tame_ceded kind.End n = cleared n
  tame_ceded kind.Terminate n = cleared n
  tame_ceded (kind.Other number) n = cleared n

  module _ (few : n_of d ≤ 64) (thin : e_of d ≤ 128) where
    tame_given : (m : ℕ) → Mild 128 (given d m)
    tame_given m = tame_more (width_of d) (1 * e_of d) 128 (given d m) (omega (arith, thin)) (tame_sweep (width_of d) 1 (give_one (f_of d) m) (give_tame (width_of d) (f_of d) m) 0 d.edges)

    tame_armed : (h : ℕ) → Mild 64 (armed d h)
    tame_armed h = tame_more (width_of d) (1 * n_of d) 64 (armed d h) (omega (arith, few)) (tame_sweep (width_of d) 1 (arm_one (n_of d) h) (arm_tame (width_of d) (n_of d) h) 0 d.nodes)

    tame_passed : Mild 65 (passed d)
    tame_passed =
        tame_both (width_of d) 64 1 (sweep (pass_one (n_of d)) 0 d.nodes) _
        (tame_more (width_of d) (1 * n_of d) 64 _ (omega (arith, few)) (tame_sweep (width_of d) 1 (pass_one (n_of d)) (pass_tame (width_of d) (n_of d)) 0 d.nodes))
        (tame_if (width_of d) 1 (λ r. nat_lt (slice_index r (day_of d)) (cap_of d.nodes)) (λ r. up r (day_of d)) (λ r. r) (tame_up (width_of d) (day_of d)) (still 1))

    tame_entered : (k : Kind) (n : ℕ) → Mild 128 (entered k d n)
    tame_entered kind.Start n = still 128
    tame_entered kind.TimedStart n = still 128
    tame_entered kind.Task n = tame_more (width_of d) 65 128 (entered kind.Task d n) (omega arith) (tame_both (width_of d) 1 64 (λ r. up r n) (armed d n) (tame_up (width_of d) n) (tame_armed n))
    tame_entered kind.Exclusive n = tame_given n
    tame_entered kind.Parallel n = still 128
    tame_entered kind.Wait n = tame_more (width_of d) 1 128 (entered kind.Wait d n) (omega arith) (tame_both (width_of d) 1 0 (λ r. up r n) (λ r. slice_set r (n_of d + n) 0) (tame_up (width_of d) n) (tame_zero (width_of d) (n_of d + n)))
    tame_entered kind.Stopping n = still 128
    tame_entered kind.Side n = still 128
    tame_entered kind.End n = tame_more (width_of d) 1 128 (λ r. up r n) (omega arith) (tame_up (width_of d) n)
    tame_entered kind.Terminate n = tame_more (width_of d) 1 128 (entered kind.Terminate d n) (omega arith) (tame_both (width_of d) 0 1 (wiped (day_of d)) (λ r. slice_set r n 1) (tame_wiped (width_of d) (day_of d) (omega arith)) (tame_one (width_of d) n))
    tame_entered (kind.Other number) n = still 128

    tame_made : (a : Act) → Mild 128 (made d a)
    tame_made Pass = tame_more (width_of d) 65 128 (passed d) (omega arith) tame_passed
    tame_made (Complete n) = tame_both (width_of d) 0 128 (ceded (node_at d n).kind d n) (given d n) (tame_ceded (node_at d n).kind n) (tame_given n)
    tame_made (Enter e) = let n = (edge_at d e).target in tame_both (width_of d) 0 128 (λ r. down r (f_of d + e)) (entered (node_at d n).kind d n) (tame_down (width_of d) (f_of d + e)) (tame_entered (node_at d n).kind n)
    tame_made (Choose e) = tame_more (width_of d) 1 128 (after_choose d e) (omega arith) (tame_both (width_of d) 0 1 (taken d (edge_at d e).source) (λ r. up r (f_of d + e)) (tame_taken (edge_at d e).source) (tame_up (width_of d) (f_of d + e)))

chosen : (t : Bool) (x s : Row) → elim t [ true ↦ Some x | false ↦ None ] ≡ Some s → (t ≡ true) × (x ≡ s)
chosen true x s h = (refl, cc)
chosen false x s h = (cc, cc)

pub at_most_zeros : (n b : ℕ) → AtMost b (replicate n 0)
at_most_zeros n b k =
    elim (cases_lt k n) [
      | inl l ↦ omega (arith, get_or-replicate {A = ℕ} n k 0 0 l)
      | inr g ↦ omega (arith, get_or_past {X = ℕ} (replicate n 0) k 0 (omega (arith, length-replicate {A = ℕ} n 0)))
    ]

module _ (d : Drawing) (few : n_of d ≤ 64) (thin : e_of d ≤ 128) where
  begun_row : IsRow (width_of d) (start_row d)
  begun_row =
      let t = tame_sweep (width_of d) 1 start_one (start_tame (width_of d)) 0 d.nodes in
      let z = replicate {A = ℕ} (width_of d) 0 in
      let e : length z ≡ width_of d = length-replicate (width_of d) 0 in
      record { long = t.long z e; cells = λ k. omega (arith, few, t.low 0 z e (at_most_zeros (width_of d) 0) k) }

  made_row : Amounts d.nodes → (r s : Row) (c : ℕ) → next_row d r c ≡ Some s → IsRow (width_of d) s
  made_row amounts r s c h =
      let p = chosen (safe d r && may d r (act_of d c)) (made d (act_of d c) r) s h in
      let q : safe d r ≡ true = (and_parts _ _ p.0).0 in
      let t = tame_made d few thin (act_of d c) in
      let e : length r ≡ width_of d = (fits_of d r q).long in
      record { long = ap length (sym p.1) ∙ t.long r e; cells = λ k. omega (arith, t.low 10000 r e (safe_low d r amounts q) k, ap (λ (x : Row). slice_index x k) p.1) }

  lawful_of : Amounts d.nodes → Lawful (meaning_of d)
  lawful_of amounts = record {
    width_low = omega arith;
    width_high = omega (arith, few, thin);
    choices_low = omega arith;
    choices_high = omega (arith, few, thin);
    start_row = begun_row;
    safe_row = λ r h. (fits_of d r h).long;
    next_row = λ r s c i l h. made_row amounts r s c h;
  }

-- the same of a drawing of the code
pub lawful_drawing : (p : TokenDrawing) → Lawful (means p)
lawful_drawing p = lawful_of (drawing_of p) p.known.few p.known.thin p.known.amounts

pub within_drawing : (p : TokenDrawing) → Within (record { widest = 257; most_choices = 321 }) (means p)
within_drawing p = record { width = omega (arith, p.known.few, p.known.thin); choices = omega (arith, p.known.few, p.known.thin); widest = omega arith; most = omega arith }
