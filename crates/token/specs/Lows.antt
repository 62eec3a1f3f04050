-- A safe row, cell by cell.
use Rattle.std.specs.Prelude.{◌≡◌, ℕ, suc, ◌+◌, ◌-◌, ◌*◌, ◌<◌, ◌≤◌, Bool, true, false, cond, List, [], ◌∷◌, length, fold, max, nat_le, slice_index, slice_index_or}
use Rattle.std.proofs.Common.{subst, inl, inr, arith}
use Rattle.std.proofs.lemmas.List.{get_or_past}
use Rattle.std.proofs.lemmas.Bool.{and_parts, ltb-true, leb-true, eqb-true, cases_lt}
use Rattle.process.specs.Meaning.{Row}
use Rattle.token_tables.specs.declared.node.Node.{Node}
use Rattle.token_tables.specs.declared.mode.Mode.TheVariants as mode
use Rattle.token_tables.specs.Kinds.{same_mode}
use Rattle.token_tables.specs.Tables.{Drawing, n_of, e_of, no_node, no_edge, node_at}
use Rattle.token.specs.Clocks.{is_after, clock_top, day_after, cap_of}
use Rattle.token.specs.Rows.{f_of, day_of, width_of, node_fits, nodes_fit, edges_fit, safe}
use Rattle.token.specs.Known.{Amounts, AtMost}
use Rattle.token.specs.ByNumber.{decides_each}

pub record Fits (d : Drawing) (r : Row) : Type 0 where
  pub some : 0 < n_of d
  pub long : length r ≡ width_of d
  pub marks : (n : ℕ) → n < n_of d → slice_index r n ≤ 1
  pub clocks : (n : ℕ) → n < n_of d → slice_index r (n_of d + n) ≤ clock_top (node_at d n)
  pub flows : (e : ℕ) → e < e_of d → slice_index r (f_of d + e) ≤ 1
  pub day : slice_index_or r (day_of d) 0 ≤ cap_of d.nodes

pub fits_of : (d : Drawing) (r : Row) → safe d r ≡ true → Fits d r
fits_of d r h =
    let p = and_parts _ _ h in
    let size = and_parts _ _ p.0 in
    let q = and_parts (nodes_fit d.nodes r) _ p.1 in
    let t = and_parts (edges_fit (f_of d) d.edges r) _ q.1 in
    let nodes : (k : ℕ) → k < n_of d → node_fits (node_at d k) (slice_index r k) (slice_index r (n_of d + k)) ≡ true = (decides_each _ (λ i x. (λ h. h, λ h. h)) no_node d.nodes).0 q.0 in
    let edges : (k : ℕ) → k < e_of d → nat_le (slice_index r (f_of d + k)) 1 ≡ true = (decides_each _ (λ i x. (λ h. h, λ h. h)) no_edge d.edges).0 t.0 in
    record {
      some = ltb-true _ _ size.0;
      long = eqb-true _ _ size.1;
      marks = λ n l. leb-true _ _ (and_parts _ _ (nodes n l)).0;
      clocks = λ n l. leb-true _ _ (and_parts _ _ (nodes n l)).1;
      flows = λ e l. leb-true _ _ (edges e l);
      day = leb-true _ _ t.1;
    }

falls : (b : Bool) (x : ℕ) → cond b x 0 ≤ x
falls true x = omega arith
falls false x = omega arith

cap_below : (ns : List Node) (cap : ℕ) → Amounts ns → cap ≤ 10000 → fold (λ most x. max most (day_after x)) cap ns ≤ 10000
cap_below [] cap h l = l
cap_below (x ∷ xs) cap h l = cap_below xs (max cap (day_after x)) (λ k d m. h (suc k) d (omega arith)) (omega (arith, falls (same_mode x.mode mode.At) (x.amount + 1), h 0 x (omega arith)))

pub cap_low : (ns : List Node) → Amounts ns → cap_of ns ≤ 10000
cap_low ns h = cap_below ns 0 h (omega arith)

pub safe_low : (d : Drawing) (r : Row) → Amounts d.nodes → safe d r ≡ true → AtMost 10000 r
safe_low d r amounts h k =
    let n : ℕ = n_of d in
    let e : ℕ = e_of d in
    let s : Fits d r = fits_of d r h in
    let at : (i : ℕ) → i ≡ k → slice_index r i ≤ 10000 → slice_index r k ≤ 10000 = λ i q l. subst (λ j. slice_index r j ≤ 10000) q l in
    elim (cases_lt k n) [
      | inl a ↦ omega (arith, s.marks k a)
      | inr a ↦ elim (cases_lt k (2 * n)) [
        | inl b ↦ at (n + (k - n)) (omega arith) (omega (arith, s.clocks (k - n) (omega arith), falls (is_after (node_at d (k - n))) (node_at d (k - n)).amount, amounts (k - n)))
        | inr b ↦ elim (cases_lt k (2 * n + e)) [
          | inl c ↦ at (2 * n + (k - 2 * n)) (omega arith) (omega (arith, s.flows (k - 2 * n) (omega arith)))
          | inr c ↦ elim (cases_lt k (2 * n + e + 1)) [
            | inl f ↦ at (2 * n + e) (omega arith) (omega (arith, s.day, cap_low d.nodes amounts))
            | inr f ↦ omega (arith, get_or_past {X = ℕ} r k 0 (omega (arith, s.long)))
          ]
        ]
      ]
    ]
