-- Inspection finds just what is to be found in a book.
use Rattle.std.proofs.Common.{◌≡◌, ℕ, zero, suc, ◌<◌, Bool, true, false, cond, eqb, ◌↔◌, length, Some, None, Option, sym, refl, ap, ◌∙◌, subst, inl, inr, arith}
use Rattle.std.proofs.lemmas.Bool.{eq-eqb, ne_eqb, eqb-true, eqb-false, cond-true, cond-false, cases_Bool, both_ways}
use Rattle.process.specs.Meaning.{Meaning, Row, Lawful}
use Rattle.book.specs.Listing.{Listing, IsBook, In, row_at, among}
use Rattle.book.proofs.Held.{among_in, in_among, not_among}
use Rattle.inspect.specs.Findings.{FaultAt, fault_at, Finding, faults}
use Rattle.inspect.specs.Verdicts.{or_else, first_below, led_out, choice_fault, row_fault, moves_in, or_accepts, verdict}
use Rattle.inspect.proofs.Scans.{fault_is, leave_fault}
use Rattle.engine.specs.Accepting.{StaysBy, Sound, SoundTo, Finds, no_fault, width_differs, start_not_held, unsafe_row, leads_out}
use Rattle.engine.proofs.Closing.{none_below, below_none, row_parts, led_parts, accepted_closed, closed_is}

-- the first that gives something
abbrev First : {X : Type 0} → (ℕ → Option X) → ℕ → X → Type 0
First f n x = (k : ℕ) × (k < n) × (f k ≡ Some x) × ((j : ℕ) → j < k → f j ≡ None)

first_step : {X : Type 0} (f : ℕ → Option X) (n : ℕ) (x : X) (o : Option X) → first_below f n ≡ o → ((y : X) → first_below f n ≡ Some y → First f n y) → or_else o (f n) ≡ Some x → First f (suc n) x
first_step f n x (Some y) e ih h =
    let same : y ≡ x = cc in
    let p = ih x (e ∙ ap Some same) in (p.0, omega arith, p.2, p.3)
first_step f n x None e ih h = (n, omega arith, h, λ j k. none_below f n j e k)

first_some : {X : Type 0} (f : ℕ → Option X) (n : ℕ) (x : X) → first_below f n ≡ Some x → First f n x
first_some f zero x e = let z : ◌≡◌ {A = ℕ} 0 1 = cc in absurd (omega arith)
first_some f (suc n) x e = first_step f n x (first_below f n) refl (first_some f n) e

not_in : (l : Listing) (s : Row) → among s l.rows ≡ false → In l s → ⊥
not_in l s e p = both_ways _ e (in_among s l.rows p.0 p.1 p.2)

stays_by : (m : Meaning) (l : Listing) (i : ℕ) (r : Row) (c : ℕ) → choice_fault m l i r c ≡ None → StaysBy m l r c
stays_by m l i r c none s e = among_in s l.rows (led_parts _ _ (sym (ap (led_out l i c) e) ∙ none))

sound_row : (m : Meaning) (l : Listing) (i : ℕ) → row_fault m l i ≡ None → Sound m l (row_at l i)
sound_row m l i none =
    let p = row_parts _ _ _ none in
    record { safe = p.0; stays = λ c h. stays_by m l i (row_at l i) c (none_below _ m.choices c p.1 h) }

-- the fault of a choice is that it leads out
led : (l : Listing) (i c : ℕ) (o : Option Row) (f : FaultAt) → led_out l i c o ≡ Some f → (s : Row) × (o ≡ Some s) × (among s l.rows ≡ false) × (f ≡ fault_at 16 i c)
led l i c None f e = let z : ◌≡◌ {A = ℕ} 0 1 = cc in absurd (omega arith)
led l i c (Some s) f e =
    elim (cases_Bool (among s l.rows)) [
      | inl t ↦ let x : None ≡ Some f = sym (cond-true _ _ _ t) ∙ e in let z : ◌≡◌ {A = ℕ} 0 1 = cc in absurd (omega arith)
      | inr n ↦ let x : Some (fault_at 16 i c) ≡ Some f = sym (cond-false _ _ _ n) ∙ e in (s, refl, n, cc)
    ]

fault_found : (m : Meaning) (l : Listing) (i : ℕ) (f : FaultAt) → SoundTo m l i → row_fault m l i ≡ Some f → Finds m l (faults f)
fault_found m l i f to e =
    elim (cases_Bool (m.safe (row_at l i))) [
      | inl t ↦
          let p = first_some _ m.choices f (sym (cond-true _ _ _ t) ∙ e) in
          let c = p.0 in
          let o = led l i c (m.next (row_at l i) c) f p.2 in
          subst (λ (x : FaultAt). Finds m l (faults x)) (sym o.3)
          (leads_out i c o.0 to t p.1 (λ b h. stays_by m l i (row_at l i) b (p.3 b h)) o.1 (not_in l o.0 o.2))
      | inr n ↦
          let x : Some (fault_at 15 i 0) ≡ Some f = sym (cond-false _ _ _ n) ∙ e in
          let same : fault_at 15 i 0 ≡ f = cc in
          subst (λ (y : FaultAt). Finds m l (faults y)) same (unsafe_row i to n)
    ]

by_parts : (m : Meaning) (l : Listing) (a b : Bool) (o : Option FaultAt) → eqb l.width m.width ≡ a → among m.start l.rows ≡ b → first_below (row_fault m l) (length l.rows) ≡ o →
    Finds m l (cond a (cond b (or_accepts o (moves_in m l (length l.rows))) (faults (fault_at 14 0 0))) (faults (fault_at 13 0 0)))
by_parts m l false b o x y z = width_differs (eqb-false _ _ x)
by_parts m l true false o x y z = start_not_held (eqb-true _ _ x) (not_in l m.start y)
by_parts m l true true None x y z =
    no_fault (accepted_closed m l (_, cond-true _ _ _ x ∙ cond-true _ _ _ y ∙ ap (λ o. or_accepts o (moves_in m l (length l.rows))) z))
by_parts m l true true (Some f) x y z =
    let p = first_some _ (length l.rows) f z in
    fault_found m l p.0 f (record { widths = eqb-true _ _ x; start = among_in _ _ y; within = p.1; before = λ j h. sound_row m l j (p.3 j h) }) p.2

-- what inspection says is to be found
finds : (m : Meaning) (l : Listing) → Finds m l (verdict m l)
finds m l = by_parts m l (eqb l.width m.width) (among m.start l.rows) (first_below (row_fault m l) (length l.rows)) refl refl refl

choice_none : (m : Meaning) (l : Listing) (i : ℕ) (r : Row) (c : ℕ) (o : Option Row) → m.next r c ≡ o → StaysBy m l r c → choice_fault m l i r c ≡ None
choice_none m l i r c None e h = ap (led_out l i c) e
choice_none m l i r c (Some s) e h = let p = h s e in ap (led_out l i c) e ∙ cond-true _ _ _ (in_among s l.rows p.0 p.1 p.2)

row_none : (m : Meaning) (l : Listing) (i : ℕ) → Sound m l (row_at l i) → row_fault m l i ≡ None
row_none m l i s = cond-true _ _ _ s.safe ∙ below_none _ m.choices (λ c h. choice_none m l i (row_at l i) c _ refl (s.stays c h))

out_of : (l : Listing) (s : Row) → (In l s → ⊥) → among s l.rows ≡ false
out_of l s n = not_among s l.rows (λ i h e. n (i, h, e))

fault_said : (m : Meaning) (l : Listing) (i : ℕ) (f : FaultAt) → SoundTo m l i → row_fault m l i ≡ Some f → faults f ≡ verdict m l
fault_said m l i f to e =
    let p = to.start in
    fault_is m l i f to.widths (in_among m.start l.rows p.0 p.1 p.2) (below_none _ i (λ j h. row_none m l j (to.before j h))) to.within e

-- what is to be found is what inspection says
said : (m : Meaning) (l : Listing) → Lawful m → IsBook l → {f : Finding} → Finds m l f → f ≡ verdict m l
said m l w b (no_fault d) = sym (closed_is m l w b d)
said m l w b (width_differs n) = sym (cond-false _ _ _ (ne_eqb _ _ n))
said m l w b (start_not_held e n) = sym (cond-true _ _ _ (eq-eqb _ _ e) ∙ cond-false _ _ _ (out_of l m.start n))
said m l w b (unsafe_row i to n) = fault_said m l i (fault_at 15 i 0) to (cond-false _ _ _ n)
said m l w b (leads_out i c s to t h before e n) =
    let r = row_at l i in
    fault_said m l i (fault_at 16 i c) to
    (leave_fault m l i r c refl t (below_none _ c (λ b k. choice_none m l i r b _ refl (before b k))) h (ap (led_out l i c) e ∙ cond-false _ _ _ (out_of l s n)))

pub found_iff : (m : Meaning) (l : Listing) → Lawful m → IsBook l → (f : Finding) → (f ≡ verdict m l) ↔ Finds m l f
found_iff m l w b f = (λ e. subst (λ (x : Finding). Finds m l x) (sym e) (finds m l), said m l w b)
