-- A book is accepted just where it is closed, and then holds every row that can be reached.
use Rattle.std.proofs.Common.{◌≡◌, ℕ, zero, suc, ◌<◌, Bool, true, false, cond, ◌↔◌, length, Some, None, Option, sym, refl, ap, ◌∙◌, subst, inl, inr, arith}
use Rattle.std.proofs.lemmas.Bool.{eq-eqb, cond-true, cases_lt}
use Rattle.process.specs.Meaning.{Meaning, Row, Lawful, Reachable, at_start, by_choice}
use Rattle.book.specs.Listing.{Listing, IsBook, In, row_at, among}
use Rattle.book.proofs.Held.{among_in, in_among}
use Rattle.inspect.specs.Findings.{FaultAt, fault_at, accepts, faults}
use Rattle.inspect.specs.Verdicts.{or_else, first_below, led_out, choice_fault, row_fault, moves_in, or_accepts, verdict}
use Rattle.engine.specs.Accepting.{Accepts, Closed}

none_of : {X : Type 0} (a b : Option X) → or_else a b ≡ None → (a ≡ None) × (b ≡ None)
none_of (Some x) b e = (cc, cc)
none_of None b e = (refl, e)

pub none_below : {X : Type 0} (f : ℕ → Option X) (n k : ℕ) → first_below f n ≡ None → k < n → f k ≡ None
none_below f zero k e h = absurd (omega arith)
none_below f (suc n) k e h =
    let p = none_of _ _ e in
    elim (cases_lt k n) [
      | inl l ↦ none_below f n k p.0 l
      | inr g ↦ let same : n ≡ k = omega arith in subst (λ i. f i ≡ None) same p.1
    ]

pub below_none : {X : Type 0} (f : ℕ → Option X) (n : ℕ) → ((k : ℕ) → k < n → f k ≡ None) → first_below f n ≡ None
below_none f zero h = refl
below_none f (suc n) h = ap (λ o. or_else o (f n)) (below_none f n (λ k l. h k (omega arith))) ∙ h n (omega arith)

-- each test that a verdict passed
accepted_parts : (a b : Bool) (o : Option FaultAt) (k n : ℕ) → cond a (cond b (or_accepts o k) (faults (fault_at 14 0 0))) (faults (fault_at 13 0 0)) ≡ accepts n →
    (a ≡ true) × (b ≡ true) × (o ≡ None)
accepted_parts false b o k n e = (cc, cc, cc)
accepted_parts true false o k n e = (cc, cc, cc)
accepted_parts true true (Some f) k n e = (refl, refl, cc)
accepted_parts true true None k n e = (refl, refl, refl)

pub row_parts : (b : Bool) (o : Option FaultAt) (f : FaultAt) → cond b o (Some f) ≡ None → (b ≡ true) × (o ≡ None)
row_parts true o f e = (refl, e)
row_parts false o f e = (cc, cc)

pub led_parts : (b : Bool) (f : FaultAt) → cond b None (Some f) ≡ None → b ≡ true
led_parts true f e = refl
led_parts false f e = cc

pub accepted_closed : (m : Meaning) (l : Listing) → Accepts m l → Closed m l
accepted_closed m l a =
    let p = accepted_parts _ _ _ _ _ a.1 in
    let row : (i : ℕ) → i < length l.rows → (m.safe (row_at l i) ≡ true) × (first_below (choice_fault m l i (row_at l i)) m.choices ≡ None) =
    λ i h. row_parts _ _ _ (none_below (row_fault m l) (length l.rows) i p.2 h) in
    record {
      start = among_in _ _ p.1;
      safe = λ r q. ap m.safe (sym q.2) ∙ (row q.0 q.1).0;
      stays = λ r s c q h f.
          let i = q.0 in
          let none = none_below _ m.choices c (row i q.1).1 h in
          let next : m.next (row_at l i) c ≡ Some s = ap (λ (x : Row). m.next x c) q.2 ∙ f in
          among_in s l.rows (led_parts _ _ (sym (ap (led_out l i c) next) ∙ none));
    }

-- a book that holds the start row has the width of the process
pub closed_width : (m : Meaning) (l : Listing) → Lawful m → IsBook l → In l m.start → l.width ≡ m.width
closed_width m l w b p = sym (b.each p.0 p.1).long ∙ ap length p.2 ∙ w.start_row.long

no_fault : (l : Listing) (i c : ℕ) (o : Option Row) → ((s : Row) → o ≡ Some s → among s l.rows ≡ true) → led_out l i c o ≡ None
no_fault l i c None h = refl
no_fault l i c (Some s) h = cond-true _ _ _ (h s refl)

pub closed_is : (m : Meaning) (l : Listing) → Lawful m → IsBook l → Closed m l → verdict m l ≡ accepts (moves_in m l (length l.rows))
closed_is m l w b d =
    let in_rows : (i : ℕ) → i < length l.rows → In l (row_at l i) = λ i h. (i, h, refl) in
    let held : (s : Row) → In l s → among s l.rows ≡ true = λ s p. in_among s l.rows p.0 p.1 p.2 in
    let choice : (i : ℕ) → i < length l.rows → (c : ℕ) → c < m.choices → choice_fault m l i (row_at l i) c ≡ None =
    λ i h c k. no_fault l i c (m.next (row_at l i) c) (λ s e. held s (d.stays (row_at l i) s c (in_rows i h) k e)) in
    let row : (i : ℕ) → i < length l.rows → row_fault m l i ≡ None =
    λ i h. cond-true _ _ _ (d.safe (row_at l i) (in_rows i h)) ∙ below_none _ m.choices (choice i h) in
    cond-true _ _ _ (eq-eqb _ _ (closed_width m l w b d.start)) ∙ cond-true _ _ _ (held m.start d.start)
    ∙ ap (λ o. or_accepts o (moves_in m l (length l.rows))) (below_none (row_fault m l) (length l.rows) row)

pub accepted_iff : (m : Meaning) (l : Listing) → Lawful m → IsBook l → Accepts m l ↔ Closed m l
accepted_iff m l w b = (accepted_closed m l, λ d. (_, closed_is m l w b d))

pub closed_in : (m : Meaning) (l : Listing) → Closed m l → (r : Row) → Reachable m r → In l r
closed_in m l d r at_start = d.start
closed_in m l d r (by_choice c q h e) = d.stays _ _ c (closed_in m l d _ q) h e
