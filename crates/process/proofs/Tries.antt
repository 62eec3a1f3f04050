-- What calls with a buffer of the right width come to, and what they add to a count.
use Rattle.std.proofs.Common.{◌≡◌, ℕ, ◌+◌, ◌<◌, ◌≤◌, true, false, length, is_ok, Some, None, Ok, Err, Option, Result, sym, refl, ap, ◌∙◌, add-one, arith}
use Rattle.std.proofs.lemmas.Bool.{eq-eqb, lt-ltb, cond-true}
use Rattle.process.specs.Meaning.{Meaning, Row, Reachable, at_start, by_choice, Lawful, IsRow}
use Rattle.process.specs.Outcomes.{Outcome, told, start_outcome, next_outcome, next_or, wrote}
use Rattle.process.specs.Counts.{sum_below, one_if}
use Rattle.process.specs.declared.refusal.Refusal.{Refusal}

-- a buffer of the width gets the start row
pub started : (m : Meaning) (b : Row) → length b ≡ m.width → start_outcome m b ≡ wrote m.start
started m b e = cond-true _ _ _ (eq-eqb _ _ e)

-- a choice that there is, at buffers of the width, is answered by what comes next
tried : (m : Meaning) (r b : Row) (c : ℕ) → length r ≡ m.width → length b ≡ m.width → c < m.choices → next_outcome m r c b ≡ next_or (m.next r c) b
tried m r b c p q h = cond-true _ _ _ (eq-eqb _ _ p) ∙ cond-true _ _ _ (eq-eqb _ _ q) ∙ cond-true _ _ _ (lt-ltb _ _ h)

pub one_if_le : {X : Type 0} (o : Option X) → one_if o ≤ 1
one_if_le (Some x) = omega arith
one_if_le None = omega arith

pub sum_more : (f : ℕ → ℕ) (n : ℕ) → sum_below f (n + 1) ≡ sum_below f n + f n
sum_more f n = rw add-one

-- an answer that gives something comes from a next row, which the buffer then holds; a refusal from none
by_answer : (o : Option Row) (b new : Row) (a : Result Unit Refusal) → told a ≡ (next_or o b).answer → new ≡ (next_or o b).left →
    (is_ok a ≡ true → o ≡ Some new) × (is_ok a ≡ false → o ≡ None)
by_answer (Some s) b new (Ok u) e l = (λ t. ap Some (sym l), λ f. cc)
by_answer (Some s) b new (Err w) e l = (λ t. cc, λ f. cc)
by_answer None b new (Ok u) e l = (λ t. cc, λ f. cc)
by_answer None b new (Err w) e l = (λ t. cc, λ f. refl)

-- the same of a call of `next` with buffers of the width
pub next_told : (m : Meaning) (r b new : Row) (c : ℕ) (a : Result Unit Refusal) → length r ≡ m.width → length b ≡ m.width → c < m.choices →
    told a ≡ (next_outcome m r c b).answer → new ≡ (next_outcome m r c b).left → (is_ok a ≡ true → m.next r c ≡ Some new) × (is_ok a ≡ false → m.next r c ≡ None)
next_told m r b new c a p q h e f =
    let is = tried m r b c p q h in
    by_answer (m.next r c) b new a (e ∙ ap (λ (o : Outcome). o.answer) is) (f ∙ ap (λ (o : Outcome). o.left) is)

-- a row that can be reached is a row
pub reach_row : (m : Meaning) → Lawful m → (r : Row) → Reachable m r → IsRow m.width r
reach_row m w r at_start = w.start_row
reach_row m w r (by_choice c q h e) = w.next_row _ _ c (reach_row m w _ q) h e
