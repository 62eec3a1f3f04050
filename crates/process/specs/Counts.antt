-- How many choices are allowed.
use Rattle.std.specs.Prelude.{ℕ, zero, suc, ◌+◌, Some, None, Option}
use Rattle.process.specs.Meaning.{Meaning, Row}

abbrev pub sum_below : (ℕ → ℕ) → ℕ → ℕ
sum_below f zero = 0
sum_below f (suc n) = sum_below f n + f n

abbrev pub one_if : {X : Type 0} → Option X → ℕ
one_if (Some x) = 1
one_if None = 0

-- the number of choices that are allowed at a row
abbrev pub openings_at : Meaning → Row → ℕ
openings_at m r = sum_below (λ c. one_if (m.next r c)) m.choices
