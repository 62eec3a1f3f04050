-- An examination: the first fault, in the order in which one looks.
use Rattle.std.specs.Prelude.{ℕ, ◌+◌, List, [], ◌∷◌}
use Rattle.process.specs.Outcomes.{Answer, gives, refuses}

-- the fault of the first part, and if it has none that of the second
abbrev pub then : Answer Unit → Answer Unit → Answer Unit
then (gives x) next = next
then (refuses number place) next = refuses number place

-- the first fault of the elements of a list, which are numbered from i on
abbrev pub first_fault : {X : Type 0} → (ℕ → X → Answer Unit) → ℕ → List X → Answer Unit
first_fault f i [] = gives tt
first_fault f i (x ∷ xs) = then (f i x) (first_fault f (i + 1) xs)
