-- What a table means: a row's one cell is its number, and an arc says where a choice leads.
use Rattle.std.specs.Prelude.{ℕ, ◌+◌, max, Bool, false, cond, ◌&&◌, List, [], ◌∷◌, length, None, Option, ◌==◌, slice_index, slice_index_or, find}
use Rattle.std.specs.Option.{option_map}
use Rattle.process.specs.Meaning.{Meaning, Row}
use Rattle.process.specs.Outcomes.{gave}
use Rattle.table.specs.declared.arc.Arc.{Arc}
use Rattle.table.specs.Examination.{examined}

-- the largest choice of the arcs, 0 without arcs
abbrev pub largest : List Arc → ℕ
largest [] = 0
largest (a ∷ rest) = max a.choice (largest rest)

-- one more than that: choices are numbered from 0
abbrev pub count_choices : List Arc → ℕ
count_choices arcs = largest arcs + 1

-- row n: its one cell is its number
abbrev pub row_of : ℕ → Row
row_of n = n ∷ []

-- the flag of row n; past the last row none is safe
abbrev pub flag_at : List Bool → ℕ → Bool
flag_at rows n = slice_index_or rows n false

-- a row is safe if it has one cell, which is the number of a row flagged safe
abbrev pub flagged : List Bool → Row → Bool
flagged rows r = length r == 1 && flag_at rows (slice_index r 0)

-- an arc is for choice c at row n
abbrev pub applies : ℕ → ℕ → Arc → Bool
applies n c a = a.from == n && a.choice == c

-- where choice c leads from row n: the end of the first arc for it
abbrev pub lead : ℕ → ℕ → List Arc → Option ℕ
lead n c arcs = option_map (λ (a : Arc). a.to) (find (applies n c) arcs)

-- the next row, None where the row is not safe or no arc is for the choice
abbrev pub lead_safely : List Bool → List Arc → Row → ℕ → Option Row
lead_safely rows arcs r c = cond (flagged rows r) (option_map row_of (lead (slice_index r 0) c arcs)) None

-- the process of a table without a fault, and of one without rows
abbrev pub meaning_of : List Bool → List Arc → Meaning
meaning_of rows arcs =
    record {
      width = 1;
      choices = count_choices arcs;
      start = row_of 0;
      safe = flagged rows;
      next = lead_safely rows arcs;
    }

-- what a table keeps of a list: all of it, or nothing where it has a fault
abbrev pub kept : {X : Type 0} → List Bool → List Arc → List X → List X
kept rows arcs xs = cond (gave (examined rows arcs)) xs []

-- a table with a fault means what one without rows does
abbrev pub tabled : List Bool → List Arc → Meaning
tabled rows arcs = cond (gave (examined rows arcs)) (meaning_of rows arcs) (meaning_of [] [])
