-- Which lists make a table: the first fault, in the order of the examination.
use Rattle.std.specs.Prelude.{ℕ, Bool, cond, ◌&&◌, List, length, nat_le, nat_lt}
use Rattle.process.specs.Outcomes.{Answer, gives, refuses}
use Rattle.process.specs.Examining.{first_fault}
use Rattle.table.specs.declared.arc.Arc.{Arc}

-- 1 to 4,096 rows and at most 16,384 arcs
abbrev pub sized : ℕ → ℕ → Bool
sized n m = nat_le 1 n && (nat_le n 4096 && nat_le m 16384)

-- both ends of an arc are rows of a table of n rows
abbrev pub ended : ℕ → Arc → Bool
ended n a = nat_lt a.from n && nat_lt a.to n

-- arc i: its choice, at most 4,095, and then its ends
abbrev pub arc_fault : ℕ → ℕ → Arc → Answer Unit
arc_fault n i a = cond (nat_le a.choice 4095) (cond (ended n a) (gives tt) (refuses 4 i)) (refuses 2 i)

-- the arcs in their order, numbered from i on
abbrev pub examined_arcs : ℕ → ℕ → List Arc → Answer Unit
examined_arcs n i arcs = first_fault (arc_fault n) i arcs

-- the size comes first, then the arcs
abbrev pub examined : List Bool → List Arc → Answer Unit
examined rows arcs = cond (sized (length rows) (length arcs)) (examined_arcs (length rows) 0 arcs) (refuses 1 0)
