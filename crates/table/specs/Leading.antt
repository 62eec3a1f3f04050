-- Where a table leads, in words of its rows and its arcs.
use Rattle.std.specs.Prelude.{◌≡◌, ℕ, ◌<◌, Bool, true, List, length, Some, slice_index_or}
use Rattle.process.specs.Meaning.{Meaning, Row}
use Rattle.table.specs.declared.arc.Arc.{Arc}
use Rattle.table.specs.Tables.{row_of, flag_at}

-- arc i; only asked for where there is one
abbrev pub arc_at : List Arc → ℕ → Arc
arc_at arcs i = slice_index_or arcs i (record { from = 0; choice = 0; to = 0 })

-- an arc is for choice c at row n
abbrev pub For : ℕ → ℕ → Arc → Type 0
For n c a = (a.from ≡ n) × (a.choice ≡ c)

-- arc i is the first that is for choice c at row n
pub record First (n c : ℕ) (arcs : List Arc) (i : ℕ) : Type 0 where
  pub within : i < length arcs
  pub here : For n c (arc_at arcs i)
  pub before : (k : ℕ) → k < i → For n c (arc_at arcs k) → ⊥

-- choice c leads from r to s: r is a row n that is flagged safe, and s is the end of the first arc for c at n
pub record Leads (rows : List Bool) (arcs : List Arc) (r : Row) (c : ℕ) (s : Row) : Type 0 where
  pub n : ℕ
  pub i : ℕ
  pub row : r ≡ row_of n
  pub safe : flag_at rows n ≡ true
  pub first : First n c arcs i
  pub end : s ≡ row_of (arc_at arcs i).to

-- a process goes exactly where the rows and arcs lead
abbrev pub Follows : List Bool → List Arc → Meaning → Type 0
Follows rows arcs m =
    (r s : Row) (c : ℕ) → (m.next r c ≡ Some s → Leads rows arcs r c s) × (Leads rows arcs r c s → m.next r c ≡ Some s)
