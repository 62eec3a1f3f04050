-- What a process means: its rows, its choices, where each choice leads, and which rows can be reached.
use Rattle.std.specs.Prelude.{◌≡◌, ℕ, ◌<◌, ◌≤◌, Bool, true, false, List, [], ◌∷◌, length, Some, None, Option, slice_index}

-- a row is a list of cells
abbrev pub Row : Type 0
Row = List ℕ

pub record Meaning : Type 0 where
  pub width : ℕ
  pub choices : ℕ
  pub start : Row
  pub safe : Row → Bool
  -- where a choice leads from a row, or None where it is not allowed
  pub next : Row → ℕ → Option Row

-- every cell is an unsigned 16-bit number
abbrev pub Cells : Row → Type 0
Cells r = (k : ℕ) → slice_index r k < 65536

pub record IsRow (w : ℕ) (r : Row) : Type 0 where
  pub long : length r ≡ w
  pub cells : Cells r

-- what every process keeps to
pub record Lawful (m : Meaning) : Type 0 where
  pub width_low : 1 ≤ m.width
  pub width_high : m.width ≤ 512
  pub choices_low : 1 ≤ m.choices
  pub choices_high : m.choices ≤ 4096
  pub start_row : IsRow m.width m.start
  pub safe_row : (r : Row) → m.safe r ≡ true → length r ≡ m.width
  pub next_row : (r s : Row) (c : ℕ) → IsRow m.width r → c < m.choices → m.next r c ≡ Some s → IsRow m.width s

-- the rows that a run can come to
pub data Reachable (m : Meaning) : Row → Type 0 where
  at_start : Reachable m m.start
  by_choice : {r s : Row} (c : ℕ) → Reachable m r → c < m.choices → m.next r c ≡ Some s → Reachable m s

-- these choices, one after the other, lead from the first row to the second
pub data Path (m : Meaning) : Row → List ℕ → Row → Type 0 where
  stay : {r : Row} → Path m r [] r
  step : {r s t : Row} {cs : List ℕ} (c : ℕ) → c < m.choices → m.next r c ≡ Some s → Path m s cs t → Path m r (c ∷ cs) t

-- the process that refused tables make: one cell, which starts at 0, and one choice; no row is safe, and nothing is allowed
pub record Blank (m : Meaning) : Type 0 where
  pub width : m.width ≡ 1
  pub choices : m.choices ≡ 1
  pub start : m.start ≡ 0 ∷ []
  pub safe : (r : Row) → m.safe r ≡ false
  pub next : (r : Row) (c : ℕ) → m.next r c ≡ None
