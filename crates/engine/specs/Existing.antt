-- When a process has a book that inspection accepts.
use Rattle.std.specs.Prelude.{◌≡◌, ℕ, ◌<◌, ◌≤◌, true, ◌↔◌, List, [], length, slice_index_or}
use Rattle.process.specs.Meaning.{Meaning, Row, Cells, Reachable}
use Rattle.book.specs.Listing.{Listing, IsBook, In}
use Rattle.book.specs.Listed.{listed}
use Rattle.engine.specs.Accepting.{Accepts}

-- every row that a run can come to is safe
abbrev pub AllSafe : Meaning → Type 0
AllSafe m = (r : Row) → Reachable m r → m.safe r ≡ true

-- the row stands somewhere in the list
abbrev pub Has : List Row → Row → Type 0
Has rows r = (i : ℕ) × (i < length rows) × (slice_index_or rows i [] ≡ r)

-- no row stands twice in the list
abbrev pub Once : List Row → Type 0
Once rows = (i j : ℕ) → i < length rows → j < length rows → slice_index_or rows i [] ≡ slice_index_or rows j [] → i ≡ j

-- the list holds just the rows that a run can come to, and none of them twice
pub record Census (m : Meaning) (rows : List Row) : Type 0 where
  pub only : (r : Row) → Has rows r → Reachable m r
  pub all : (r : Row) → Reachable m r → Has rows r
  pub once : Once rows

-- the rows that a run can come to number at most 65,535
abbrev pub Few : Meaning → Type 0
Few m = (rows : List Row) × Census m rows × (length rows ≤ 65535)

-- the process has a book that inspection accepts
abbrev pub HasBook : Meaning → Type 0
HasBook m = (l : Listing) × IsBook l × Accepts m l

pub record Existing (m : Meaning) : Type 0 where
  -- there is an accepted book exactly when the reachable rows are all safe and number at most 65,535
  pub exactly : HasBook m ↔ (AllSafe m × Few m)
  -- every book of just those rows, in any order and with repeats, is then accepted
  pub any : (l : Listing) → IsBook l → ((r : Row) → In l r ↔ Reachable m r) → AllSafe m → Accepts m l
  -- each book can be written as one list of 16-bit cells, which a listed book takes
  pub written : (l : Listing) → IsBook l → (cells : Row) × Cells cells × (listed cells l.width ≡ l)
  -- no accepted book has fewer rows than can be reached
  pub least : (l : Listing) → IsBook l → Accepts m l → (rows : List Row) × Census m rows × (length rows ≤ length l.rows)
  -- and that number is one: all lists of just those rows, without repeats, are equally long
  pub number : (a b : List Row) → Census m a → Census m b → length a ≡ length b
