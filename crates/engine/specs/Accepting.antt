-- When inspection accepts a book, and what it finds where it does not.
use Rattle.std.specs.Prelude.{◌≡◌, ℕ, ◌<◌, true, false, ◌↔◌, length, Some, ◌≢◌}
use Rattle.process.specs.Meaning.{Meaning, Row}
use Rattle.book.specs.Listing.{Listing, IsBook, In, row_at}
use Rattle.inspect.specs.Findings.{Finding, accepts, faults, fault_at}
use Rattle.inspect.specs.Verdicts.{verdict, moves_in}

-- inspection accepts this book of this process
abbrev pub Accepts : Meaning → Listing → Type 0
Accepts m l = (moves : ℕ) × (verdict m l ≡ accepts moves)

-- the book holds the start row, only safe rows, and every row that an allowed choice reaches from one of its rows
pub record Closed (m : Meaning) (l : Listing) : Type 0 where
  pub start : In l m.start
  pub safe : (r : Row) → In l r → m.safe r ≡ true
  pub stays : (r s : Row) (c : ℕ) → In l r → c < m.choices → m.next r c ≡ Some s → In l s

-- where the choice is allowed at the row, it leads to a row of the book
abbrev pub StaysBy : Meaning → Listing → Row → ℕ → Type 0
StaysBy m l r c = (s : Row) → m.next r c ≡ Some s → In l s

-- the row is safe, and no choice leads from it out of the book
pub record Sound (m : Meaning) (l : Listing) (r : Row) : Type 0 where
  pub safe : m.safe r ≡ true
  pub stays : (c : ℕ) → c < m.choices → StaysBy m l r c

-- the book has the width, the start row, and sound rows before row i
pub record SoundTo (m : Meaning) (l : Listing) (i : ℕ) : Type 0 where
  pub widths : l.width ≡ m.width
  pub start : In l m.start
  pub within : i < length l.rows
  pub before : (j : ℕ) → j < i → Sound m l (row_at l j)

-- what is to be found in the book: that it is closed, with its moves, or its first fault, with its row and choice
pub data Finds (m : Meaning) (l : Listing) : Finding → Type 0 where
  no_fault : Closed m l → Finds m l (accepts (moves_in m l (length l.rows)))
  width_differs : (l.width ≢ m.width) → Finds m l (faults (fault_at 13 0 0))
  start_not_held : l.width ≡ m.width → (In l m.start → ⊥) → Finds m l (faults (fault_at 14 0 0))
  unsafe_row : (i : ℕ) → SoundTo m l i → m.safe (row_at l i) ≡ false → Finds m l (faults (fault_at 15 i 0))
  leads_out : (i c : ℕ) (s : Row) → SoundTo m l i → m.safe (row_at l i) ≡ true → c < m.choices →
      ((b : ℕ) → b < c → StaysBy m l (row_at l i) b) → m.next (row_at l i) c ≡ Some s → (In l s → ⊥) → Finds m l (faults (fault_at 16 i c))

-- what inspection found of this book, and what it finds of any book
pub record Accepting (m : Meaning) (l : Listing) (found : Finding) : Type 0 where
  pub found_is : found ≡ verdict m l
  -- this book is accepted exactly when it is closed
  pub this : ((moves : ℕ) × (found ≡ accepts moves)) ↔ Closed m l
  -- and so is every book
  pub every : (k : Listing) → IsBook k → Accepts m k ↔ Closed m k
  -- and just one thing is to be found in a book, which inspection finds
  pub first : (k : Listing) → IsBook k → (f : Finding) → (f ≡ verdict m k) ↔ Finds m k f
