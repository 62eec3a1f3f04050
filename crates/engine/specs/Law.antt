-- The law of the engine: what it means that a book is accepted, what a run comes to, and when there is a book.
use Rattle.std.specs.Prelude.{◌≡◌, ℕ, ◌≤◌, true, List, length, take}
use Rattle.process.specs.Meaning.{Meaning, Row, Reachable, Path}
use Rattle.book.specs.Listing.{Listing, IsBook, In}
use Rattle.run.specs.Standing.{Stand, opened}
use Rattle.run.specs.Exchanges.{Entry, all_made, stand_all_made}
use Rattle.inspect.specs.Findings.{Finding}
use Rattle.inspect.specs.Verdicts.{verdict}
use Rattle.engine.specs.Accepting.{Accepts, Accepting}
use Rattle.engine.specs.Existing.{Existing}
use Rattle.engine.specs.Running.{moved_choices, Running}

-- the row can be reached, and every accepted book of the process holds it, as a safe row
pub record Held (m : Meaning) (r : Row) : Type 0 where
  pub reachable : Reachable m r
  pub listed : (k : Listing) → IsBook k → Accepts m k → In k r
  pub safe : (k : Listing) → IsBook k → Accepts m k → m.safe r ≡ true

pub record Law (m : Meaning) (l : Listing) (found : Finding) (given done : List Entry) (end : Stand) : Type 0 where
  pub accepting : Accepting m l found
  -- each answer, and the row and the tallies after it, are those of the process and the calls
  pub running : Running m given done end
  -- and of these alone: no other answers, row or tallies would do
  pub alone : (done' : List Entry) (end' : Stand) → Running m given done' end' → (done' ≡ done) × (end' ≡ end)
  -- after the opening and after each call the row is held
  pub held : (n : ℕ) → n ≤ length done → (r : Row) → Path m m.start (moved_choices (take n done)) r → Held m r
  pub held_at_end : Held m end.row
  pub existing : Existing m

-- whatever inspection finds of the book, and whatever calls a run is played with, the law holds
abbrev pub Holds : Meaning → Listing → Type 0
Holds m l =
    (found : Finding) (given done : List Entry) (end : Stand) → found ≡ verdict m l → done ≡ all_made m (opened m) given →
    end ≡ stand_all_made m (opened m) given → Law m l found given done end
