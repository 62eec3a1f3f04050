-- What a run comes to, said by its process and its calls alone.
use Rattle.std.specs.Prelude.{◌≡◌, ℕ, ◌+◌, ◌<◌, ◌≤◌, min, Bool, true, false, cond, List, [], ◌∷◌, ◌++◌, length, take, Some, None, Option, ◌≢◌, slice_index_or}
use Rattle.process.specs.Meaning.{Meaning, Row, Path}
use Rattle.process.specs.Outcomes.{Answer, gives, refuses}
use Rattle.process.specs.Counts.{openings_at}
use Rattle.run.specs.Standing.{Stand, tallied}
use Rattle.run.specs.Exchanges.{Entry}
use Rattle.run.specs.declared.exchange.Call.{Call}
use Rattle.run.specs.declared.exchange.Call.TheVariants.{Press, Look, Openings}
use Rattle.run.specs.declared.exchange.Reply.{Reply}
use Rattle.run.specs.declared.exchange.Reply.TheVariants.{Moved, Shown, Counted}

-- the answer to a call at a row, and what its buffer, which held b, then holds
pub data Answers (m : Meaning) (row : Row) : Call → Row → Answer Reply → Row → Type 0 where
  moves : {b s : Row} (c : ℕ) → length b ≡ m.width → c < m.choices → m.next row c ≡ Some s → Answers m row (Press c) b (gives Moved) s
  not_allowed : {b : Row} (c : ℕ) → length b ≡ m.width → c < m.choices → m.next row c ≡ None → Answers m row (Press c) b (refuses 22 0) b
  no_such_choice : {b : Row} (c : ℕ) → length b ≡ m.width → m.choices ≤ c → Answers m row (Press c) b (refuses 21 0) b
  shows : {b : Row} → length b ≡ m.width → Answers m row Look b (gives Shown) row
  counts : {b : Row} → length b ≡ m.width → Answers m row Openings b (gives (Counted (openings_at m row))) row
  wrong_length : {k : Call} {b : Row} → (length b ≢ m.width) → Answers m row k b (refuses 20 0) b

-- an entry before and after its call was made at a row
pub record Answered (m : Meaning) (row : Row) (given done : Entry) : Type 0 where
  pub call : done.call ≡ given.call
  pub answer : Answer Reply
  pub noted : done.answer ≡ Some answer
  pub answers : Answers m row given.call given.buffer answer done.buffer

-- the press moved
abbrev pub is_move : Reply → Bool
is_move Moved = true
is_move Shown = false
is_move (Counted n) = false

abbrev pub has_moved : Option (Answer Reply) → Bool
has_moved None = false
has_moved (Some (gives r)) = is_move r
has_moved (Some (refuses n p)) = false

-- the press was refused by 21 or 22; no other call is
abbrev pub was_barred : Option (Answer Reply) → Bool
was_barred None = false
was_barred (Some (gives r)) = false
was_barred (Some (refuses n p)) = tallied n

abbrev pub choice_of : Call → List ℕ
choice_of (Press c) = c ∷ []
choice_of Look = []
choice_of Openings = []

-- the choices of the presses that moved, in order
abbrev pub moved_choices : List Entry → List ℕ
moved_choices [] = []
moved_choices (e ∷ es) = cond (has_moved e.answer) (choice_of e.call) [] ++ moved_choices es

-- how many of the entries are so
abbrev pub how_many : (Option (Answer Reply) → Bool) → List Entry → ℕ
how_many p [] = 0
how_many p (e ∷ es) = cond (p e.answer) 1 0 + how_many p es

-- where a run stands that was opened and has done these calls
pub record Stood (m : Meaning) (done : List Entry) (here : Stand) : Type 0 where
  -- the row is the end of the path of just the choices that moved
  pub path : Path m m.start (moved_choices done) here.row
  -- the tallies count the presses of each sort, up to their limit
  pub moved : here.moved ≡ min (how_many has_moved done) 4294967295
  pub refused : here.refused ≡ min (how_many was_barred done) 4294967295

-- a run from its opening on: the entries as given and as done, and where it stands at the end
pub record Running (m : Meaning) (given done : List Entry) (end : Stand) : Type 0 where
  pub count : length done ≡ length given
  -- after the opening and n calls it stands somewhere
  pub stood : (n : ℕ) → n ≤ length done → (here : Stand) × Stood m (take n done) here
  -- and there call number n is answered
  pub answered : (n : ℕ) → n < length done → (row : Row) → Path m m.start (moved_choices (take n done)) row → (d : Entry) → Answered m row (slice_index_or given n d) (slice_index_or done n d)
  -- closed or not, it then stands at the end
  pub ended : Stood m done end
