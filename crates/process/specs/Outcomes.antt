-- What each call of a process answers, and what it leaves in its buffer.
use Rattle.std.specs.Prelude.{ℕ, Bool, true, false, cond, ◌&&◌, length, Some, None, Ok, Err, Option, Result, ◌==◌, nat_lt}
use Rattle.process.specs.Meaning.{Meaning, Row}
use Rattle.process.specs.Refusals.{number_of, place_of}
use Rattle.process.specs.declared.refusal.Refusal.{Refusal}

-- an answer as it is told: what was asked for, or a refusal by its number and its place
pub data Answer (X : Type 0) : Type 0 where
  gives : X → Answer X
  refuses : ℕ → ℕ → Answer X

-- whether an answer gives what was asked for
abbrev pub gave : {X : Type 0} → Answer X → Bool
gave (gives x) = true
gave (refuses number place) = false

-- an answer of the code, whose errors have numbers and places
abbrev pub told_by : {X E : Type 0} → (E → ℕ) → (E → ℕ) → Result X E → Answer X
told_by number place (Ok x) = gives x
told_by number place (Err e) = refuses (number e) (place e)

abbrev pub told : {X : Type 0} → Result X Refusal → Answer X
told r = told_by number_of place_of r

-- what comes of a call with a buffer: its answer, and what the buffer then holds
pub record Outcome : Type 0 where
  pub answer : Answer Unit
  pub left : Row

abbrev pub wrote : Row → Outcome
wrote r = record { answer = gives tt; left = r }

-- a refusal leaves the buffer, which held b, as it was
abbrev pub refused : ℕ → Row → Outcome
refused n b = record { answer = refuses n 0; left = b }

abbrev pub start_outcome : Meaning → Row → Outcome
start_outcome m b = cond (length b == m.width) (wrote m.start) (refused 20 b)

-- whether a row, a choice and a buffer that holds b are of the process at all
abbrev pub admitted : Meaning → Row → ℕ → Row → Answer Unit
admitted m r c b = cond (length r == m.width && length b == m.width) (cond (nat_lt c m.choices) (gives tt) (refuses 21 0)) (refuses 20 0)

abbrev pub next_or : Option Row → Row → Outcome
next_or (Some s) b = wrote s
next_or None b = refused 22 b

abbrev pub next_outcome : Meaning → Row → ℕ → Row → Outcome
next_outcome m r c b =
    cond (length r == m.width)
    (cond (length b == m.width) (cond (nat_lt c m.choices) (next_or (m.next r c) b) (refused 21 b)) (refused 20 b))
    (refused 20 b)
