-- Where a run stands: its row and its tallies.
use Rattle.std.specs.Prelude.{ℕ, ◌+◌, min, Bool, cond, ◌||◌, ◌==◌}
use Rattle.fixed.specs.Items.{items_of}
use Rattle.process.specs.Meaning.{Meaning, Row}
use Rattle.process.specs.Outcomes.{Answer, gives, refuses, next_outcome}
use Rattle.run.specs.declared.standing.Standing.{Standing}

pub record Stand : Type 0 where
  pub row : Row
  pub moved : ℕ
  pub refused : ℕ

-- where a run stands that keeps s
abbrev pub stand_of : Standing → Stand
stand_of s = record { row = items_of s.row; moved = s.moved; refused = s.refused }

abbrev pub opened : Meaning → Stand
opened m = record { row = m.start; moved = 0; refused = 0 }

-- one more, unless the tally is full
abbrev pub one_more : ℕ → ℕ
one_more n = min (n + 1) 4294967295

-- a press refused by this number is tallied
abbrev pub tallied : ℕ → Bool
tallied n = n == 21 || n == 22

-- the row after a press that answered a and left new in the buffer
abbrev pub row_after : Answer Unit → Row → Row → Row
row_after (gives u) new r = new
row_after (refuses n p) new r = r

-- the stand after it
abbrev pub after_press : Answer Unit → Row → Stand → Stand
after_press (gives u) new s = record { row = new; moved = one_more s.moved; refused = s.refused }
after_press (refuses n p) new s = record { row = s.row; moved = s.moved; refused = cond (tallied n) (one_more s.refused) s.refused }

abbrev pub pressed : Meaning → Stand → ℕ → Row → Stand
pressed m s c b = let o = next_outcome m s.row c b in after_press o.answer o.left s
