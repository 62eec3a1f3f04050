-- What looking and asking answer.
use Rattle.std.specs.Prelude.{ℕ, cond, length, ◌==◌}
use Rattle.process.specs.Meaning.{Meaning, Row}
use Rattle.process.specs.Outcomes.{Answer, gives, refuses, Outcome, wrote, refused}
use Rattle.process.specs.Counts.{openings_at}

abbrev pub look_outcome : Meaning → Row → Row → Outcome
look_outcome m r b = cond (length b == m.width) (wrote r) (refused 20 b)

abbrev pub openings_answer : Meaning → Row → Row → Answer ℕ
openings_answer m r b = cond (length b == m.width) (gives (openings_at m r)) (refuses 20 0)
