-- Kinds of nodes and modes of timers, and their numbers.
use Rattle.std.specs.Prelude.{ℕ, ◌+◌, Bool, cond, ◌||◌, ◌==◌}
use Rattle.token_tables.specs.declared.kind.Kind.{Kind}
use Rattle.token_tables.specs.declared.kind.Kind.TheVariants as kind
use Rattle.token_tables.specs.declared.mode.Mode.{Mode}
use Rattle.token_tables.specs.declared.mode.Mode.TheVariants as mode

-- a number for each kind, to tell kinds apart; a kind that is none has one from 10 on
abbrev pub code : Kind → ℕ
code kind.Start = 0
code kind.TimedStart = 1
code kind.Task = 2
code kind.Exclusive = 3
code kind.Parallel = 4
code kind.Wait = 5
code kind.Stopping = 6
code kind.Side = 7
code kind.End = 8
code kind.Terminate = 9
code (kind.Other number) = number + 10

abbrev pub same_kind : Kind → Kind → Bool
same_kind j k = code j == code k

-- the kind that a number in a table means
abbrev pub kind_numbered : ℕ → Kind
kind_numbered n =
    cond (n == 0) kind.Start
    (cond (n == 1) kind.TimedStart
    (cond (n == 2) kind.Task
    (cond (n == 3) kind.Exclusive
    (cond (n == 4) kind.Parallel
    (cond (n == 5) kind.Wait
    (cond (n == 6) kind.Stopping
    (cond (n == 7) kind.Side
    (cond (n == 8) kind.End
    (cond (n == 9) kind.Terminate (kind.Other n))))))))))

-- a start, timed or not
abbrev pub is_begin : Kind → Bool
is_begin k = same_kind k kind.Start || same_kind k kind.TimedStart

-- a time limit on a task
abbrev pub is_boundary : Kind → Bool
is_boundary k = same_kind k kind.Stopping || same_kind k kind.Side

-- the same for modes; a mode that is none has a number from 3 on
abbrev pub mode_code : Mode → ℕ
mode_code mode.Untimed = 0
mode_code mode.At = 1
mode_code mode.After = 2
mode_code (mode.Other number) = number + 3

abbrev pub same_mode : Mode → Mode → Bool
same_mode j k = mode_code j == mode_code k

abbrev pub mode_numbered : ℕ → Mode
mode_numbered n = cond (n == 0) mode.Untimed (cond (n == 1) mode.At (cond (n == 2) mode.After (mode.Other n)))
