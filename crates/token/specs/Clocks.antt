-- How far the clocks of a drawing go.
use Rattle.std.specs.Prelude.{ℕ, ◌+◌, max, Bool, cond, List, fold}
use Rattle.token_tables.specs.declared.node.Node.{Node}
use Rattle.token_tables.specs.declared.mode.Mode.TheVariants as mode
use Rattle.token_tables.specs.Kinds.{same_mode}

-- a node that waits for its length
abbrev pub is_after : Node → Bool
is_after x = same_mode x.mode mode.After

-- how far the clock of a node goes: to the length that it waits for, and else not at all
abbrev pub clock_top : Node → ℕ
clock_top x = cond (is_after x) x.amount 0

-- the day after the date that a node waits for, 0 if it waits for none
abbrev pub day_after : Node → ℕ
day_after x = cond (same_mode x.mode mode.At) (x.amount + 1) 0

-- how far the day clock goes: to the day after the last date, or not at all without dates
abbrev pub cap_of : List Node → ℕ
cap_of ns = fold (λ cap x. max cap (day_after x)) 0 ns
