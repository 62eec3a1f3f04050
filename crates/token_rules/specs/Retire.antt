-- An example: a worn cartridge is retired when an operator confirms it, or put back on the shelf after two units.
use Rattle.std.specs.Prelude.{◌≡◌, ℕ, [], ◌∷◌}
use Rattle.token_tables.specs.declared.node.Node.{Node}
use Rattle.token_tables.specs.declared.edge.Edge.{Edge}
use Rattle.token_tables.specs.declared.kind.Kind.{Kind}
use Rattle.token_tables.specs.declared.kind.Kind.TheVariants as kind
use Rattle.token_tables.specs.declared.mode.Mode.TheVariants as mode
use Rattle.token_tables.specs.Tables.{Drawing, kind_of}
use Rattle.token.specs.declared.act.Act.TheVariants.{Pass, Complete, Enter}
use Rattle.token_rules.specs.Relation.{State, Same, Step, begins}
use Rattle.token_rules.specs.Runs.{Run, StoppedBy}

abbrev untimed : Kind → Node
untimed k = record { kind = k; host = 0; mode = mode.Untimed; amount = 0 }

abbrev from_to : ℕ → ℕ → Edge
from_to a b = record { source = a; target = b }

-- 0 the start, 1 the task "confirm the retirement", 2 its time limit, 3 retired, 4 put back on the shelf
abbrev pub retire : Drawing
retire = record {
  nodes = untimed kind.Start ∷ untimed kind.Task ∷ record { kind = kind.Stopping; host = 1; mode = mode.After; amount = 2 } ∷ untimed kind.End ∷ untimed kind.End ∷ [];
  edges = from_to 0 1 ∷ from_to 1 3 ∷ from_to 2 4 ∷ [];
}

-- A run in which the task is stopped. In the unit before, the operator could have confirmed it; in the unit in which
-- the limit is due, it is too late.
pub record Stopped : Type 0 where
  pub task : kind_of retire 1 ≡ kind.Task
  pub limit : StoppedBy retire 1 2
  pub start : State
  pub asked : State
  pub due : State
  pub end : State
  pub begun : Same retire start (begins retire)
  pub entered : Run retire start (Complete 0 ∷ Enter 0 ∷ Pass ∷ []) asked
  pub in_time : (t : State) × Step retire asked t (Complete 1)
  pub passed : Step retire asked due Pass
  pub too_late : (t : State) → Step retire due t (Complete 1) → ⊥
  pub stopped : Run retire due (Complete 2 ∷ Enter 2 ∷ []) end
  pub not_retired : end.mark 3 ≡ 0
  pub shelved : end.mark 4 ≡ 1
