-- All that is promised of a drawing without a fault.
use Rattle.std.specs.Prelude.{◌≡◌, ℕ, ◌<◌}
use Rattle.process.specs.Meaning.{Meaning}
use Rattle.token_tables.specs.declared.kind.Kind.TheVariants as kind
use Rattle.token_tables.specs.Tables.{Drawing, n_of, kind_of}
use Rattle.token_rules.specs.Follows.{Follows}
use Rattle.token_rules.specs.Runs.{SameRuns, Stops}

pub record Ruled (d : Drawing) (m : Meaning) : Type 0 where
  -- choice by choice
  pub follows : Follows d m
  -- and over whole runs
  pub runs : SameRuns d m
  pub stops : (t : ℕ) → t < n_of d → kind_of d t ≡ kind.Task → Stops d t
