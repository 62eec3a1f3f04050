-- What a kind of process promises of all its processes.
use Rattle.std.specs.Prelude.{◌≤◌}
use Rattle.process.specs.Meaning.{Meaning}
use Rattle.process.specs.declared.limits.Limits.{Limits}

-- no process of the kind is wider or has more choices than the kind says
pub record Within (k : Limits) (m : Meaning) : Type 0 where
  pub width : m.width ≤ k.widest
  pub choices : m.choices ≤ k.most_choices
  pub widest : k.widest ≤ 512
  pub most : k.most_choices ≤ 4096
