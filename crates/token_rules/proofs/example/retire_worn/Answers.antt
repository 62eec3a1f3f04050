use Rattle.std.proofs.Common.{◌∙◌}
use Rattle.token_rules.proofs.Retiring.{retire_drawn, stopped}
use Rattle.token_rules.proofs.example.retire_worn.Goals as goal

pub returns : goal.returns
returns c = record { drawing = c.new.ensures ∙ retire_drawn _ _ c.nodes-nodes.ensures c.edges-edges.ensures; stopped = stopped }
