use Rattle.token_rules.proofs.Drawings.{ruled, blank_when}
use Rattle.token_rules.proofs.drawing.law.Goals as goal

pub returns-clause-ruled : goal.returns-clause-ruled
returns-clause-ruled c = ruled c.args.nodes.now c.args.edges.now _ c.requires

pub returns-clause-blank : goal.returns-clause-blank
returns-clause-blank c = blank_when c.args.nodes.now c.args.edges.now _ c.requires
