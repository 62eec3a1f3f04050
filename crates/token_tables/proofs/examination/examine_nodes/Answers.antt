use Rattle.std.proofs.Common.{rules}
use Rattle.std.proofs.lemmas.Iterator.{YieldsList-from_slice}
use Rattle.std.proofs.lemmas.Iterator.Consumers.{YieldsList-from_enumerate}
use Rattle.token_tables.specs.Faults.{number_of, place_of}
use Rattle.token_tables.specs.Examination.{node_fault}
use Rattle.process.proofs.Tried.{first_tried}
use Rattle.token_tables.proofs.examination.examine_nodes.Goals as goal

pub returns : goal.returns
returns c = first_tried number_of place_of (node_fault c.args.nodes.now) _ _ _ c.args.nodes.now c.try_for_each.ensures.ran (YieldsList-from_enumerate (YieldsList-from_slice c.args.nodes.now (cc)) (cc)) (λ p v q k. search rules)
