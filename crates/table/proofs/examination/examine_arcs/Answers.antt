use Rattle.std.proofs.Common.{rules}
use Rattle.std.proofs.lemmas.Iterator.{YieldsList-from_slice}
use Rattle.std.proofs.lemmas.Iterator.Consumers.{YieldsList-from_enumerate}
use Rattle.process.proofs.Tried.{first_tried}
use Rattle.table.specs.Faults.{number_of, place_of}
use Rattle.table.specs.Examination.{arc_fault}
use Rattle.table.proofs.examination.examine_arcs.Goals as goal

pub returns : goal.returns
returns c = first_tried number_of place_of (arc_fault c.args.rows) _ _ _ c.args.arcs.now c.try_for_each.ensures.ran (YieldsList-from_enumerate (YieldsList-from_slice c.args.arcs.now (cc)) (cc)) (λ p v q k. search rules)
