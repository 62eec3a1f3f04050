use Rattle.std.proofs.Common.{ap}
use Rattle.std.proofs.lemmas.Bool.Decides.{Decides-at}
use Rattle.process.specs.Outcomes.{gave}
use Rattle.token_tables.proofs.Goods.{decides_good}
use Rattle.token_tables.proofs.examination.examine.Goals as goal

pub returns : goal.returns
returns c = record { answer = c.first_fault.ensures; good = Decides-at _ _ (ap gave c.first_fault.ensures) (decides_good c.args.nodes.now c.args.edges.now) }
