use Rattle.token.proofs.Sweeping.{swept_on}
use Rattle.token.proofs.changes.sweep.Goals as goal

pub loop-i-preserved : goal.loop-i-preserved
loop-i-preserved g c = swept_on (g.C.Change.makes c.args.change) _ c.args.items.now _ _ _ _ (g.met.C.Change.tame c.args.change _) c.loop-i-test.true c.index-items-i.is c.make.ensures c.loop-i.invariant
