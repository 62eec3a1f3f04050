use Rattle.token.specs.Rules.{sweep}
use Rattle.token.proofs.Sweeping.{Swept}
use Rattle.token.proofs.changes.sweep.Given as goal

abbrev pub invariant-loop-i : goal.invariant-loop-i
invariant-loop-i g l = Swept (g.C.Change.makes l.change) l.i l.items l.out (sweep (g.C.Change.makes l.change) 0 l.items l.initial.out)
