use Rattle.std.proofs.Common.{length}
use Rattle.token.specs.Rules.{sweep, pass_one}
use Rattle.token.proofs.Sweeping.{Swept}
use Rattle.token.proofs.changes.pass_clocks.Given as goal

abbrev pub invariant-loop-i : goal.invariant-loop-i
invariant-loop-i l = Swept (pass_one (length l.nodes)) l.i l.nodes l.out (sweep (pass_one (length l.nodes)) 0 l.nodes l.initial.out)
