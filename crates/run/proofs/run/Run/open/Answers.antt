use Rattle.std.proofs.Common.{sym, ap, subst}
use Rattle.process.specs.Meaning.{Row, Reachable, at_start}
use Rattle.run.specs.Standing.{Stand}
use Rattle.run.proofs.run.Run.open.Goals as goal

pub invariant_of-result : goal.invariant_of-result
invariant_of-result g c =
    let m = g.P.Process.meaning c.args.process in
    record { reached = subst (λ (r : Row). ∥ Reachable m r ∥₁) (sym (ap (λ (s : Stand). s.row) c.opened-standing.ensures)) ∣ at_start ∣₁ }
