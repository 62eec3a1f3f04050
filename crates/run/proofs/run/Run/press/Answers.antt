use Rattle.std.proofs.Common.{sym, subst}
use Rattle.process.specs.Meaning.{Row, Reachable}
use Rattle.run.proofs.Stands.{gave_reached}
use Rattle.run.proofs.run.Run.press.Goals as goal

pub invariant_of-self : goal.invariant_of-self
invariant_of-self g c =
    let r = c.args.self.now in
    let m = g.P.Process.meaning r.process in
    record { reached = subst (λ (r : Row). ∥ Reachable m r ∥₁) (sym c.in-Ok.ensures.row) (gave_reached m _ _ _ _ c.in-Ok.ensures.answer c.in-Ok.ensures.left r.reached) }
