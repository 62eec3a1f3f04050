use Rattle.std.proofs.Common.{◌∙◌}
use Rattle.run.proofs.Stands.{fits, gave_width}
use Rattle.run.proofs.standing.Standing.attempt.Goals as goal

pub returns-clause-row : goal.returns-clause-row
returns-clause-row g c =
    let m = g.P.Process.meaning c.args.process.now in
    let w = g.met.P.Process.lawful c.args.process.now in
    c.set_row.ensures.row ∙ fits m w _ (c.next.auto.out ∙ gave_width m _ _ c.next.new.out _ c.in_ok-next.ensures.answer)
