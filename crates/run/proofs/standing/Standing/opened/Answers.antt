use Rattle.std.proofs.Common.{ap, ◌∙◌, take}
use Rattle.run.proofs.Stands.{fits}
use Rattle.run.proofs.standing.Standing.opened.Goals as goal

pub returns : goal.returns
returns g c =
    let m = g.P.Process.meaning c.args.process.now in
    let w = g.met.P.Process.lawful c.args.process.now in
    let row = c.at.ensures.row ∙ ap (take 512) c.begin.ensures ∙ fits m w m.start w.start_row.long in
    let moved = c.at.ensures.moved in
    let refused = c.at.ensures.refused in cc
