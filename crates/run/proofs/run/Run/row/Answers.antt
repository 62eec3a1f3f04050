use Rattle.run.proofs.Stands.{reached_long}
use Rattle.run.proofs.run.Run.row.Goals as goal

pub returns-clause-long : goal.returns-clause-long
returns-clause-long g c =
    let r = c.args.self.now in
    let long = reached_long (g.P.Process.meaning r.process) (g.met.P.Process.lawful r.process) _ r.reached in cc
