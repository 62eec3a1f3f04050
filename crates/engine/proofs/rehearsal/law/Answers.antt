use Rattle.engine.proofs.Laws as laws
use Rattle.engine.proofs.rehearsal.law.Goals as goal

pub returns : goal.returns
returns g c =
    let m = g.P.Process.meaning c.args.process.now in
    let l = g.B.Book.listing c.args.book.now in
    λ found given done end e d s. laws.law m l found given done end (g.met.P.Process.lawful c.args.process.now) (g.met.B.Book.lawful c.args.book.now) e d s
