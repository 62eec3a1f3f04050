use Rattle.std.proofs.Common.{◌≡◌, vec_items, rules}
use Rattle.table.specs.Tables.{meaning_of, tabled}
use Rattle.table.proofs.Makings.{follows, blank}
use Rattle.table.proofs.table.Table.new.Goals as goal

pub returns : goal.returns
returns c =
    let rows = vec_items c.args.safe in
    let arcs = vec_items c.args.arcs in
    let is : meaning_of (vec_items c.clear_faulty.new.safe) (vec_items c.clear_faulty.new.arcs) ≡ tabled rows arcs = search rules in
    record { meaning = is; follows = follows rows arcs _ is; blank = blank rows arcs _ is }
