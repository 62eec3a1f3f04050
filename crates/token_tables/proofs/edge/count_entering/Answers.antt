use Rattle.std.proofs.Common.{◌^◌, ℕ, cond, nat_eq, arith, rules, tests}
use Rattle.std.proofs.lemmas.Iterator.{YieldsList-from_slice, YieldsList-from_map}
use Rattle.std.proofs.lemmas.Iterator.Consumers.{fits_by_from_yields_list}
use Rattle.std.proofs.lemmas.List.Sums.{count_by-le-length}
use Rattle.token_tables.specs.declared.edge.Edge.{Edge}
use Rattle.token_tables.proofs.edge.count_entering.Goals as goal

-- there are no more ones than edges
pub sum-requires-clause-fits : goal.sum-requires-clause-fits
sum-requires-clause-fits c =
    let one : Edge → ℕ = λ e. cond (nat_eq e.target c.args.node) 1 0 in
    let few = count_by-le-length (λ e. nat_eq e.target c.args.node) c.args.edges.now in
    fits_by_from_yields_list one c.args.edges.now c.map.result (2 ^ 64)
    (YieldsList-from_map _ one (YieldsList-from_slice c.args.edges.now cc) c.map.ensures.closure (λ x r q k. search (rules, tests)))
    (omega (arith, c.iter.ensures.len))
