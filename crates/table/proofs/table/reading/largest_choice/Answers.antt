use Rattle.std.proofs.Common.{◌≡◌, ℕ, max, List, [], ◌∷◌, rules, arith}
use Rattle.std.specs.List.{fold}
use Rattle.table.specs.declared.arc.Arc.{Arc}
use Rattle.table.specs.Tables.{largest}
use Rattle.table.proofs.table.reading.largest_choice.Goals as goal

folded : (n : ℕ) (arcs : List Arc) → fold (λ m (a : Arc). max a.choice m) n arcs ≡ max n (largest arcs)
folded n [] = omega arith
folded n (a ∷ rest) = omega (arith, folded (max a.choice n) rest)

pub returns : goal.returns
returns c =
    let arcs = c.args.arcs.now in
    let is : c.fold.result ≡ fold (λ m (a : Arc). max a.choice m) 0 arcs = search rules in
    omega (arith, is, folded 0 arcs)
