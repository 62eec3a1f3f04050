use Rattle.std.proofs.Common.{ap, ◌∙◌, rules, unwrap_or}
use Rattle.std.proofs.lemmas.Iterator.{YieldsList-from_slice, YieldsList-from_map}
use Rattle.std.proofs.lemmas.Iterator.Consumers.{reduce_from_yields_List}
use Rattle.std.proofs.lemmas.List.Folds.{max_of_map}
use Rattle.token.specs.Clocks.{day_after}
use Rattle.token.proofs.making.cap_of.Goals as goal

pub returns : goal.returns
returns c =
    c.unwrap_or.ensures ∙ ap (λ o. unwrap_or o 0) (reduce_from_yields_List _ c.map.result _ c.max.ensures.ran (YieldsList-from_map _ day_after (YieldsList-from_slice c.args.nodes.now (cc)) (cc) (λ x r q k. search rules))) ∙ max_of_map day_after c.args.nodes.now
