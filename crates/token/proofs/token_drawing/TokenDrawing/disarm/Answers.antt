use Rattle.token.specs.Rules.{disarm_one}
use Rattle.token.specs.Steps.{disarm_tame, sweep_low}
use Rattle.token.proofs.token_drawing.TokenDrawing.disarm.Goals as goal

pub returns-clause-low : goal.returns-clause-low
returns-clause-low c = sweep_low (disarm_one _ _) (λ w. disarm_tame w _ _) c.node_list-nodes.result.now _ _ c.sweep.ensures
