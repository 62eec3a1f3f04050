use Rattle.token.specs.Rules.{take_one}
use Rattle.token.specs.Steps.{take_tame, sweep_low}
use Rattle.token.proofs.token_drawing.TokenDrawing.take.Goals as goal

pub returns-clause-low : goal.returns-clause-low
returns-clause-low c = sweep_low (take_one _ _) (λ w. take_tame w _ _) c.edge_list.result.now _ _ c.sweep.ensures
