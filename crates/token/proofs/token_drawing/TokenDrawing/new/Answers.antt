use Rattle.std.proofs.Common.{sym, ap}
use Rattle.process.specs.Outcomes.{gave}
use Rattle.token_tables.proofs.Goods.{good}
use Rattle.token.proofs.Knowns.{known}
use Rattle.token.proofs.token_drawing.TokenDrawing.new.Goals as goal

pub draw-requires : goal.draw-requires
draw-requires c = known _ _ (good c.args.nodes.now c.args.edges.now (sym (ap gave c.in-Ok.ensures.answer)))
