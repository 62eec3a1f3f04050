use Rattle.std.proofs.Common.{sym, ◌∙◌, arith, rules}
use Rattle.token.specs.Drawn.{drawing_of}
use Rattle.token.specs.Tame.{at_most_by}
use Rattle.token.specs.Lows.{safe_low}
use Rattle.token.proofs.playing.TokenDrawingProcess.next.Goals as goal

pub make-requires : goal.make-requires
make-requires c = record {
  at = search rules;
  row = record { long = search rules; low = at_most_by _ _ 10000 10000 c.copy_from_slice.ensures.after (omega arith) (safe_low (drawing_of c.args.self.now) _ c.args.self.now.known.amounts (sym c.row_is_safe.ensures ∙ c.if-not-row_is_safe.false)) };
}
