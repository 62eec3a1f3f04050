use Rattle.std.proofs.Common.{◌≡◌, ◌<◌, length, sym, ap, ◌∙◌, arith}
use Rattle.process.specs.Counts.{one_if}
use Rattle.process.proofs.Tries.{next_told, sum_more}
use Rattle.run.proofs.run.Run.openings.Goals as goal
use Rattle.run.proofs.run.Run.openings.Goals.{then-is_ok, else-is_ok}

pub loop-choice-preserved : goal.loop-choice-preserved
loop-choice-preserved g c =
    let m = g.P.Process.meaning c.args.self.now.process in
    let row = c.row-row.result.now in
    let i = c.loop-choice.choice in
    let out : length c.loop-choice.out ≡ m.width = omega arith in
    let long : length row ≡ m.width = omega arith in
    let below : i < m.choices = omega arith in
    let told = next_told m row _ _ i _ long out below c.next.ensures.answer c.next.ensures.left in
    let ok = sym c.is_ok.ensures.value in
    let more = sum_more (λ k. one_if (m.next row k)) i in
    elim c.if-is_ok.branch [
      | then-is_ok w ↦ let e = ap one_if (told.0 (ok ∙ w.if-is_ok.true)) in (omega arith, omega arith)
      | else-is_ok w ↦ let e = ap one_if (told.1 (ok ∙ w.if-is_ok.false)) in (omega arith, omega arith)
    ]
