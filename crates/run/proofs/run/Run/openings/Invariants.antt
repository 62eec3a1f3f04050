use Rattle.std.proofs.Common.{◌≡◌, ◌≤◌}
use Rattle.process.specs.Counts.{sum_below, one_if}
use Rattle.run.proofs.run.Run.openings.Given as goal

abbrev pub invariant-loop-choice : goal.invariant-loop-choice
invariant-loop-choice g l =
    (l.count ≡ sum_below (λ c. one_if ((g.P.Process.meaning l.self.process).next l.row c)) l.choice) × (l.count ≤ l.choice)
