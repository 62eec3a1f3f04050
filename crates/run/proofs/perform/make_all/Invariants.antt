use Rattle.std.proofs.Common.{◌≡◌, map}
use Rattle.run.specs.Runs.{means, stands}
use Rattle.run.specs.Exchanges.{entry_of}
use Rattle.run.proofs.Exchanging.{Making}
use Rattle.run.proofs.perform.make_all.Given as goal

abbrev pub invariant-loop-exchange : goal.invariant-loop-exchange
invariant-loop-exchange g l =
    (l.run.process ≡ l.initial.run.process)
    × Making (means l.initial.run) (stands l.initial.run) (map entry_of l.initial.exchanges)
    (map entry_of l.exchanges) l.exchange-index (stands l.run)
