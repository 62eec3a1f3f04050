use Rattle.std.proofs.Common.{◌<◌, ◌≤◌, map, length, sym, refl, ap, ◌∙◌, arith}
use Rattle.std.proofs.lemmas.List.{length-map}
use Rattle.run.specs.Runs.{means, stands}
use Rattle.run.specs.Exchanges.{entry_of}
use Rattle.run.proofs.Exchanging.{making_none, making_more, making_all}
use Rattle.run.proofs.perform.make_all.Goals as goal

pub loop-exchange-init : goal.loop-exchange-init
loop-exchange-init g c = (refl, making_none _ _ _)

pub loop-exchange-preserved : goal.loop-exchange-preserved
loop-exchange-preserved g c =
    let f = g.P.Process.meaning in
    let m = means c.args.run.now in
    let here = c.loop-exchange.run in
    let after = c.make.new.run in
    let done = c.make.ensures in
    let same = c.loop-exchange.invariant.0 in
    let below : c.loop-exchange.exchange-index < length c.loop-exchange.exchanges = omega arith in (
      done.same ∙ same,
      making_more m (means here) _ _ c.loop-exchange.exchanges _ (stands here) (stands after) c.exchange-item.result c.make.new.exchange (ap f (sym same))
          c.loop-exchange.invariant.1 below done.entry done.stand,
    )

pub returns : goal.returns
returns g c =
    let xs = c.loop-exchange.exchanges in
    let long = length-map xs entry_of in
    let past : length (map entry_of xs) ≤ c.loop-exchange.exchange-index = omega arith in
    let end = making_all _ _ _ _ _ _ c.loop-exchange.invariant.1 past in
    record { same = c.loop-exchange.invariant.0; entries = end.0; stand = end.1 }
