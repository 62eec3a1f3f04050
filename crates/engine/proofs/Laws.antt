-- The law of the engine.
use Rattle.std.proofs.Common.{◌≡◌, List, sym, ◌∙◌, subst}
use Rattle.process.specs.Meaning.{Meaning, Row, Lawful, Reachable, at_start}
use Rattle.book.specs.Listing.{Listing, IsBook}
use Rattle.run.specs.Standing.{Stand, opened}
use Rattle.run.specs.Exchanges.{Entry, all_made, stand_all_made}
use Rattle.inspect.specs.Findings.{Finding}
use Rattle.inspect.specs.Verdicts.{verdict}
use Rattle.engine.specs.Accepting.{Accepting}
use Rattle.engine.specs.Running.{Running}
use Rattle.engine.specs.Law.{Held, Law}
use Rattle.engine.proofs.Closing.{accepted_closed, accepted_iff, closed_in}
use Rattle.engine.proofs.Exists.{exists}
use Rattle.engine.proofs.Finding.{found_iff}
use Rattle.engine.proofs.Histories.{running, alone}
use Rattle.engine.proofs.Paths.{path_reach}

accepting : (m : Meaning) (l : Listing) (f : Finding) → Lawful m → IsBook l → f ≡ verdict m l → Accepting m l f
accepting m l f w b e =
    let i = accepted_iff m l w b in
    record {
      found_is = e;
      this = (λ a. i.0 (a.0, sym e ∙ a.1), λ d. let a = i.1 d in (a.0, e ∙ a.1));
      every = λ k. accepted_iff m k w;
      first = λ k. found_iff m k w;
    }

held : (m : Meaning) (r : Row) → Reachable m r → Held m r
held m r q = record {
  reachable = q;
  listed = λ k b a. closed_in m k (accepted_closed m k a) r q;
  safe = λ k b a. let d = accepted_closed m k a in d.safe r (closed_in m k d r q);
}

pub law : (m : Meaning) (l : Listing) (f : Finding) (given done : List Entry) (end : Stand) → Lawful m → IsBook l → f ≡ verdict m l →
    done ≡ all_made m (opened m) given → end ≡ stand_all_made m (opened m) given → Law m l f given done end
law m l f given done end w b e ed ee =
    let runs : Running m given done end =
    subst (λ (xs : List Entry). Running m given xs end) (sym ed) (subst (λ (s : Stand). Running m given (all_made m (opened m) given) s) (sym ee) (running m w given)) in
    record {
      accepting = accepting m l f w b e;
      running = runs;
      alone = λ done' end'. alone m given done done' end end' runs;
      held = λ n h r p. held m r (path_reach at_start p);
      held_at_end = held m end.row (path_reach at_start runs.ended.path);
      existing = exists m w;
    }
