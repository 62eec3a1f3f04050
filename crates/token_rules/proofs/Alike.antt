-- States that hold the same allow the same.
use Rattle.std.proofs.Common.{ℕ, ◌<◌}
use Rattle.token_tables.specs.Tables.{Drawing, n_of}
use Rattle.token.specs.declared.act.Act.{Act}
use Rattle.token.specs.declared.act.Act.TheVariants.{Pass, Complete, Enter, Choose}
use Rattle.token.specs.Rules.{Of}
use Rattle.token_rules.specs.Relation.{State, Same, Safe, Due, Calm, Gathered, Ready, due, begun, gathered}
use Rattle.token_rules.proofs.Shows.{same_sym}
use Rattle.token_rules.proofs.Tells.{Allowed}
use Rattle.token_rules.proofs.Agrees.{Possible}

module _ (d : Drawing) where
  due_alike : {s t : State} → Same d s t → (n : ℕ) → n < n_of d → Due d s n → Due d t n
  due_alike h n l u = rw (h.marks n l, h.clocks n l, h.days) at u

  module _ {s t : State} (h : Same d s t) where
    safe_alike : Safe d s → Safe d t
    safe_alike f = record {
      lawful = record {
        marks = λ n l. rw (h.marks n l) at (f.lawful.marks n l);
        flows = λ e l. rw (h.flows e l) at (f.lawful.flows e l);
        waiting = λ n l. rw (h.clocks n l) at (f.lawful.waiting n l);
        still = λ n l. rw (h.clocks n l) at (f.lawful.still n l);
        day = rw h.days at f.lawful.day;
      };
      nodes = λ n l. rw (h.marks n l) at (f.nodes n l);
      edges = λ e l. rw (h.flows e l) at (f.edges e l);
    }

    calm_alike : Calm d s → Calm d t
    calm_alike c n l u = c n l (due_alike (same_sym d h) n l u)

    gathered_alike : (n : ℕ) → Gathered d s n → Gathered d t n
    gathered_alike n g e l w = rw (h.flows e l) at (g e l w)

    ready_alike : (n : ℕ) → n < n_of d → Ready d s n → Ready d t n
    ready_alike n l (due u) = due (due_alike h n l u)
    ready_alike n l (begun c m k) = begun (calm_alike c) (rw (h.marks n l) at m) k
    ready_alike n l (gathered c k g) = gathered (calm_alike c) k (gathered_alike n g)

    allowed_alike : (a : Act) → Of d a → Allowed d s a → Allowed d t a
    allowed_alike Pass o m = (calm_alike m.0, tt)
    allowed_alike (Complete n) o m = ready_alike n o m
    allowed_alike (Enter e) o m = (calm_alike m.0, (rw (h.flows e o) at m.1.0, m.1.1))
    allowed_alike (Choose e) o m = (calm_alike m.0, (m.1.0, (m.1.1.0, gathered_alike _ m.1.1.1)))

    pub possible_alike : (a : Act) → Possible d s a → Possible d t a
    possible_alike a p = record { of = p.of; safe = safe_alike p.safe; may = allowed_alike a p.of p.may }
