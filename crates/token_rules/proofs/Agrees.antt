-- The executable rules and the relation agree: what is allowed is a step, and what is made is what the step leads to.
use Rattle.std.proofs.Common.{◌≡◌, ℕ, ◌+◌, ◌-◌, ◌<◌, true, eqb, ◌⊎◌, refl, ap, ◌∙◌, inl, inr, arith}
use Rattle.std.proofs.lemmas.Bool.{cases_Bool, eq-eqb, eqb-true, cases_eq}
use Rattle.std.proofs.lemmas.Bool.Decides.{nat_tests, not_from_Decides}
use Rattle.process.specs.Meaning.{Row}
use Rattle.token_tables.specs.declared.edge.Edge.{Edge}
use Rattle.token_tables.specs.declared.kind.Kind.{Kind}
use Rattle.token_tables.specs.declared.kind.Kind.TheVariants as kind
use Rattle.token_tables.specs.Kinds.{same_kind, is_boundary}
use Rattle.token_tables.specs.Tables.{Drawing, n_of, e_of, no_edge, kind_of, host_of, source_of, target_of, incoming, outgoing}
use Rattle.token_tables.specs.Examination.{counts_fit}
use Rattle.token_tables.specs.Good.{Good}
use Rattle.token_tables.proofs.Codes.{decides_kind}
use Rattle.token.specs.declared.act.Act.{Act}
use Rattle.token.specs.declared.act.Act.TheVariants.{Pass, Complete, Enter, Choose}
use Rattle.token.specs.Rows.{f_of}
use Rattle.token.specs.Rules.{Of, down, clear, ceded, made}
use Rattle.token_rules.specs.Relation.{State, Same, Safe, Completing, Entering, Plain, Step, passes, complete_plain, complete_task, complete_stopping, complete_parallel, enter_task, enter_wait, enter_end, enter_terminate, enter_exclusive, chooses, taken, into, just, cleared}
use Rattle.token_rules.proofs.Shows.{Shows, shows_same, put_mark, put_node, put_flow, shows_ended}
use Rattle.token_rules.proofs.Sweeps.{shows_given, shows_taken, shows_disarmed, shows_armed, shows_passed}
use Rattle.token_rules.proofs.Tells.{Enterable, Allowed}
use Rattle.token_rules.proofs.Only.{some_one, only_one}

-- an act that can be done at s
pub record Possible (d : Drawing) (s : State) (a : Act) : Type 0 where
  pub of : Of d a
  pub safe : Safe d s
  pub may : Allowed d s a

-- ## From what is allowed to a step

-- an act leads from s to x, and to each state that holds the same
abbrev Leads : Drawing → State → Act → Type 0
Leads d s a = (x : State) × ((t : State) → Same d t x → Step d s t a)

cases_kind : (j k : Kind) → (j ≡ k) ⊎ (j ≡ k → ⊥)
cases_kind j k =
    elim (cases_Bool (same_kind j k)) [
      | inl b ↦ inl ((decides_kind j k).0 b)
      | inr b ↦ inr (not_from_Decides _ (decides_kind j k) b)
    ]

pub completes : (d : Drawing) (s : State) (n : ℕ) → Completing d s n → Leads d s (Complete n)
completes d s n c =
    elim (cases_kind (kind_of d n) kind.Task) [
      | inl k ↦ (_, λ t e. complete_task n c k e)
      | inr x ↦ elim (cases_kind (kind_of d n) kind.Stopping) [
        | inl k ↦ (_, λ t e. complete_stopping n (host_of d n) c k refl e)
        | inr y ↦ elim (cases_kind (kind_of d n) kind.Parallel) [
          | inl k ↦ (_, λ t e. complete_parallel n c k e)
          | inr z ↦ (_, λ t e. complete_plain n c (record { no_task = x; no_stopping = y; no_parallel = z }) e)
        ]
      ]
    ]

enters : (d : Drawing) (s : State) (e n : ℕ) → Entering d s e n → Enterable (kind_of d n) (outgoing d n) → Leads d s (Enter e)
enters d s e n c (inl k) = (_, λ t q. enter_task e n c k q)
enters d s e n c (inr (inl k)) = (_, λ t q. enter_wait e n c k q)
enters d s e n c (inr (inr (inl k))) = (_, λ t q. enter_end e n c k q)
enters d s e n c (inr (inr (inr (inl k)))) = (_, λ t q. enter_terminate e n c k q)
enters d s e n c (inr (inr (inr (inr k)))) = (_, λ t q. enter_exclusive e n c k.0 k.1 q)

module _ (d : Drawing) (good : Good d) where
  -- an exclusive gateway with several edges out of it has one edge into it
  one_into : (n : ℕ) → n < n_of d → kind_of d n ≡ kind.Exclusive → 1 < outgoing d n → incoming d n ≡ 1
  one_into n l k o = let h : counts_fit kind.Exclusive (incoming d n) (outgoing d n) ≡ true = rw k at (good.counts n l) in grind (arith, nat_tests)

  pub leads : (s : State) (a : Act) → Possible d s a → Leads d s a
  leads s Pass h = (_, λ t e. passes h.safe h.may.0 e)
  leads s (Complete n) h = completes d s n (record { node = h.of; safe = h.safe; ready = h.may })
  leads s (Enter e) h = enters d s e (target_of d e) (record { edge = h.of; target = refl; safe = h.safe; calm = h.may.0; there = h.may.1.0 }) h.may.1.1
  leads s (Choose e) h =
      let n : ℕ = source_of d e in
      let k = h.may.1.0 in
      let o = h.may.1.1.0 in
      let i = some_one (λ (x : Edge). eqb x.target n) no_edge d.edges (omega (arith, one_into n (good.sources e h.of) k o)) in
      let w : target_of d i.0 ≡ n = eqb-true _ _ i.2 in
      (_, λ t q. chooses i.0 n e (record { edge = i.1; target = w; safe = h.safe; calm = h.may.0; there = h.may.1.1.1 i.0 i.1 w }) k o h.of refl q)

  -- ## From a step to what is allowed

  by_node : {s : State} {n : ℕ} → Completing d s n → Possible d s (Complete n)
  by_node c = record { of = c.node; safe = c.safe; may = c.ready }

  by_edge : {s : State} {e n : ℕ} → Entering d s e n → Enterable (kind_of d n) (outgoing d n) → Possible d s (Enter e)
  by_edge c k = record { of = c.edge; safe = c.safe; may = (c.calm, (c.there, rw c.target k)) }

  target_in : {s : State} {e n : ℕ} → Entering d s e n → n < n_of d
  target_in {e = e} c = omega (arith, good.targets e c.edge, c.target)

  -- an edge into a gateway that chooses is the only one
  only_into : {s : State} {i n : ℕ} → Entering d s i n → kind_of d n ≡ kind.Exclusive → 1 < outgoing d n → (e : ℕ) → e < e_of d → target_of d e ≡ n → e ≡ i
  only_into {i = i} {n = n} c k o e l w = only_one (λ (x : Edge). eqb x.target n) no_edge d.edges (one_into n (target_in c) k o) e i l c.edge (eq-eqb _ _ w) (eq-eqb _ _ c.target)

  pub possible : {s t : State} {a : Act} → Step d s t a → Possible d s a
  possible (passes f c e) = record { of = tt; safe = f; may = (c, tt) }
  possible (complete_plain n c k e) = by_node c
  possible (complete_task n c k e) = by_node c
  possible (complete_stopping n h c k w e) = by_node c
  possible (complete_parallel n c k e) = by_node c
  possible (enter_task m n c k e) = by_edge c (inl k)
  possible (enter_wait m n c k e) = by_edge c (inr (inl k))
  possible (enter_end m n c k e) = by_edge c (inr (inr (inl k)))
  possible (enter_terminate m n c k e) = by_edge c (inr (inr (inr (inl k))))
  possible (enter_exclusive m n c k o e) = by_edge c (inr (inr (inr (inr (k, o)))))
  possible (chooses i n m c k o l w e) = record {
    of = l;
    safe = c.safe;
    may = (c.calm, (rw w k, (rw w o, λ x b q. rw (only_into c k o x b (q ∙ w)) c.there)));
  }

  -- ## From a step to what is made

  ceded_plain : (k : Kind) (n : ℕ) (r : Row) → Plain k → ceded k d n r ≡ clear (n_of d) r n
  ceded_plain kind.Start n r p = refl
  ceded_plain kind.TimedStart n r p = refl
  ceded_plain kind.Task n r p = absurd (p.no_task refl)
  ceded_plain kind.Exclusive n r p = refl
  ceded_plain kind.Parallel n r p = absurd (p.no_parallel refl)
  ceded_plain kind.Wait n r p = refl
  ceded_plain kind.Stopping n r p = absurd (p.no_stopping refl)
  ceded_plain kind.Side n r p = refl
  ceded_plain kind.End n r p = refl
  ceded_plain kind.Terminate n r p = refl
  ceded_plain (kind.Other number) n r p = refl

  module _ {r : Row} {s : State} (h : Shows d r s) where
    -- node n loses its marks, and edge e loses one
    lost : (n : ℕ) → n < n_of d → Shows d (clear (n_of d) r n) (cleared (just n) s)
    lost n l = put_node d h (λ x. 0) n l

    left : (e : ℕ) → e < e_of d → Shows d (down r (f_of d + e)) (taken (just e) s)
    left e l = put_flow d h (λ x. x - 1) e l

    only_taken : {i n : ℕ} → Entering d s i n → kind_of d n ≡ kind.Exclusive → 1 < outgoing d n → Same d (taken (just i) s) (taken (into d n) s)
    only_taken {i} {n} c k o = record {
      marks = λ m l. refl;
      clocks = λ m l. refl;
      flows = λ e l. elim (cases_eq e i) [
        | inl q ↦ let w : target_of d e ≡ n = ap (target_of d) q ∙ c.target in grind (arith, nat_tests)
        | inr q ↦ let w : target_of d e ≡ n → ⊥ = λ z. q (only_into c k o e l z) in grind (arith, nat_tests)
      ];
      days = refl;
    }

    pub makes : {t : State} {a : Act} → Step d s t a → Shows d (made d a r) t
    makes (passes f c e) = shows_same d (shows_passed d h) e
    makes (complete_plain n c p e) = rw (ceded_plain (kind_of d n) n r p) (shows_same d (shows_given d (lost n c.node) n) e)
    makes (complete_task n c k e) = rw k (shows_same d (shows_given d (shows_disarmed d (lost n c.node) n) n) e)
    makes (complete_stopping n m c k w e) =
        let b : m < n_of d = omega (arith, good.hosts n c.node (ap is_boundary k)) in
        rw (k, w) (shows_same d (shows_given d (shows_disarmed d (put_mark d (lost n c.node) (λ x. 0) m b) m) n) e)
    makes (complete_parallel n c k e) = rw k (shows_same d (shows_given d (shows_taken d h n) n) e)
    makes (enter_task i n c k e) = rw (c.target, k) (shows_same d (shows_armed d (put_mark d (left i c.edge) (λ x. x + 1) n (target_in c)) n) e)
    makes (enter_wait i n c k e) = rw (c.target, k) (shows_same d (put_node d (left i c.edge) (λ x. x + 1) n (target_in c)) e)
    makes (enter_end i n c k e) = rw (c.target, k) (shows_same d (put_mark d (left i c.edge) (λ x. x + 1) n (target_in c)) e)
    makes (enter_terminate i n c k e) = rw (c.target, k) (shows_same d (shows_ended d (left i c.edge) n (target_in c)) e)
    makes (enter_exclusive i n c k o e) = rw (c.target, k) (shows_same d (shows_given d (left i c.edge) n) e)
    makes (chooses i n m c k o l w e) = rw w (shows_same d (put_flow d (shows_same d (shows_taken d h n) (only_taken c k o)) (λ x. x + 1) m l) e)
