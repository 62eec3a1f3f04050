-- Each step leads to a lawful state.
use Rattle.std.proofs.Common.{◌≡◌, ℕ, ◌+◌, ◌<◌, ◌≤◌, refl, inl, inr, arith}
use Rattle.std.proofs.lemmas.Bool.{cases_eq}
use Rattle.std.proofs.lemmas.Bool.Decides.{nat_tests}
use Rattle.token_tables.specs.Tables.{Drawing, node_at, amount_of}
use Rattle.token.specs.declared.act.Act.{Act}
use Rattle.token_rules.specs.Relation.{State, Same, Lawful, Safe, Step, passes, complete_plain, complete_task, complete_stopping, complete_parallel, enter_task, enter_wait, enter_end, enter_terminate, enter_exclusive, chooses}
use Rattle.token_rules.proofs.Tells.{not_after}

module _ (d : Drawing) {s t : State} where
  -- no mark rises by more than one, no clock rises, and no time passes
  bounded : {x : State} → Safe d s → Same d t x → ((n : ℕ) → x.mark n ≤ s.mark n + 1) → ((n : ℕ) → x.clock n ≤ s.clock n) → ((e : ℕ) → x.flow e ≤ s.flow e + 1) → x.day ≡ s.day → Lawful d t
  bounded h q m c f y = record {
    marks = λ n l. omega (arith, q.marks n l, m n, h.nodes n l);
    flows = λ e l. omega (arith, q.flows e l, f e, h.edges e l);
    waiting = λ n l w. omega (arith, q.clocks n l, c n, h.lawful.waiting n l w);
    still = λ n l w. omega (arith, q.clocks n l, c n, h.lawful.still n l w);
    day = omega (arith, q.days, h.lawful.day);
  }

  pub lawfully : {a : Act} → Step d s t a → Lawful d t
  lawfully (passes f c e) = record {
    marks = λ n l. omega (arith, e.marks n l, f.nodes n l);
    flows = λ n l. omega (arith, e.flows n l, f.edges n l);
    waiting = λ n l w.
        let calm : 0 < s.mark n → s.clock n ≡ amount_of d n → ⊥ = λ a b. c n l (a, rw w b) in
        rw (e.clocks n l) (grind (arith, nat_tests, calm, f.lawful.waiting n l w));
    still = λ n l w. rw (e.clocks n l) (grind (arith, nat_tests, not_after (node_at d n) w, f.lawful.still n l w));
    day = rw e.days (grind (arith, nat_tests, f.lawful.day));
  }
  lawfully (complete_plain n c p e) = bounded c.safe e (λ k. grind (arith, nat_tests)) (λ k. grind (arith, nat_tests)) (λ k. grind (arith, nat_tests)) refl
  lawfully (complete_task n c p e) = bounded c.safe e (λ k. grind (arith, nat_tests)) (λ k. grind (arith, nat_tests)) (λ k. grind (arith, nat_tests)) refl
  lawfully (complete_stopping n h c p w e) = bounded c.safe e (λ k. grind (arith, nat_tests)) (λ k. grind (arith, nat_tests)) (λ k. grind (arith, nat_tests)) refl
  lawfully (complete_parallel n c p e) = bounded c.safe e (λ k. grind (arith, nat_tests)) (λ k. grind (arith, nat_tests)) (λ k. grind (arith, nat_tests)) refl
  lawfully (enter_task m n c p e) =
      bounded c.safe e (λ k. elim (cases_eq k n) [ inl q ↦ rw (q, p) (grind (arith, nat_tests)) | inr q ↦ grind (arith, nat_tests) ]) (λ k. grind (arith, nat_tests)) (λ k. grind (arith, nat_tests)) refl
  lawfully (enter_wait m n c p e) = bounded c.safe e (λ k. grind (arith, nat_tests)) (λ k. grind (arith, nat_tests)) (λ k. grind (arith, nat_tests)) refl
  lawfully (enter_end m n c p e) = bounded c.safe e (λ k. grind (arith, nat_tests)) (λ k. grind (arith, nat_tests)) (λ k. grind (arith, nat_tests)) refl
  lawfully (enter_terminate m n c p e) = bounded c.safe e (λ k. grind (arith, nat_tests)) (λ k. grind (arith, nat_tests)) (λ k. grind (arith, nat_tests)) refl
  lawfully (enter_exclusive m n c p o e) = bounded c.safe e (λ k. grind (arith, nat_tests)) (λ k. grind (arith, nat_tests)) (λ k. grind (arith, nat_tests)) refl
  lawfully (chooses i m n c p v l w e) = bounded c.safe e (λ k. grind (arith, nat_tests)) (λ k. grind (arith, nat_tests)) (λ k. grind (arith, nat_tests)) refl
