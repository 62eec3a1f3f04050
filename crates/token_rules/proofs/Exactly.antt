-- The process of a good drawing follows the rules, and that of a drawing without nodes is blank.
use Rattle.std.proofs.Common.{◌≡◌, ℕ, ◌+◌, ◌-◌, ◌<◌, Bool, true, false, ◌&&◌, ◌↔◌, [], length, Some, None, Option, sym, refl, ap, ◌∙◌, subst, inl, inr, arith}
use Rattle.std.proofs.lemmas.List.{ext_get_or}
use Rattle.std.proofs.lemmas.Bool.{cases_lt, and_parts, and_from, cond-true, eq-eqb, lt-ltb}
use Rattle.process.specs.Meaning.{Row, Blank}
use Rattle.process.specs.Outcomes.{refuses, next_or, next_outcome}
use Rattle.token_tables.specs.Tables.{Drawing, n_of}
use Rattle.token_tables.specs.Good.{Good}
use Rattle.token.specs.declared.act.Act.{Act}
use Rattle.token.specs.Rows.{f_of, day_of, width_of, safe}
use Rattle.token.specs.Rules.{choices_of, act_of, choice_of, may, made, next_row, meaning_of}
use Rattle.token_rules.specs.Relation.{State, Same, Step}
use Rattle.token_rules.specs.Showing.{state_of}
use Rattle.token_rules.specs.Follows.{Exact, Follows}
use Rattle.token_rules.proofs.Shows.{Shows, shows_itself, same_refl, same_sym, same_trans}
use Rattle.token_rules.proofs.Sweeps.{shows_start}
use Rattle.token_rules.proofs.Tells.{decides_safe, decides_may}
use Rattle.token_rules.proofs.Numbers.{numbered}
use Rattle.token_rules.proofs.Agrees.{leads, possible, makes}
use Rattle.token_rules.proofs.Alike.{possible_alike}
use Rattle.token_rules.proofs.Lawfully.{lawfully}

-- a row is made if the test is passed
chosen : (t : Bool) (x s : Row) → (elim t [ true ↦ Some x | false ↦ None ] ≡ Some s) ↔ ((t ≡ true) × (x ≡ s))
chosen true x s = (λ h. (refl, cc), λ h. ap Some h.1)
chosen false x s = (λ h. (cc, cc), λ h. cc h.0)

-- refusal 22 is the answer where there is no next row
refused_when : (o : Option Row) (b : Row) → ((next_or o b).answer ≡ refuses 22 0) ↔ ((s : Row) → o ≡ Some s → ⊥)
refused_when (Some s) b = (λ e q f. let z : ◌≡◌ {A = ℕ} 0 1 = cc in omega arith, λ h. absurd (h s refl))
refused_when None b = (λ e q f. let z : ◌≡◌ {A = ℕ} 0 1 = cc in omega arith, λ h. refl)

-- a row is determined by its state
row_shown : (d : Drawing) (r q : Row) → length r ≡ width_of d → length q ≡ width_of d → Same d (state_of d r) (state_of d q) → r ≡ q
row_shown d r q l m h = ext_get_or 0 r q (l ∙ sym m) (λ k b.
    elim (cases_lt k (n_of d)) [
      | inl p ↦ h.marks k p
      | inr p ↦ elim (cases_lt k (f_of d)) [
        | inl a ↦ let e : n_of d + (k - n_of d) ≡ k = omega arith in rw e at (h.clocks (k - n_of d) (omega arith))
        | inr a ↦ elim (cases_lt k (day_of d)) [
          | inl g ↦ let e : f_of d + (k - f_of d) ≡ k = omega arith in rw e at (h.flows (k - f_of d) (omega arith))
          | inr g ↦ let e : k ≡ day_of d = omega arith in rw e h.days
        ]
      ]
    ])

module _ (d : Drawing) (good : Good d) where
  -- each allowed choice is the step of its act
  pub sound : (r q : Row) (c : ℕ) → c < choices_of d → next_row d r c ≡ Some q → Step d (state_of d r) (state_of d q) (act_of d c)
  sound r q c l h =
      let a : Act = act_of d c in
      let p = (chosen (safe d r && may d r a) (made d a r) q).0 h in
      let t = and_parts (safe d r) (may d r a) p.0 in
      let f = (decides_safe d r).0 t.0 in
      let o = (numbered d).of c l in
      let g = leads d good (state_of d r) a (record { of = o; safe = f.1; may = (decides_may d r a o).0 t.1 }) in
      let m = makes d good (shows_itself d r f.0.1) (g.1 g.0 (same_refl d g.0)) in
      subst (λ x. Step d (state_of d r) (state_of d x) a) p.1 (g.1 (state_of d (made d a r)) m.same)

  -- each step from a state that a row shows is a choice at this row
  pub complete : {r : Row} {s t : State} (a : Act) → Shows d r s → Step d s t a → next_row d r (choice_of d a) ≡ Some (made d a r)
  complete {r} a h g =
      let p = possible_alike d (same_sym d h.same) a (possible d good g) in
      ap (λ b. elim (safe d r && may d r b) [ true ↦ Some (made d b r) | false ↦ None ]) ((numbered d).back a p.of)
      ∙ (chosen (safe d r && may d r a) (made d a r) (made d a r)).1 (and_from _ _ ((decides_safe d r).1 ((good.some, h.long), p.safe)) ((decides_may d r a p.of).1 p.may), refl)

  exact : (r : Row) → length r ≡ width_of d → Exact d (meaning_of d) r
  exact r w =
      let h = shows_itself d r w in
      record {
        sound = sound r;
        complete = λ t a g. ((possible d good g).of, (made d a r, complete a h g, same_sym d (makes d good h g).same));
        one = λ t u a g k. same_trans d (same_sym d (makes d good h g).same) (makes d good h k).same;
        refused = λ c b l v.
            let e : next_outcome (meaning_of d) r c b ≡ next_or (next_row d r c) b = cond-true _ _ _ (eq-eqb _ _ w) ∙ cond-true _ _ _ (eq-eqb _ _ v) ∙ cond-true _ _ _ (lt-ltb _ _ l) in (
              λ z t g. (refused_when (next_row d r c) b).0 (rw e at z) _ (rw ((numbered d).forth c l) at (complete (act_of d c) h g)),
              λ z. rw e ((refused_when (next_row d r c) b).1 (λ q k. z (state_of d q) (sound r q c l k))),
            );
      }

  pub follows : Follows d (meaning_of d)
  follows = record {
    width = refl;
    choices = refl;
    numbered = numbered d;
    shown = row_shown d;
    start = (shows_start d).same;
    safe = λ r w. (λ h. ((decides_safe d r).0 h).1, λ h. (decides_safe d r).1 ((good.some, w), h));
    exact = exact;
    lawful = λ s t a g. lawfully d g;
  }

pub blank : Blank (meaning_of (record { nodes = []; edges = [] }))
blank = record { width = refl; choices = refl; start = refl; safe = λ r. refl; next = λ r c. refl }
