-- The choices are the acts, one to one.
use Rattle.std.proofs.Common.{◌≡◌, ℕ, ◌+◌, ◌-◌, ◌<◌, sym, refl, ap, ◌∙◌, subst, inl, inr, arith}
use Rattle.std.proofs.lemmas.Bool.{cases_eq, cases_lt}
use Rattle.std.proofs.lemmas.Bool.Decides.{nat_tests}
use Rattle.token_tables.specs.Tables.{Drawing, n_of, e_of}
use Rattle.token.specs.declared.act.Act.{Act}
use Rattle.token.specs.declared.act.Act.TheVariants.{Pass, Complete, Enter, Choose}
use Rattle.token.specs.Rules.{choices_of, act_of, choice_of, Of}
use Rattle.token_rules.specs.Follows.{Numbered}

module _ (d : Drawing) where
  low : (a : Act) → Of d a → choice_of d a < choices_of d
  low Pass o = omega arith
  low (Complete n) o = omega arith
  low (Enter e) o = omega arith
  low (Choose e) o = omega arith

  back : (a : Act) → Of d a → act_of d (choice_of d a) ≡ a
  back Pass o = refl
  back (Complete n) o = grind (arith, nat_tests)
  back (Enter e) o = grind (arith, nat_tests)
  back (Choose e) o = grind (arith, nat_tests)

  -- each choice is the choice of some act
  found : (c : ℕ) → c < choices_of d → (a : Act) × Of d a × (choice_of d a ≡ c)
  found c l =
      elim (cases_eq c 0) [
        | inl e ↦ (Pass, tt, sym e)
        | inr e ↦ elim (cases_lt c (1 + n_of d)) [
          | inl b ↦ (Complete (c - 1), omega arith, omega arith)
          | inr b ↦ elim (cases_lt c (1 + n_of d + e_of d)) [
            | inl g ↦ (Enter (c - (1 + n_of d)), omega arith, omega arith)
            | inr g ↦ (Choose (c - (1 + n_of d + e_of d)), omega arith, omega arith)
          ]
        ]
      ]

  named : (c : ℕ) (l : c < choices_of d) → (found c l).0 ≡ act_of d c
  named c l = let p = found c l in sym (back p.0 p.1) ∙ ap (act_of d) p.2

  pub numbered : Numbered d
  numbered = record {
    low = low;
    back = back;
    of = λ c l. subst (Of d) (named c l) (found c l).1;
    forth = λ c l. ap (choice_of d) (sym (named c l)) ∙ (found c l).2;
  }
