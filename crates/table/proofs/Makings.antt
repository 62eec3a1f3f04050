-- What holds of a made table, of which it is known what it means.
use Rattle.std.proofs.Common.{◌≡◌, Bool, true, false, List, sym, refl, ◌∙◌, subst}
use Rattle.std.proofs.lemmas.Bool.{cond-true, cond-false, and_right}
use Rattle.process.specs.Meaning.{Meaning, Blank}
use Rattle.process.specs.Outcomes.{gave}
use Rattle.table.specs.declared.arc.Arc.{Arc}
use Rattle.table.specs.Examination.{examined}
use Rattle.table.specs.Tables.{tabled}
use Rattle.table.specs.Leading.{Follows}
use Rattle.table.proofs.Leadings.{follows_arcs}

module _ (rows : List Bool) (arcs : List Arc) (m : Meaning) (is : m ≡ tabled rows arcs) where
  pub follows : gave (examined rows arcs) ≡ true → Follows rows arcs m
  follows h = subst (Follows rows arcs) (sym (is ∙ cond-true _ _ _ h)) (follows_arcs rows arcs)

  pub blank : gave (examined rows arcs) ≡ false → Blank m
  blank h = subst Blank (sym (is ∙ cond-false _ _ _ h)) (record { width = refl; choices = refl; start = refl; safe = λ r. and_right _ _ refl; next = λ r c. cond-false _ _ _ (and_right _ _ refl) })
