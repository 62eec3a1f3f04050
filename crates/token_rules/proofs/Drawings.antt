-- What is promised of the drawing that tables make.
use Rattle.std.proofs.Common.{◌≡◌, true, false, List, sym, ◌∙◌, subst}
use Rattle.std.proofs.lemmas.Bool.{cond-true, cond-false}
use Rattle.process.specs.Meaning.{Blank}
use Rattle.process.specs.Outcomes.{gave}
use Rattle.token_tables.specs.declared.node.Node.{Node}
use Rattle.token_tables.specs.declared.edge.Edge.{Edge}
use Rattle.token_tables.specs.Tables.{Drawing}
use Rattle.token_tables.specs.Examination.{examined}
use Rattle.token_tables.specs.Good.{Good}
use Rattle.token_tables.proofs.Goods.{good}
use Rattle.token.specs.Rules.{meaning_of}
use Rattle.token.specs.Drawn.{drawn}
use Rattle.token_rules.specs.Ruled.{Ruled}
use Rattle.token_rules.proofs.Exactly.{follows, blank}
use Rattle.token_rules.proofs.Once.{stops}
use Rattle.token_rules.proofs.Paths.{same_runs}

all_ruled : (d : Drawing) → Good d → Ruled d (meaning_of d)
all_ruled d g = record { follows = follows d g; runs = same_runs d g; stops = stops d g }

module _ (ns : List Node) (es : List Edge) (d : Drawing) (is : d ≡ drawn ns es) where
  pub ruled : gave (examined ns es) ≡ true → Ruled (record { nodes = ns; edges = es }) (meaning_of d)
  ruled h = subst (λ x. Ruled (record { nodes = ns; edges = es }) (meaning_of x)) (sym (is ∙ cond-true _ _ _ h)) (all_ruled _ (good ns es h))

  pub blank_when : gave (examined ns es) ≡ false → Blank (meaning_of d)
  blank_when h = subst (λ x. Blank (meaning_of x)) (sym (is ∙ cond-false _ _ _ h)) blank
