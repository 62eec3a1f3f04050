-- The steps of the loops that sweep over a list and change a row.
use Rattle.std.proofs.Common.{◌≡◌, ℕ, ◌+◌, ◌<◌, List, length, get_or, drop, sym, refl, ap, ◌∙◌, arith}
use Rattle.std.proofs.lemmas.List.{at_drop_more}
use Rattle.process.specs.Meaning.{Row}
use Rattle.token.specs.Known.{AtMost}
use Rattle.token.specs.Rules.{sweep}
use Rattle.token.specs.Tame.{Tame}

-- what is left of the sweep gives what the whole gives, and no cell is above 20,000 and one more for each element so far
pub record Swept {X : Type 0} (f : ℕ → X → Row → Row) (i : ℕ) (xs : List X) (r whole : Row) : Type 0 where
  pub rest : sweep f i (drop i xs) r ≡ whole
  pub low : AtMost (20000 + i) r

-- one more element has changed the row, and no cell by more than one
pub swept_on : {X : Type 0} (f : ℕ → X → Row → Row) (i : ℕ) (xs : List X) (r whole s : Row) (x : X) → ((j : ℕ) (y : X) → Tame (length r) 1 (f j y)) → i < length xs → x ≡ get_or xs i x → s ≡ f i x r → Swept f i xs r whole → Swept f (i + 1) xs s whole
swept_on f i xs r whole s x t h at e w = record {
  rest = ap (sweep f (i + 1) (drop (i + 1) xs)) (e ∙ ap (λ y. f i y r) at) ∙ sym (at_drop_more (λ ys. sweep f i ys r) xs i x h) ∙ w.rest;
  low = λ k. omega (arith, (t i x).low (20000 + i) r refl w.low k, ap (λ q. get_or q k 0) e);
}
