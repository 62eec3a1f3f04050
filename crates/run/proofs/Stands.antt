-- How a run holds its row.
use Rattle.std.proofs.Common.{◌≡◌, ℕ, ◌<◌, length, take, Some, arith}
use mathlib.Core.Logic.{∥∥₁_elim, ∥∥₁_map}
use Rattle.std.proofs.Math.Nat.{ℕ_set}
use Rattle.std.proofs.lemmas.List.{take_all}
use Rattle.std.proofs.lemmas.Bool.Decides.{nat_tests}
use Rattle.process.specs.Meaning.{Meaning, Row, Lawful, Reachable, by_choice}
use Rattle.process.specs.Outcomes.{gives, next_outcome}
use Rattle.process.proofs.Tries.{reach_row}

module _ (m : Meaning) (w : Lawful m) where
  -- a row of the width has room
  pub fits : (r : Row) → length r ≡ m.width → take 512 r ≡ r
  fits r e = take_all 512 r (omega (arith, w.width_high))

  -- a row that can be reached has the width
  pub reached_long : (r : Row) → ∥ Reachable m r ∥₁ → length r ≡ m.width
  reached_long r q = ∥∥₁_elim q (λ a b. ℕ_set _ _ a b) (λ p. (reach_row m w r p).long)

-- a choice that was given, with what the buffer then held: there is such a choice, and it leads there
module _ (m : Meaning) (r b new : Row) (c : ℕ) (gave : gives tt ≡ (next_outcome m r c b).answer) where
  pub gave_width : length b ≡ m.width
  gave_width = grind (arith, nat_tests)

  gave_choice : c < m.choices
  gave_choice = grind (arith, nat_tests)

  gave_next : new ≡ (next_outcome m r c b).left → m.next r c ≡ Some new
  gave_next e = grind (arith, nat_tests)

  pub gave_reached : new ≡ (next_outcome m r c b).left → ∥ Reachable m r ∥₁ → ∥ Reachable m new ∥₁
  gave_reached e q = ∥∥₁_map q (λ p. by_choice c p gave_choice (gave_next e))
