-- Lists in which one element is so, and no other.
use Rattle.std.proofs.Common.{◌≡◌, ℕ, zero, suc, ◌+◌, ◌<◌, ◌≤◌, Bool, true, cond, List, [], ◌∷◌, length, get_or, refl, ap, inl, inr, arith}
use Rattle.std.proofs.lemmas.Bool.{cases_Bool, cond-true, cond-false}
use Rattle.std.proofs.lemmas.List.Sums.{sum_by-cons, get_or-le-sum_by}
use Rattle.std.specs.List.{count_by}

module _ {X : Type 0} (p : X → Bool) (z : X) where
  more : (x : X) (xs : List X) → count_by p (x ∷ xs) ≡ cond (p x) 1 0 + count_by p xs
  more x xs = sum_by-cons (λ y. cond (p y) 1 0) x xs

  counted : (xs : List X) (k : ℕ) → k < length xs → p (get_or xs k z) ≡ true → 1 ≤ count_by p xs
  counted xs k l h = omega (arith, get_or-le-sum_by (λ y. cond (p y) 1 0) xs k z l, cond-true {A = ℕ} (p (get_or xs k z)) 1 0 h)

  -- if some are so, there is one
  pub some_one : (xs : List X) → 1 ≤ count_by p xs → (k : ℕ) × (k < length xs) × (p (get_or xs k z) ≡ true)
  some_one [] h = absurd (omega arith)
  some_one (x ∷ xs) h =
      elim (cases_Bool (p x)) [
        | inl b ↦ (0, omega arith, b)
        | inr b ↦ let q = some_one xs (omega (arith, more x xs, cond-false {A = ℕ} (p x) 1 0 b)) in (suc q.0, omega (arith, q.1), q.2)
      ]

  -- if one is so, it is the only one
  pub only_one : (xs : List X) → count_by p xs ≡ 1 → (j k : ℕ) → j < length xs → k < length xs → p (get_or xs j z) ≡ true → p (get_or xs k z) ≡ true → j ≡ k
  only_one [] e j k l m g h = absurd (omega arith)
  only_one (x ∷ xs) e zero zero l m g h = refl
  only_one (x ∷ xs) e zero (suc k) l m g h = absurd (omega (arith, more x xs, cond-true {A = ℕ} (p x) 1 0 g, counted xs k (omega arith) h))
  only_one (x ∷ xs) e (suc j) zero l m g h = absurd (omega (arith, more x xs, cond-true {A = ℕ} (p x) 1 0 h, counted xs j (omega arith) g))
  only_one (x ∷ xs) e (suc j) (suc k) l m g h =
      elim (cases_Bool (p x)) [
        | inl b ↦ absurd (omega (arith, more x xs, cond-true {A = ℕ} (p x) 1 0 b, counted xs j (omega arith) g))
        | inr b ↦ ap suc (only_one xs (omega (arith, more x xs, cond-false {A = ℕ} (p x) 1 0 b)) j k (omega arith) (omega arith) g h)
      ]
