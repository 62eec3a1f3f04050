-- Tests of each element of a list, by its number.
use Rattle.std.specs.Prelude.{◌≡◌, ℕ, ◌<◌, Bool, true, false, not, ◌&&◌, ◌||◌, List, length, slice_index_or, Decides, refl}
use Rattle.std.specs.List.{list_any, list_all, enumerate_from}
use Rattle.process.proofs.Every.{decides_all}

-- each of a list, numbered from 0 on, passes the test; some of them does
abbrev pub all_numbered : {X : Type 0} → (ℕ → X → Bool) → List X → Bool
all_numbered test xs = list_all (λ p. test p.0 p.1) (enumerate_from 0 xs)

abbrev pub any_numbered : {X : Type 0} → (ℕ → X → Bool) → List X → Bool
any_numbered test xs = list_any (λ p. test p.0 p.1) (enumerate_from 0 xs)

not_or : (a b : Bool) → not (a || b) ≡ (not a && not b)
not_or true b = refl
not_or false b = refl

module _ {X : Type 0} (test : ℕ → X → Bool) {P : ℕ → X → Type 0} where
  pub decides_each : ((i : ℕ) (x : X) → Decides (test i x) (P i x)) → (z : X) (xs : List X) → Decides (all_numbered test xs) ((k : ℕ) → k < length xs → P k (slice_index_or xs k z))
  decides_each each z xs = decides_all test P (λ i ys. list_all (λ p. test p.0 p.1) (enumerate_from i ys)) (λ i. refl) (λ i x ys. refl) each z xs

  pub decides_none : ((i : ℕ) (x : X) → Decides (not (test i x)) (P i x)) → (z : X) (xs : List X) → Decides (not (any_numbered test xs)) ((k : ℕ) → k < length xs → P k (slice_index_or xs k z))
  decides_none each z xs = decides_all (λ i x. not (test i x)) P (λ i ys. not (list_any (λ p. test p.0 p.1) (enumerate_from i ys))) (λ i. refl) (λ i x ys. rw not_or) each z xs
