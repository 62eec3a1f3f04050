-- Tests of every element of a list.
use Rattle.std.proofs.Common.{◌≡◌, ℕ, zero, suc, ◌+◌, ◌<◌, Bool, true, false, cond, ◌&&◌, List, [], ◌∷◌, length, get_or, Decides, refl, arith}
use Rattle.std.proofs.lemmas.Bool.{both_ways}
use Rattle.std.proofs.lemmas.Bool.Decides.{Decides-and, Decides-like, Decides-at}
use Rattle.process.specs.Outcomes.{Answer, gives, refuses, gave}
use Rattle.process.specs.Examining.{then, first_fault}

-- f tests each element of a list, which are numbered from i on
module _ {X : Type 0} (test : ℕ → X → Bool) (P : ℕ → X → Type 0) (f : ℕ → List X → Bool)
    (none : (i : ℕ) → f i [] ≡ true) (more : (i : ℕ) (x : X) (xs : List X) → f i (x ∷ xs) ≡ (test i x && f (i + 1) xs))
    (each : (i : ℕ) (x : X) → Decides (test i x) (P i x)) (z : X) where
  to_all : (i : ℕ) (x : X) (xs : List X) → P i x × ((k : ℕ) → k < length xs → P (i + 1 + k) (get_or xs k z)) → (k : ℕ) → k < length (x ∷ xs) → P (i + k) (get_or (x ∷ xs) k z)
  to_all i x xs h zero l = let e : i + 0 ≡ i = omega arith in rw e h.0
  to_all i x xs h (suc k) l = let e : i + suc k ≡ i + 1 + k = omega arith in rw e (h.1 k (omega arith))

  from_all : (i : ℕ) (x : X) (xs : List X) → ((k : ℕ) → k < length (x ∷ xs) → P (i + k) (get_or (x ∷ xs) k z)) → P i x × ((k : ℕ) → k < length xs → P (i + 1 + k) (get_or xs k z))
  from_all i x xs h =
      let c : i + 0 ≡ i = omega arith in
      (rw c at (h 0 (omega arith)), λ k l. let e : i + suc k ≡ i + 1 + k = omega arith in rw e at (h (suc k) (omega arith)))

  decides_from : (i : ℕ) (xs : List X) → Decides (f i xs) ((k : ℕ) → k < length xs → P (i + k) (get_or xs k z))
  decides_from i [] = (λ h k l. absurd (omega arith), λ h. none i)
  decides_from i (x ∷ xs) = Decides-at _ _ (more i x xs) (Decides-like _ (to_all i x xs) (from_all i x xs) (Decides-and _ _ (each i x) (decides_from (i + 1) xs)))

  pub decides_all : (xs : List X) → Decides (f 0 xs) ((k : ℕ) → k < length xs → P k (get_or xs k z))
  decides_all xs =
      Decides-like _
      (λ h k l. let e : 0 + k ≡ k = omega arith in rw e at (h k l))
      (λ h k l. let e : 0 + k ≡ k = omega arith in rw e (h k l))
      (decides_from 0 xs)

-- ## Examinations as tests

gave_then : (a b : Answer Unit) → gave (then a b) ≡ (gave a && gave b)
gave_then (gives x) b = refl
gave_then (refuses number place) b = refl

-- the first part, and then the second
pub decides_then : {P Q : Type 0} (a b : Answer Unit) → Decides (gave a) P → Decides (gave b) Q → Decides (gave (then a b)) (P × Q)
decides_then a b p q = Decides-at _ _ (gave_then a b) (Decides-and (gave a) (gave b) p q)

-- a test, or else a refusal, and then the rest
pub decides_test : {P Q : Type 0} (t : Bool) (a : Answer Unit) (number place : ℕ) → Decides t P → Decides (gave a) Q → Decides (gave (cond t a (refuses number place))) (P × Q)
decides_test true a number place p q = (λ h. (p.0 refl, q.0 h), λ h. q.1 h.1)
decides_test false a number place p q = (λ h. absurd (both_ways false refl h), λ h. p.1 h.0)

-- only a test, or else a refusal
pub decides_only : {P : Type 0} (t : Bool) (number place : ℕ) → Decides t P → Decides (gave {X = Unit {0}} (cond t (gives tt) (refuses number place))) P
decides_only true number place p = p
decides_only false number place p = p

-- there is no fault just if no element has one
pub decides_faultless : {X : Type 0} (f : ℕ → X → Answer Unit) (P : ℕ → X → Type 0) → ((i : ℕ) (x : X) → Decides (gave (f i x)) (P i x)) → (z : X) (xs : List X) → Decides (gave (first_fault f 0 xs)) ((k : ℕ) → k < length xs → P k (get_or xs k z))
decides_faultless f P each z xs = decides_all (λ i x. gave (f i x)) P (λ i ys. gave (first_fault f i ys)) (λ i. refl) (λ i x ys. gave_then (f i x) (first_fault f (i + 1) ys)) each z xs
