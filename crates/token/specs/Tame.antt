-- Changes of rows that keep the width and raise no cell by much.
use Rattle.std.specs.Prelude.{◌≡◌, ℕ, ◌+◌, ◌-◌, ◌*◌, ◌≤◌, Bool, true, false, cond, List, [], ◌∷◌, length, drop, set, replicate, slice_index, slice_set}
use Rattle.std.proofs.Common.{ap, ◌∙◌, inl, inr, mul-suc, arith}
use Rattle.std.proofs.lemmas.List.{length-set, get_or-set_same, get_or-set_other, set_past, length-append, length-drop, length-replicate, get_or-replicate, get_or_append_left, get_or-append_right, get_or-drop}
use Rattle.std.proofs.lemmas.Bool.{cases_eq, cases_lt}
use Rattle.process.specs.Meaning.{Row}
use Rattle.token.specs.Known.{AtMost}
use Rattle.token.specs.Rules.{up, down, clear, wiped, sweep}

-- it keeps the width w and raises no cell by more than k
pub record Tame (w k : ℕ) (f : Row → Row) : Type 0 where
  pub long : (r : Row) → length r ≡ w → length (f r) ≡ w
  pub low : (b : ℕ) (r : Row) → length r ≡ w → AtMost b r → AtMost (b + k) (f r)

pub at_most_by : (r s : Row) (a b : ℕ) → s ≡ r → a ≤ b → AtMost a r → AtMost b s
at_most_by r s a b e l h k = omega (arith, h k, ap (λ (q : Row). slice_index q k) e)

at_most_set : (b : ℕ) (r : Row) (k v : ℕ) → AtMost b r → v ≤ b → AtMost b (slice_set r k v)
at_most_set b r k v h l j =
    elim (cases_eq j k) [
      | inl e ↦ elim (cases_lt k (length r)) [
        | inl m ↦ rw e (rw get_or-set_same l)
        | inr m ↦ rw set_past (h j)
      ]
      | inr ne ↦ rw get_or-set_other (h j)
    ]

module _ (w : ℕ) where
  pub tame_more : (j k : ℕ) (f : Row → Row) → j ≤ k → Tame w j f → Tame w k f
  tame_more j k f l t = record { long = t.long; low = λ b r e h i. omega (arith, t.low b r e h i) }

  pub tame_none : Tame w 0 (λ r. r)
  tame_none = record { long = λ r e. e; low = λ b r e h i. omega (arith, h i) }

  pub tame_zero : (i : ℕ) → Tame w 0 (λ r. set r i 0)
  tame_zero i = record { long = λ r e. length-set r i 0 ∙ e; low = λ b r e h j. omega (arith, at_most_set b r i 0 h (omega arith) j) }

  pub tame_one : (i : ℕ) → Tame w 1 (λ r. set r i 1)
  tame_one i = record { long = λ r e. length-set r i 1 ∙ e; low = λ b r e h. at_most_set (b + 1) r i 1 (λ j. omega (arith, h j)) (omega arith) }

  pub tame_up : (i : ℕ) → Tame w 1 (λ r. up r i)
  tame_up i = record { long = λ r e. length-set r i _ ∙ e; low = λ b r e h. at_most_set (b + 1) r i _ (λ j. omega (arith, h j)) (omega (arith, h i)) }

  pub tame_down : (i : ℕ) → Tame w 0 (λ r. down r i)
  tame_down i = record { long = λ r e. length-set r i _ ∙ e; low = λ b r e h j. omega (arith, at_most_set b r i (slice_index r i - 1) h (omega (arith, h i)) j) }

  pub tame_if : (k : ℕ) (t : Row → Bool) (f g : Row → Row) → Tame w k f → Tame w k g → Tame w k (λ r. cond (t r) (f r) (g r))
  tame_if k t f g p q = record { long = λ r e. long (t r) r e; low = λ b r e h. low (t r) b r e h }
    where
      long : (c : Bool) (r : Row) → length r ≡ w → length (cond c (f r) (g r)) ≡ w
      long true r e = p.long r e
      long false r e = q.long r e

      low : (c : Bool) (b : ℕ) (r : Row) → length r ≡ w → AtMost b r → AtMost (b + k) (cond c (f r) (g r))
      low true b r e h = p.low b r e h
      low false b r e h = q.low b r e h

  -- the first, and then the second
  pub tame_both : (j k : ℕ) (f g : Row → Row) → Tame w j f → Tame w k g → Tame w (j + k) (λ r. g (f r))
  tame_both j k f g p q = record {
    long = λ r e. q.long (f r) (p.long r e);
    low = λ b r e h i. omega (arith, q.low (b + j) (f r) (p.long r e) (p.low b r e h) i);
  }

  pub tame_clear : (n i : ℕ) → Tame w 0 (λ r. clear n r i)
  tame_clear n i = tame_both 0 0 (λ r. set r i 0) (λ r. set r (n + i) 0) (tame_zero i) (tame_zero (n + i))

  pub tame_sweep : {X : Type 0} (k : ℕ) (f : ℕ → X → Row → Row) → ((i : ℕ) (x : X) → Tame w k (f i x)) → (i : ℕ) (xs : List X) → Tame w (k * length xs) (sweep f i xs)
  tame_sweep k f t i [] = tame_more 0 (k * 0) (λ r. r) (omega arith) tame_none
  tame_sweep k f t i (x ∷ xs) = tame_more (k + k * length xs) (k * length (x ∷ xs)) (sweep f i (x ∷ xs)) (omega (arith, mul-suc k (length xs))) (tame_both k (k * length xs) (f i x) (sweep f (i + 1) xs) (t i x) (tame_sweep k f t (i + 1) xs))

  pub tame_wiped : (k : ℕ) → k ≤ w → Tame w 0 (wiped k)
  tame_wiped k l = record { long = λ r e. omega (arith, length-append (replicate k 0) (drop k r), length-drop k r, length-replicate {A = ℕ} k 0); low = low }
    where
      low : (b : ℕ) (r : Row) → length r ≡ w → AtMost b r → AtMost (b + 0) (wiped k r)
      low b r e h i =
          let z : length (replicate {A = ℕ} k 0) ≡ k = length-replicate k 0 in
          elim (cases_lt i k) [
            | inl m ↦ omega (arith, get_or_append_left (replicate k 0) (drop k r) 0 i (omega arith), get_or-replicate {A = ℕ} k i 0 0 m)
            | inr m ↦ omega (arith, get_or-append_right (replicate k 0) (drop k r) k i 0 z m, get_or-drop k r (i - k) 0, h (k + (i - k)))
          ]
