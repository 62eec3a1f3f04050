-- A list without repeats, all of whose rows stand in another, is no longer than it.
use Rattle.std.proofs.Common.{◌≡◌, ℕ, zero, suc, ◌<◌, ◌≤◌, true, cond, eqb, List, [], ◌∷◌, length, get_or, sym, refl, ap, ◌∙◌, subst, inl, inr, arith}
use Rattle.std.proofs.lemmas.Bool.{eq-eqb, ne_eqb, cond-true, cond-false, cases_eq, cases_Bool}
use Rattle.process.specs.Meaning.{Row}
use Rattle.book.specs.Listing.{same_row}
use Rattle.book.proofs.Held.{same_is, same_refl}
use Rattle.engine.specs.Existing.{Has, Once}

-- f i, with v where that is top
abbrev moved_in : ℕ → ℕ → ℕ → ℕ
moved_in top v x = cond (eqb x top) v x

in_top : (top v x : ℕ) → x ≡ top → moved_in top v x ≡ v
in_top top v x e = cond-true _ _ _ (eq-eqb _ _ e)

in_rest : (top v x : ℕ) → (x ≡ top → ⊥) → moved_in top v x ≡ x
in_rest top v x n = cond-false _ _ _ (ne_eqb _ _ n)

pigeons : (n m : ℕ) (f : ℕ → ℕ) → ((i : ℕ) → i < n → f i < m) → ((i j : ℕ) → i < n → j < n → f i ≡ f j → i ≡ j) → n ≤ m
pigeons zero m f low one = omega arith
pigeons (suc n) zero f low one = let h = low 0 (omega arith) in absurd (omega arith)
pigeons (suc n) (suc m) f low one =
    let v = f n in
    let vl : v < suc m = low n (omega arith) in
    let apart : (i : ℕ) → i < n → f i ≡ v → ⊥ = λ i h e. let s : i ≡ n = one i n (omega arith) (omega arith) e in omega arith in
    let below : (i : ℕ) → i < n → moved_in m v (f i) < m =
    λ i h. let l = low i (omega arith) in elim (cases_eq (f i) m) [
      | inl e ↦ let w = in_top m v (f i) e in let a : f i ≡ v → ⊥ = apart i h in omega arith
      | inr k ↦ let w = in_rest m v (f i) k in omega arith
    ] in
    let same : (i j : ℕ) → i < n → j < n → moved_in m v (f i) ≡ moved_in m v (f j) → i ≡ j =
    λ i j h k e. elim (cases_eq (f i) m) [
      | inl p ↦ elim (cases_eq (f j) m) [
        | inl q ↦ one i j (omega arith) (omega arith) (p ∙ sym q)
        | inr q ↦ absurd (apart j k (sym (in_rest m v (f j) q) ∙ sym e ∙ in_top m v (f i) p))
      ]
      | inr p ↦ elim (cases_eq (f j) m) [
        | inl q ↦ absurd (apart i h (sym (in_rest m v (f i) p) ∙ e ∙ in_top m v (f j) q))
        | inr q ↦ one i j (omega arith) (omega arith) (sym (in_rest m v (f i) p) ∙ e ∙ in_rest m v (f j) q)
      ]
    ] in
    let r = pigeons n m (λ i. moved_in m v (f i)) below same in omega arith

-- where a row stands first
abbrev place : Row → List Row → ℕ
place r [] = 0
place r (x ∷ xs) = cond (same_row x r) 0 (suc (place r xs))

placed : (r : Row) (rows : List Row) (i : ℕ) → i < length rows → get_or rows i [] ≡ r → (place r rows < length rows) × (get_or rows (place r rows) [] ≡ r)
placed r [] i h e = absurd (omega arith)
placed r (x ∷ xs) zero h e =
    let t : same_row x r ≡ true = subst (λ (y : Row). same_row x y ≡ true) e (same_refl x) in
    let w : place r (x ∷ xs) ≡ 0 = cond-true _ _ _ t in
    (omega arith, ap (λ k. get_or (x ∷ xs) k []) w ∙ e)
placed r (x ∷ xs) (suc i) h e =
    let p = placed r xs i (omega arith) e in
    let p0 = p.0 in
    elim (cases_Bool (same_row x r)) [
      | inl t ↦ let w : place r (x ∷ xs) ≡ 0 = cond-true _ _ _ t in (omega arith, ap (λ k. get_or (x ∷ xs) k []) w ∙ same_is x r t)
      | inr f ↦ let w : place r (x ∷ xs) ≡ suc (place r xs) = cond-false _ _ _ f in (omega arith, ap (λ k. get_or (x ∷ xs) k []) w ∙ p.1)
    ]

pub once_fits : (xs ys : List Row) → Once xs → ((r : Row) → Has xs r → Has ys r) → length xs ≤ length ys
once_fits xs ys once sub =
    let at : (i : ℕ) → i < length xs → (place (get_or xs i []) ys < length ys) × (get_or ys (place (get_or xs i []) ys) [] ≡ get_or xs i []) =
    λ i h. let k = sub (get_or xs i []) (i, h, refl) in placed (get_or xs i []) ys k.0 k.1 k.2 in
    pigeons (length xs) (length ys) (λ i. place (get_or xs i []) ys) (λ i h. (at i h).0)
    (λ i j h k e. once i j h k (sym (at i h).1 ∙ ap (λ p. get_or ys p []) e ∙ (at j k).1))
