-- `try_for_each` over a numbered list ends with the first fault.
use Rattle.std.proofs.Common.{◌≡◌, ℕ, ◌+◌, List, [], ◌∷◌, Some, None, Ok, Err, Option, Result, sym, ap, ◌∙◌, subst}
use Rattle.std.specs.List.{enumerate_from, FoldsTo}
use Rattle.std.specs.Fn.{Called}
use Rattle.std.specs.Iterator.{AlwaysYields, Yields, YieldsThen}
use Rattle.std.specs.Option.{MatchOption}
use Rattle.std.specs.Result.{IsErr, IsErrAnd}
use Rattle.std.proofs.lemmas.Iterator.{YieldsList}
use denote.Ref.{Bor}
use denote.Param.Members.{Mut}
use Rattle.process.specs.Outcomes.{Answer, told_by}
use Rattle.process.specs.Examining.{then, first_fault}

-- the error that a result holds
is_that : {D : Type 0} (r : Result (Unit {0}) D) (e : D) → IsErrAnd r (λ y. y ≡ e) → r ≡ Err e
is_that (Ok x) e h = absurd h
is_that (Err y) e h = ap Err h

-- D are the faults, with their numbers and places
module _ {D S X F E : Type 0} (number place : D → ℕ) (steps : S → Option (ℕ × Bor X) → S → Type 0) (g : Mut F ((ℕ × Bor X) × Unit {0}) (Result (Unit {0}) D)) (held : E → D) (fault : ℕ → X → Answer Unit) (f : F) where
  -- a call that goes on, and the last call
  abbrev Passes : F → ℕ × Bor X → F → Type 0
  Passes = λ p x q. (v : Result (Unit {0}) D) × Called g p (x, tt) v q × (v ≡ Ok tt)

  abbrev Ends : F → Result (Unit {0}) D → Option (ℕ × Bor X) → Type 0
  Ends h r o = MatchOption o (r ≡ Ok tt) (λ x. (v : Result (Unit {0}) D) × (k : F) × (e : E) × Called g h (x, tt) v k × (v ≡ Err (held e)) × (IsErr r × IsErrAnd r (λ y. y ≡ held e)))

  -- each call tells the fault of its element, and leaves the closure as it was
  abbrev Tells : Type 0
  Tells = (p : ℕ × Bor X) (v : Result (Unit {0}) D) (q : F) → Called g f (p, tt) v q → (q ≡ f) × (told_by number place v ≡ fault p.0 p.1.now)

  stops : Tells → (items : List (ℕ × Bor X)) (xs : List X) (i : ℕ) (s t u : S) (h : F) (r : Result (Unit {0}) D) (o : Option (ℕ × Bor X)) → AlwaysYields steps (λ p. (p.0, p.1.now)) s (enumerate_from i xs)
      → Yields steps s items t → FoldsTo Passes f items h → steps t o u → Ends h r o → told_by number place r ≡ first_fault fault i xs
  stops tells [] [] i s t u h r None a y c p e = ap (told_by number place) e
  stops tells [] [] i s t u h r (Some x) a y c p e = absurd (a x u (subst (λ k. steps k (Some x) u) (sym y) p))
  stops tells [] (z ∷ xs) i s t u h r None a y c p e = absurd (a.0 u (subst (λ k. steps k None u) (sym y) p))
  stops tells [] (z ∷ xs) i s t u h r (Some x) a y c p e =
      let is : (x.0, x.1.now) ≡ (i, z) = (a.1 x u (subst (λ k. steps k (Some x) u) (sym y) p)).0 in
      let fails : told_by number place e.0 ≡ fault x.0 x.1.now = (tells x e.0 e.1 (subst (λ k. Called g k (x, tt) e.0 e.1) (sym c) e.3)).1 in
      ap (told_by number place) (is_that r (held e.2) e.5.1) ∙ ap (λ w. then w (first_fault fault (i + 1) xs)) (ap (told_by number place) (sym e.4) ∙ fails ∙ ap (λ (q : ℕ × X). fault q.0 q.1) is)
  stops tells (x ∷ items) [] i s t u h r o a y c p e = absurd (a x y.0 y.1)
  stops tells (x ∷ items) (z ∷ xs) i s t u h r o a y c p e =
      let next = a.1 x y.0 y.1 in
      let calm = tells x c.1.0 c.0 c.1.1 in
      stops tells items xs (i + 1) y.0 t u h r o next.1 y.2 (subst (λ k. FoldsTo Passes k items h) calm.0 c.2) p e
      ∙ ap (λ w. then w (first_fault fault (i + 1) xs)) (ap (told_by number place) (sym c.1.2) ∙ calm.1 ∙ ap (λ (q : ℕ × X). fault q.0 q.1) next.0)

-- a run of `try_for_each` over the elements of a list, each with its number
pub first_tried : {D S X F E : Type 0} (number place : D → ℕ) {steps : S → Option (ℕ × Bor X) → S → Type 0} {g : Mut F ((ℕ × Bor X) × Unit {0}) (Result (Unit {0}) D)} {held : E → D} (fault : ℕ → X → Answer Unit) {s : S} (u : S) (f : F) (r : Result (Unit {0}) D) (xs : List X)
    → (items : List (ℕ × Bor X)) × (o : Option (ℕ × Bor X)) × (h : F) × YieldsThen steps s items o u × FoldsTo (Passes number place steps g held fault f) f items h × Ends number place steps g held fault f h r o
    → YieldsList steps (λ p. (p.0, p.1.now)) s (enumerate_from 0 xs) → Tells number place steps g held fault f → told_by number place r ≡ first_fault fault 0 xs
first_tried number place {steps} {g} {held} fault {s} u f r xs ran all tells = stops number place steps g held fault f tells ran.0 xs 0 s ran.3.0 u ran.2 r ran.1 all.runs ran.3.1 ran.4 ran.3.2 ran.5
