-- One exchange after the other.
use Rattle.std.proofs.Common.{◌≡◌, ℕ, ◌+◌, ◌<◌, ◌≤◌, List, [], ◌∷◌, ◌++◌, map, length, get_or, take, drop, set, sym, refl, ap, ◌∙◌, subst, arith}
use Rattle.std.proofs.lemmas.List.{append_assoc, append-nil, take_more_set, drop_more, drop-set-lt, take_all, drop_all, map-set, get_or-map, length-map}
use Rattle.process.specs.Meaning.{Meaning}
use Rattle.run.specs.Standing.{Stand}
use Rattle.run.specs.Exchanges.{Entry, entry_of, made, stand_made, all_made, stand_all_made}
use Rattle.run.specs.declared.exchange.Exchange.{Exchange}

-- from the stand s the entries given are on their way: the first i are made, and the rest made from the stand t gives the whole
pub record Making (m : Meaning) (s : Stand) (given now : List Entry) (i : ℕ) (t : Stand) : Type 0 where
  pub entries : take i now ++ all_made m t (drop i now) ≡ all_made m s given
  pub stand : stand_all_made m t (drop i now) ≡ stand_all_made m s given

pub making_none : (m : Meaning) (s : Stand) (given : List Entry) → Making m s given given 0 s
making_none m s given = record { entries = refl; stand = refl }

more : (m : Meaning) (s : Stand) (given xs : List Entry) (i : ℕ) (t t' : Stand) (d v : Entry) → Making m s given xs i t → i < length xs →
    v ≡ made m t (get_or xs i d) → t' ≡ stand_made m t (get_or xs i d) → Making m s given (set xs i v) (i + 1) t'
more m s given xs i t t' d v p h ev et =
    let less : i < i + 1 = omega arith in
    let front = take_more_set xs i v h in
    let back : drop (i + 1) (set xs i v) ≡ drop (i + 1) xs = drop-set-lt (i + 1) xs i v less in
    let next = drop_more xs i d h in
    let rest : List Entry = all_made m t' (drop (i + 1) xs) in
    let here : all_made m t (drop i xs) ≡ v ∷ rest =
    ap (all_made m t) next ∙ ap (λ (y : Stand). made m t (get_or xs i d) ∷ all_made m y (drop (i + 1) xs)) (sym et) ∙ ap (λ (y : Entry). y ∷ rest) (sym ev) in
    record {
      entries =
          ap (λ (ys : List Entry). ys ++ all_made m t' (drop (i + 1) (set xs i v))) front
          ∙ ap (λ (ys : List Entry). (take i xs ++ v ∷ []) ++ all_made m t' ys) back
          ∙ append_assoc (take i xs) (v ∷ []) rest
          ∙ ap (λ (ys : List Entry). take i xs ++ ys) (sym here)
          ∙ p.entries;
      stand =
          ap (stand_all_made m t') back
          ∙ ap (λ (y : Stand). stand_all_made m y (drop (i + 1) xs)) et
          ∙ ap (stand_all_made m t) (sym next)
          ∙ p.stand;
    }

-- one more exchange, which is now y; n is what the process means in the run at hand
pub making_more : (m n : Meaning) (s : Stand) (given : List Entry) (xs : List Exchange) (i : ℕ) (t t' : Stand) (d y : Exchange) → m ≡ n → Making m s given (map entry_of xs) i t → i < length xs →
    entry_of y ≡ made n t (entry_of (get_or xs i d)) → t' ≡ stand_made n t (entry_of (get_or xs i d)) → Making m s given (map entry_of (set xs i y)) (i + 1) t'
making_more m n s given xs i t t' d y same p h ey et =
    let long = length-map xs entry_of in
    let e = entry_of d in
    let here : entry_of (get_or xs i d) ≡ get_or (map entry_of xs) i e = sym (get_or-map entry_of xs i d e h) in
    subst (λ (zs : List Entry). Making m s given zs (i + 1) t') (sym (map-set entry_of xs i y))
    (more m s given (map entry_of xs) i t t' e (entry_of y) p (omega arith)
    (ey ∙ ap (λ (k : Meaning). made k t (entry_of (get_or xs i d))) (sym same) ∙ ap (made m t) here)
    (et ∙ ap (λ (k : Meaning). stand_made k t (entry_of (get_or xs i d))) (sym same) ∙ ap (stand_made m t) here))

pub making_all : (m : Meaning) (s : Stand) (given xs : List Entry) (i : ℕ) (t : Stand) → Making m s given xs i t → length xs ≤ i →
    (xs ≡ all_made m s given) × (t ≡ stand_all_made m s given)
making_all m s given xs i t p h =
    let none = drop_all i xs h in (
      sym (ap (λ (ys : List Entry). ys ++ all_made m t (drop i xs)) (take_all i xs h) ∙ ap (λ (ys : List Entry). xs ++ all_made m t ys) none ∙ append-nil xs) ∙ p.entries,
      sym (ap (stand_all_made m t) none) ∙ p.stand,
    )
