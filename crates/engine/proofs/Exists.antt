-- A process has an accepted book exactly when its reachable rows are safe and few.
use Rattle.std.proofs.Common.{◌≡◌, ℕ, zero, suc, ◌+◌, ◌<◌, ◌≤◌, true, false, ◌⊎◌, List, [], ◌∷◌, length, get_or, Some, None, Option, sym, refl, ap, ◌∙◌, subst, inl, inr, arith}
use Rattle.std.proofs.lemmas.Bool.{cases_Bool, cases_lt, both_ways}
use Rattle.process.specs.Meaning.{Meaning, Row, Lawful, Reachable, at_start, by_choice}
use Rattle.process.proofs.Tries.{reach_row}
use Rattle.book.specs.Listing.{Listing, IsBook, In, among}
use Rattle.book.proofs.Held.{among_in, in_among}
use Rattle.book.proofs.Rows.{written}
use Rattle.engine.specs.Accepting.{Closed}
use Rattle.engine.specs.Existing.{AllSafe, Has, Once, Census, Few, HasBook, Existing}
use Rattle.engine.proofs.Closing.{accepted_closed, closed_is, closed_in}
use Rattle.engine.proofs.Pigeons.{once_fits}

-- one below the bound is so, or each is otherwise
any_below : (P Q : ℕ → Type 0) (n : ℕ) → ((k : ℕ) → P k ⊎ Q k) → ((k : ℕ) × (k < n) × P k) ⊎ ((k : ℕ) → k < n → Q k)
any_below P Q zero f = inr (λ k h. absurd (omega arith))
any_below P Q (suc n) f =
    elim (any_below P Q n f) [
      | inl p ↦ inl (p.0, omega arith, p.2)
      | inr all ↦ elim (f n) [
        | inl p ↦ inl (n, omega arith, p)
        | inr q ↦ inr (λ k h. elim (cases_lt k n) [
          | inl l ↦ all k l
          | inr g ↦ let same : n ≡ k = omega arith in subst Q same q
        ])
      ]
    ]

-- a move out of the rows, or none
abbrev Out : List Row → Option Row → Type 0
Out rows o = (s : Row) × (o ≡ Some s) × (among s rows ≡ false)

abbrev Stays : List Row → Option Row → Type 0
Stays rows o = (s : Row) → o ≡ Some s → Has rows s

out_or : (rows : List Row) (o : Option Row) → Out rows o ⊎ Stays rows o
out_or rows None = inr (λ s e. let z : ◌≡◌ {A = ℕ} 0 1 = cc in absurd (omega arith))
out_or rows (Some t) =
    elim (cases_Bool (among t rows)) [
      | inl h ↦ inr (λ s e. let same : t ≡ s = cc in among_in s rows (subst (λ (x : Row). among x rows ≡ true) same h))
      | inr h ↦ inl (t, refl, h)
    ]

-- rows found so far
record Found (m : Meaning) (rows : List Row) : Type 0 where
  only : (r : Row) → Has rows r → Reachable m r
  begin : Has rows m.start
  once : Once rows

once_more : (s : Row) (rows : List Row) → among s rows ≡ false → Once rows → Once (s ∷ rows)
once_more s rows new once zero zero h k e = refl
once_more s rows new once zero (suc j) h k e = absurd (both_ways (among s rows) new (in_among s rows j (omega arith) (sym e)))
once_more s rows new once (suc i) zero h k e = absurd (both_ways (among s rows) new (in_among s rows i (omega arith) e))
once_more s rows new once (suc i) (suc j) h k e = ap suc (once i j (omega arith) (omega arith) e)

has_more : (P : Row → Type 0) (s : Row) (rows : List Row) → P s → ((r : Row) → Has rows r → P r) → (r : Row) (i : ℕ) → i < length (s ∷ rows) → get_or (s ∷ rows) i [] ≡ r → P r
has_more P s rows p all r zero h e = subst P e p
has_more P s rows p all r (suc i) h e = all r (i, omega arith, e)

found_more : (m : Meaning) (s : Row) (rows : List Row) → Found m rows → Reachable m s → among s rows ≡ false → Found m (s ∷ rows)
found_more m s rows f q new = record {
  only = λ r p. has_more (Reachable m) s rows q f.only r p.0 p.1 p.2;
  begin = let b = f.begin in (suc b.0, omega arith, b.2);
  once = once_more s rows new f.once;
}

found_start : (m : Meaning) → Found m (m.start ∷ [])
found_start m = record {
  only = λ r p. has_more (Reachable m) m.start [] at_start (λ x k. let b = k.1 in absurd (omega arith)) r p.0 p.1 p.2;
  begin = (0, omega arith, refl);
  once = λ i j h k e. omega arith;
}

-- rows that no choice leads out of hold all that can be reached
reached : (m : Meaning) (rows : List Row) → Has rows m.start → ((i : ℕ) → i < length rows → (c : ℕ) → c < m.choices → Stays rows (m.next (get_or rows i []) c)) →
    (r : Row) → Reachable m r → Has rows r
reached m rows b all r at_start = b
reached m rows b all r (by_choice c q h e) =
    let p = reached m rows b all _ q in
    all p.0 p.1 c h _ (ap (λ (x : Row). m.next x c) p.2 ∙ e)

-- a row that is not yet found, or all are
grow_or : (m : Meaning) (rows : List Row) → Found m rows → ((s : Row) × Reachable m s × (among s rows ≡ false)) ⊎ Census m rows
grow_or m rows f =
    let row : ℕ → Row = λ i. get_or rows i [] in
    let at : (i : ℕ) → ((c : ℕ) × (c < m.choices) × Out rows (m.next (row i) c)) ⊎ ((c : ℕ) → c < m.choices → Stays rows (m.next (row i) c)) =
    λ i. any_below (λ c. Out rows (m.next (row i) c)) (λ c. Stays rows (m.next (row i) c)) m.choices (λ c. out_or rows (m.next (row i) c)) in
    elim (any_below (λ i. (c : ℕ) × (c < m.choices) × Out rows (m.next (row i) c)) (λ i. (c : ℕ) → c < m.choices → Stays rows (m.next (row i) c)) (length rows) at) [
      | inl p ↦
          let i = p.0 in
          let o = p.2 in
          let s = o.2 in
          inl (s.0, by_choice o.0 (f.only (row i) (i, p.1, refl)) o.1 s.1, s.2)
      | inr all ↦ inr (record { only = f.only; all = reached m rows f.begin all; once = f.once })
    ]

grow : (m : Meaning) (l : Listing) → ((r : Row) → Reachable m r → In l r) → (fuel : ℕ) (rows : List Row) → Found m rows → length l.rows < length rows + fuel → (full : List Row) × Census m full
grow m l holds zero rows f h =
    let fits = once_fits rows l.rows f.once (λ r p. holds r (f.only r p)) in absurd (omega arith)
grow m l holds (suc k) rows f h =
    elim (grow_or m rows f) [
      | inl p ↦ grow m l holds k (p.0 ∷ rows) (found_more m p.0 rows f p.1 p.2) (omega arith)
      | inr c ↦ (rows, c)
    ]

census : (m : Meaning) (l : Listing) → ((r : Row) → Reachable m r → In l r) → (rows : List Row) × Census m rows × (length rows ≤ length l.rows)
census m l holds =
    let g = grow m l holds (length l.rows) (m.start ∷ []) (found_start m) (omega arith) in
    (g.0, g.1, once_fits g.0 l.rows g.1.once (λ r p. holds r (g.1.only r p)))

-- a book of just the rows that can be reached is closed
just_closed : (m : Meaning) (l : Listing) → ((r : Row) → In l r → Reachable m r) → ((r : Row) → Reachable m r → In l r) → AllSafe m → Closed m l
just_closed m l only all safe = record {
  start = all _ at_start;
  safe = λ r q. safe r (only r q);
  stays = λ r s c q h n. all s (by_choice c (only r q) h n);
}

pub exists : (m : Meaning) → Lawful m → Existing m
exists m w = record {
  exactly = (forth, back);
  any = λ l b just safe. (_, closed_is m l w b (just_closed m l (λ r. (just r).0) (λ r. (just r).1) safe));
  written = written;
  least = λ l b a. census m l (closed_in m l (accepted_closed m l a));
  number = λ a b x y. let p = fits a b x y in let q = fits b a y x in omega arith;
}
  where
    fits : (a b : List Row) → Census m a → Census m b → length a ≤ length b
    fits a b x y = once_fits a b x.once (λ r p. y.all r (x.only r p))

    forth : HasBook m → AllSafe m × Few m
    forth b =
        let l = b.0 in
        let d = accepted_closed m l b.2 in
        let c = census m l (closed_in m l d) in
        let high = b.1.count_high in
        let long = c.2 in
        (λ r q. d.safe r (closed_in m l d r q), (c.0, c.1, omega arith))

    back : AllSafe m × Few m → HasBook m
    back p =
        let rows = p.1.0 in
        let c = p.1.1 in
        let l : Listing = record { width = m.width; rows = rows } in
        let b : IsBook l = record { width_low = w.width_low; width_high = w.width_high; count_high = p.1.2; each = λ i h. reach_row m w _ (c.only _ (i, h, refl)) } in
        (l, b, (_, closed_is m l w b (just_closed m l c.only c.all p.0)))
