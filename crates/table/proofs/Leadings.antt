-- A table leads where its rows and arcs do.
use Rattle.std.proofs.Common.{◌≡◌, ℕ, zero, suc, ◌<◌, Bool, false, List, [], ◌∷◌, get_or, Some, sym, ap, ◌∙◌, inl, inr, arith}
use Rattle.std.specs.Option.{option_map}
use Rattle.std.proofs.lemmas.Bool.{and_parts, eqb-true, cases_Bool, cond-true, cond-false}
use Rattle.std.proofs.lemmas.Bool.Decides.{nat_tests}
use Rattle.table.specs.declared.arc.Arc.{Arc}
use Rattle.table.specs.Tables.{applies, lead, lead_safely, row_of, flagged, meaning_of}
use Rattle.table.specs.Leading.{For, First, Follows, arc_at}
use Rattle.table.specs.Laws.{led, lead_more, one_cell}

module _ (n c : ℕ) where
  -- an arc that is not for the choice, put in front, leaves the first as it was, one place on
  later : (a : Arc) (rest : List Arc) (i : ℕ) → applies n c a ≡ false → First n c rest i → First n c (a ∷ rest) (suc i)
  later a rest i e f = record { within = omega arith; here = f.here; before = none }
    where
      none : (k : ℕ) → k < suc i → For n c (arc_at (a ∷ rest) k) → ⊥
      none zero h is = grind (arith, nat_tests)
      none (suc k) h is = f.before k (omega arith) is

  first_of : (arcs : List Arc) (t : ℕ) → lead n c arcs ≡ Some t → (i : ℕ) × First n c arcs i × ((arc_at arcs i).to ≡ t)
  first_of [] t e = absurd (let z : ◌≡◌ {A = ℕ} 0 1 = cc in omega arith)
  first_of (a ∷ rest) t e =
      elim (cases_Bool (applies n c a)) [
        | inl y ↦ (0, record { within = omega arith; here = grind (arith, nat_tests); before = λ k h. absurd (omega arith) }, cc (cond-true (applies n c a) (Some a.to) (lead n c rest) y, lead_more n c a rest))
        | inr y ↦ let q = first_of rest t (sym (lead_more n c a rest ∙ cond-false _ _ _ y) ∙ e) in (suc q.0, later a rest q.0 y q.1, q.2)
      ]

  lead_of : (arcs : List Arc) (i : ℕ) → First n c arcs i → lead n c arcs ≡ Some (arc_at arcs i).to
  lead_of [] i f = absurd (omega (arith, f.within))
  lead_of (a ∷ rest) zero f = grind (arith, nat_tests)
  lead_of (a ∷ rest) (suc i) f =
      let no : For n c a → ⊥ = f.before 0 (omega arith) in
      let ih = lead_of rest i (record { within = omega arith; here = f.here; before = λ k h. f.before (suc k) (omega arith) }) in
      grind (arith, nat_tests)

pub follows_arcs : (rows : List Bool) (arcs : List Arc) → Follows rows arcs (meaning_of rows arcs)
follows_arcs rows arcs r s c = (
  λ e.
      let q = led (flagged rows r) (lead (get_or r 0 0) c arcs) s e in
      let both = and_parts _ _ q.1 in
      let p = first_of (get_or r 0 0) c arcs q.0 q.2 in
      record { n = get_or r 0 0; i = p.0; row = one_cell r (eqb-true _ _ both.0); safe = both.1; first = p.1; end = cc },
  λ l.
      ap (λ x. lead_safely rows arcs x c) l.row ∙ cond-true _ _ _ l.safe ∙ ap (option_map row_of) (lead_of l.n c arcs l.i l.first) ∙ ap Some (sym l.end),
)
