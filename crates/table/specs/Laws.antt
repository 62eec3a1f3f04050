-- What every process keeps to, of a table whose arcs fit.
use Rattle.std.specs.Prelude.{◌≡◌, ℕ, zero, suc, ◌+◌, ◌<◌, ◌≤◌, Bool, true, false, cond, List, [], ◌∷◌, length, Some, None, vec_items, Option, slice_index, find, refl}
use Rattle.std.proofs.Common.{subst, arith}
use Rattle.std.specs.Option.{option_map}
use Rattle.std.proofs.lemmas.Bool.{and_parts, eqb-true}
use Rattle.std.proofs.lemmas.Bool.Decides.{nat_tests}
use Rattle.process.specs.Meaning.{Row, IsRow, Lawful}
use Rattle.process.specs.Outcomes.{gave}
use Rattle.process.specs.Bounds.{Within}
use Rattle.table.specs.declared.arc.Arc.{Arc}
use Rattle.table.specs.Examination.{examined_arcs}
use Rattle.table.specs.Tables.{largest, applies, lead, row_of, flagged, meaning_of}
use Rattle.table.specs.declared.table.Table.{Table}
use Rattle.table.specs.Means.{means}

-- the arcs fit a table of n rows, where they are numbered from i on
abbrev pub Fit : ℕ → ℕ → List Arc → Type 0
Fit n i arcs = gave (examined_arcs n i arcs) ≡ true

-- what it says of the first arc, and of those after it
parts : (n i : ℕ) (a : Arc) (rest : List Arc) → Fit n i (a ∷ rest) → (a.choice ≤ 4095) × (a.to < n) × Fit n (i + 1) rest
parts n i a rest h = grind (arith, nat_tests)

-- a next row is the end of an arc, from a safe row
pub led : (b : Bool) (o : Option ℕ) (s : Row) → cond b (option_map row_of o) None ≡ Some s → (t : ℕ) × (b ≡ true) × (o ≡ Some t) × (row_of t ≡ s)
led true (Some t) s e = (t, refl, refl, cc)
led true None s e = (0, refl, cc, cc)
led false o s e = (0, cc, cc, cc)

pub largest_low : (n i : ℕ) (arcs : List Arc) → Fit n i arcs → largest arcs ≤ 4095
largest_low n i [] h = omega arith
largest_low n i (a ∷ rest) h = let p = parts n i a rest h in omega (arith, largest_low n (i + 1) rest p.2)

-- where the first arc of several leads
pub lead_more : (n c : ℕ) (a : Arc) (rest : List Arc) → lead n c (a ∷ rest) ≡ cond (applies n c a) (Some a.to) (lead n c rest)
lead_more n c a rest = by (applies n c a) (find (applies n c) rest)
  where
    by : (b : Bool) (o : Option Arc) → option_map (λ (x : Arc). x.to) (cond b (Some a) o) ≡ cond b (Some a.to) (option_map (λ (x : Arc). x.to) o)
    by true o = refl
    by false o = refl

lead_low : (n i m c : ℕ) (arcs : List Arc) (t : ℕ) → Fit n i arcs → lead m c arcs ≡ Some t → t < n
lead_low n i m c [] t h e = let z : ◌≡◌ {A = ℕ} 0 1 = cc in omega arith
lead_low n i m c (a ∷ rest) t h e =
    let p = parts n i a rest h in
    let ih = lead_low n (i + 1) m c rest t p.2 in
    grind (arith, nat_tests)

-- a list of one cell is a row of one cell
pub one_cell : (r : Row) → length r ≡ 1 → r ≡ row_of (slice_index r 0)
one_cell [] e = absurd (omega arith)
one_cell (x ∷ []) e = refl
one_cell (x ∷ (y ∷ rest)) e = absurd (omega arith)

-- a row of one cell
one_row : (t : ℕ) → t < 65536 → IsRow 1 (row_of t)
one_row t h = record { long = refl; cells = cell }
  where
    cell : (k : ℕ) → slice_index (row_of t) k < 65536
    cell zero = h
    cell (suc k) = omega arith

pub lawful_of : (rows : List Bool) (arcs : List Arc) → length rows ≤ 4096 → Fit (length rows) 0 arcs → Lawful (meaning_of rows arcs)
lawful_of rows arcs few fit =
    let low = largest_low (length rows) 0 arcs fit in
    record {
      width_low = omega arith;
      width_high = omega arith;
      choices_low = omega arith;
      choices_high = omega arith;
      start_row = one_row 0 (omega arith);
      safe_row = λ r h. eqb-true _ _ (and_parts _ _ h).0;
      next_row = λ r s c i l e.
          let q = led (flagged rows r) (lead (slice_index r 0) c arcs) s e in
          let below = lead_low (length rows) 0 (slice_index r 0) c arcs q.0 fit q.2 in
          subst (IsRow 1) q.3 (one_row q.0 (omega arith));
    }

-- the same of a table of the code
pub lawful_table : (t : Table) → Lawful (means t)
lawful_table t = lawful_of _ _ t.few t.fit

pub within_table : (t : Table) → Within (record { widest = 1; most_choices = 4096 }) (means t)
within_table t =
    let low = largest_low _ 0 (vec_items t.arcs) t.fit in
    record { width = omega arith; choices = omega arith; widest = omega arith; most = omega arith }
