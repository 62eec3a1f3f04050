-- How the sweeps over nodes and edges follow the changes of states.
use Rattle.std.proofs.Common.{◌≡◌, ℕ, suc, ◌+◌, ◌-◌, ◌<◌, Bool, true, false, cond, ◌&&◌, eqb, ltb, List, [], ◌∷◌, length, get_or, set, replicate, refl, ◌∙◌, inl, inr, arith}
use Rattle.std.proofs.lemmas.List.{places}
use Rattle.std.proofs.lemmas.Bool.{cases_Bool}
use Rattle.std.proofs.lemmas.Bool.Decides.{nat_tests}
use Rattle.process.specs.Meaning.{Row}
use Rattle.token_tables.specs.declared.node.Node.{Node}
use Rattle.token_tables.specs.declared.edge.Edge.{Edge}
use Rattle.token_tables.specs.Kinds.{is_begin}
use Rattle.token_tables.specs.Tables.{Drawing, n_of, e_of, no_node, no_edge, node_at, edge_at}
use Rattle.token.specs.Clocks.{is_after, cap_of}
use Rattle.token.specs.Rows.{f_of, width_of}
use Rattle.token.specs.Rules.{sweep, up, down, clear, is_boundary_of, pass_one, start_row}
use Rattle.token.specs.Rules as row
use Rattle.token_rules.specs.Relation.{State, boundaries, cleared, armed, given, taken, out_of, into, aged, begins}
use Rattle.token_rules.proofs.Shows.{Shows, shows_same, put_mark, put_clock, put_node, put_flow, put_day, shows_bare}

-- what happens to a cell: nothing, unless its node or edge passes a test
record Change : Type 0 where
  to : Bool → ℕ → ℕ
  else : (x : ℕ) → to false x ≡ x

abbrev kept : Change
kept = record { to = λ b x. x; else = λ x. refl }

abbrev zeroed : Change
zeroed = record { to = λ b x. cond b 0 x; else = λ x. refl }

abbrev raised : Change
raised = record { to = λ b x. cond b (x + 1) x; else = λ x. refl }

abbrev lowered : Change
lowered = record { to = λ b x. cond b (x - 1) x; else = λ x. refl }

-- the marks of the nodes of p are changed by f, their clocks by g, and the marks of the edges of p by h
abbrev changed : Change → Change → Change → (ℕ → Bool) → State → State
changed f g h p s = record { mark = λ n. f.to (p n) (s.mark n); clock = λ n. g.to (p n) (s.clock n); flow = λ e. h.to (p e) (s.flow e); day = s.day }

one_more : (f : Change) (p : ℕ → Bool) (i n x : ℕ) → f.to (ltb n (i + 1) && p n) x ≡ f.to (p i && eqb n i) (f.to (ltb n i && p n) x)
one_more f p i n x = grind (arith, nat_tests, f.else x)

module _ (d : Drawing) (f g h : Change) where
  -- a change that is made if a test is passed
  guarded : (b : Bool) (i : ℕ) {q c : Row} {t : State} → Shows d q t → Shows d c (changed f g h (λ n. eqb n i) t) → Shows d (cond b c q) (changed f g h (λ n. b && eqb n i) t)
  guarded true i sh new = new
  guarded false i sh new = shows_same d sh (record { marks = λ n l. f.else _; clocks = λ n l. g.else _; flows = λ n l. h.else _; days = refl })

  module _ (p : ℕ → Bool) (s : State) where
    -- the state once the elements before the i-th have been swept
    abbrev before : ℕ → State
    before i = changed f g h (λ n. ltb n i && p n) s

    -- each element changes what it has itself, and nothing else; it finds the mark of its number as it was
    abbrev Each : {X : Type 0} → (ℕ → X → Row → Row) → ℕ → X → Type 0
    Each step i x = (q : Row) (t : State) → t.mark i ≡ s.mark i → Shows d q t → Shows d (step i x q) (changed f g h (λ n. p i && eqb n i) t)

    swept_from : {X : Type 0} (step : ℕ → X → Row → Row) (z : X) (i : ℕ) (xs : List X) (r : Row) → ((k : ℕ) → k < length xs → Each step (i + k) (get_or xs k z)) → Shows d r (before i) → Shows d (sweep step i xs r) (before (i + length xs))
    swept_from step z i [] r each sh = let e : i + 0 ≡ i = omega arith in rw e sh
    swept_from step z i (x ∷ xs) r each sh =
        let e : i + suc (length xs) ≡ i + 1 + length xs = omega arith in
        let c : i + 0 ≡ i = omega arith in
        let here : Each step i x = rw c at (each 0 (omega arith)) in
        rw e
        (swept_from step z (i + 1) xs (step i x r)
        (λ k l. let b : i + suc k ≡ i + 1 + k = omega arith in rw (← b) (each (suc k) (omega arith)))
        (shows_same d (here r (before i) (grind (arith, nat_tests, f.else)) sh)
        (record { marks = λ n l. one_more f p i n (s.mark n); clocks = λ n l. one_more g p i n (s.clock n); flows = λ n l. one_more h p i n (s.flow n); days = refl })))

    swept : {X : Type 0} (step : ℕ → X → Row → Row) (z : X) (xs : List X) {r : Row} → ((k : ℕ) → k < length xs → Each step k (get_or xs k z)) → Shows d r s → Shows d (sweep step 0 xs r) (before (length xs))
    swept step z xs {r} each sh =
        let e : 0 + length xs ≡ length xs = omega arith in
        rw e at
        (swept_from step z 0 xs r (λ k l. let b : 0 + k ≡ k = omega arith in rw b (each k l))
        (shows_same d sh (record { marks = λ n l. grind (arith, nat_tests, f.else); clocks = λ n l. grind (arith, nat_tests, g.else); flows = λ n l. grind (arith, nat_tests, h.else); days = refl })))

-- ## The sweeps of the rules

module _ (d : Drawing) {r : Row} {s : State} (sh : Shows d r s) where
  over_nodes : (f g : Change) (test : Node → ℕ → Bool) (write : ℕ → Row → Row)
      → ((i : ℕ) (q : Row) (t : State) → i < n_of d → Shows d q t → Shows d (write i q) (changed f g kept (λ n. eqb n i) t))
      → Shows d (sweep (λ i x q. cond (test x (get_or q i 0)) (write i q) q) 0 d.nodes r) (changed f g kept (λ n. test (node_at d n) (s.mark n)) s)
  over_nodes f g test write each =
      shows_same d
      (swept d f g kept (λ n. test (node_at d n) (s.mark n)) s (λ i x q. cond (test x (get_or q i 0)) (write i q) q) no_node d.nodes
      (λ i l q t e now. let m : get_or q i 0 ≡ s.mark i = now.same.marks i l ∙ e in rw m (guarded d f g kept (test (node_at d i) (s.mark i)) i now (each i q t l now))) sh)
      (record { marks = λ n l. grind (arith, nat_tests); clocks = λ n l. grind (arith, nat_tests); flows = λ e l. refl; days = refl })

  over_edges : (h : Change) (test : Edge → Bool) (write : ℕ → Row → Row)
      → ((i : ℕ) (q : Row) (t : State) → i < e_of d → Shows d q t → Shows d (write i q) (changed kept kept h (λ n. eqb n i) t))
      → Shows d (sweep (λ i x q. cond (test x) (write i q) q) 0 d.edges r) (changed kept kept h (λ e. test (edge_at d e)) s)
  over_edges h test write each =
      shows_same d
      (swept d kept kept h (λ e. test (edge_at d e)) s (λ i x q. cond (test x) (write i q) q) no_edge d.edges
      (λ i l q t e now. guarded d kept kept h (test (edge_at d i)) i now (each i q t l now)) sh)
      (record { marks = λ n l. refl; clocks = λ n l. refl; flows = λ e l. grind (arith, nat_tests); days = refl })

  pub shows_given : (m : ℕ) → Shows d (row.given d m r) (given (out_of d m) s)
  shows_given m = over_edges raised (λ x. eqb x.source m) (λ i q. up q (f_of d + i)) (λ i q t l now. put_flow d now (λ x. x + 1) i l)

  pub shows_taken : (m : ℕ) → Shows d (row.taken d m r) (taken (into d m) s)
  shows_taken m = over_edges lowered (λ x. eqb x.target m) (λ i q. down q (f_of d + i)) (λ i q t l now. put_flow d now (λ x. x - 1) i l)

  pub shows_disarmed : (m : ℕ) → Shows d (row.disarmed d m r) (cleared (boundaries d m) s)
  shows_disarmed m = over_nodes zeroed zeroed (λ x a. is_boundary_of m x) (λ i q. clear (n_of d) q i) (λ i q t l now. put_node d now (λ x. 0) i l)

  pub shows_armed : (m : ℕ) → Shows d (row.armed d m r) (armed (boundaries d m) s)
  shows_armed m = over_nodes raised zeroed (λ x a. is_boundary_of m x) (λ i q. set (up q i) (n_of d + i) 0) (λ i q t l now. put_node d now (λ x. x + 1) i l)

  shows_ticked : Shows d (sweep (pass_one (n_of d)) 0 d.nodes r) (record { mark = s.mark; clock = (aged d s).clock; flow = s.flow; day = s.day })
  shows_ticked = over_nodes kept raised (λ x a. ltb 0 a && is_after x) (λ i q. up q (n_of d + i)) (λ i q t l now. put_clock d now (λ x. x + 1) i l)

  pub shows_passed : Shows d (row.passed d r) (aged d s)
  shows_passed =
      let now = shows_ticked in
      elim (cases_Bool (ltb s.day (cap_of d.nodes))) [
        | inl b ↦ rw (now.same.days, b) (put_day d now (s.day + 1))
        | inr b ↦ rw (now.same.days, b) now
      ]

pub shows_start : (d : Drawing) → Shows d (start_row d) (begins d)
shows_start d = over_nodes d (shows_bare d (replicate (width_of d) 0) 0 (grind (arith, places)) (λ k l. grind (arith, places)) (grind (arith, places))) raised kept (λ x a. is_begin x.kind) (λ i q. up q i) (λ i q t l now. put_mark d now (λ x. x + 1) i l)
