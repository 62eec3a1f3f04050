-- A row that shows a state, and how a write to a cell follows the change of the state.
use Rattle.std.proofs.Common.{◌≡◌, ℕ, ◌+◌, ◌<◌, cond, eqb, length, get_or, set, sym, refl, ap, ◌∙◌, arith}
use Rattle.std.proofs.lemmas.List.{get_or-set_same, get_or-set_other, length-set, places}
use Rattle.std.proofs.lemmas.Bool.Decides.{nat_tests}
use Rattle.process.specs.Meaning.{Row}
use Rattle.token_tables.specs.Tables.{Drawing, n_of, e_of}
use Rattle.token.specs.Rows.{f_of, day_of, width_of}
use Rattle.token.specs.Rules.{wiped}
use Rattle.token_rules.specs.Relation.{State, Same, ended}
use Rattle.token_rules.specs.Showing.{state_of}

pub record Shows (d : Drawing) (r : Row) (s : State) : Type 0 where
  pub long : length r ≡ width_of d
  pub same : Same d (state_of d r) s

pub same_refl : (d : Drawing) (s : State) → Same d s s
same_refl d s = record { marks = λ n l. refl; clocks = λ n l. refl; flows = λ e l. refl; days = refl }

pub same_sym : (d : Drawing) {s t : State} → Same d s t → Same d t s
same_sym d h = record { marks = λ n l. sym (h.marks n l); clocks = λ n l. sym (h.clocks n l); flows = λ e l. sym (h.flows e l); days = sym h.days }

pub same_trans : (d : Drawing) {s t u : State} → Same d s t → Same d t u → Same d s u
same_trans d h g = record { marks = λ n l. h.marks n l ∙ g.marks n l; clocks = λ n l. h.clocks n l ∙ g.clocks n l; flows = λ e l. h.flows e l ∙ g.flows e l; days = h.days ∙ g.days }

pub shows_itself : (d : Drawing) (r : Row) → length r ≡ width_of d → Shows d r (state_of d r)
shows_itself d r w = record { long = w; same = same_refl d (state_of d r) }

pub shows_same : (d : Drawing) {r : Row} {s t : State} → Shows d r s → Same d t s → Shows d r t
shows_same d h g = record { long = h.long; same = same_trans d h.same (same_sym d g) }

-- the cells after a write
at_set : (r : Row) (k v j : ℕ) → k < length r → get_or (set r k v) j 0 ≡ cond (eqb j k) v (get_or r j 0)
at_set r k v j l = grind (arith, nat_tests, get_or-set_same r k v 0 l, get_or-set_other r k j v 0)

module _ (d : Drawing) {r : Row} {s : State} (h : Shows d r s) where
  -- a write to cell k leads to state t, if t differs from s only there
  wrote : (k v : ℕ) (t : State) → k < width_of d
      → ((n : ℕ) → n < n_of d → cond (eqb n k) v (s.mark n) ≡ t.mark n)
      → ((n : ℕ) → n < n_of d → cond (eqb (n_of d + n) k) v (s.clock n) ≡ t.clock n)
      → ((e : ℕ) → e < e_of d → cond (eqb (f_of d + e) k) v (s.flow e) ≡ t.flow e)
      → cond (eqb (day_of d) k) v s.day ≡ t.day
      → Shows d (set r k v) t
  wrote k v t b m c f y =
      let w : length r ≡ width_of d = h.long in
      let at : (j x : ℕ) → get_or r j 0 ≡ x → get_or (set r k v) j 0 ≡ cond (eqb j k) v x = λ j x e. at_set r k v j (omega arith) ∙ ap (cond (eqb j k) v) e in
      record {
        long = length-set r k v ∙ w;
        same = record {
          marks = λ n l. at _ _ (h.same.marks n l) ∙ m n l;
          clocks = λ n l. at _ _ (h.same.clocks n l) ∙ c n l;
          flows = λ e l. at _ _ (h.same.flows e l) ∙ f e l;
          days = at _ _ h.same.days ∙ y;
        };
      }

  -- writes to the mark of a node, to its clock, to the mark of an edge, and to the day clock
  pub put_mark : (f : ℕ → ℕ) (m : ℕ) → m < n_of d → Shows d (set r m (f (get_or r m 0))) (record { mark = λ n. cond (eqb n m) (f (s.mark n)) (s.mark n); clock = s.clock; flow = s.flow; day = s.day })
  put_mark f m l = let e = h.same.marks m l in wrote m _ _ (omega arith) (λ n b. grind (arith, nat_tests)) (λ n b. grind (arith, nat_tests)) (λ n b. grind (arith, nat_tests)) (grind (arith, nat_tests))

  pub put_clock : (f : ℕ → ℕ) (m : ℕ) → m < n_of d → Shows d (set r (n_of d + m) (f (get_or r (n_of d + m) 0))) (record { mark = s.mark; clock = λ n. cond (eqb n m) (f (s.clock n)) (s.clock n); flow = s.flow; day = s.day })
  put_clock f m l = let e = h.same.clocks m l in wrote (n_of d + m) _ _ (omega arith) (λ n b. grind (arith, nat_tests)) (λ n b. grind (arith, nat_tests)) (λ n b. grind (arith, nat_tests)) (grind (arith, nat_tests))

  pub put_flow : (f : ℕ → ℕ) (m : ℕ) → m < e_of d → Shows d (set r (f_of d + m) (f (get_or r (f_of d + m) 0))) (record { mark = s.mark; clock = s.clock; flow = λ e. cond (eqb e m) (f (s.flow e)) (s.flow e); day = s.day })
  put_flow f m l = let e = h.same.flows m l in wrote (f_of d + m) _ _ (omega arith) (λ n b. grind (arith, nat_tests)) (λ n b. grind (arith, nat_tests)) (λ n b. grind (arith, nat_tests)) (grind (arith, nat_tests))

  pub put_day : (v : ℕ) → Shows d (set r (day_of d) v) (record { mark = s.mark; clock = s.clock; flow = s.flow; day = v })
  put_day v = wrote (day_of d) _ _ (omega arith) (λ n b. grind (arith, nat_tests)) (λ n b. grind (arith, nat_tests)) (λ n b. grind (arith, nat_tests)) (grind (arith, nat_tests))

-- the mark of a node is changed, and its clock becomes 0
pub put_node : (d : Drawing) {r : Row} {s : State} → Shows d r s → (f : ℕ → ℕ) (m : ℕ) → m < n_of d → Shows d (set (set r m (f (get_or r m 0))) (n_of d + m) 0) (record { mark = λ n. cond (eqb n m) (f (s.mark n)) (s.mark n); clock = λ n. cond (eqb n m) 0 (s.clock n); flow = s.flow; day = s.day })
put_node d h f m l = put_clock d (put_mark d h f m l) (λ x. 0) m l

-- all is 0 but the day clock
abbrev bare : ℕ → State
bare y = record { mark = λ n. 0; clock = λ n. 0; flow = λ e. 0; day = y }

-- a row whose cells below the day clock are 0
pub shows_bare : (d : Drawing) (r : Row) (y : ℕ) → length r ≡ width_of d → ((k : ℕ) → k < day_of d → get_or r k 0 ≡ 0) → get_or r (day_of d) 0 ≡ y → Shows d r (bare y)
shows_bare d r y w z e = record { long = w; same = record { marks = λ n l. z n (omega arith); clocks = λ n l. z (n_of d + n) (omega arith); flows = λ n l. z (f_of d + n) (omega arith); days = e } }

pub shows_ended : (d : Drawing) {r : Row} {s : State} → Shows d r s → (m : ℕ) → m < n_of d → Shows d (set (wiped (day_of d) r) m 1) (ended m s)
shows_ended d {r} {s} h m l =
    let w = h.long in
    put_mark d (shows_bare d (wiped (day_of d) r) s.day (grind (arith, places)) (λ j b. grind (arith, places)) (grind (arith, places, h.same.days))) (λ x. 1) m l
