-- What the tests of a row tell of its state.
use Rattle.std.proofs.Common.{◌≡◌, ℕ, ◌+◌, ◌<◌, ◌≤◌, Bool, true, false, not, ◌||◌, leb, ◌⊎◌, length, get_or, Decides, refl, inl, inr, arith}
use Rattle.std.proofs.lemmas.Bool.{cases_Bool, le-leb, leb-true, not-true, both_ways, cond-true, cond-false}
use Rattle.std.proofs.lemmas.Bool.Decides.{Decides-and, Decides-or, Decides-not, Decides-ltb, Decides-eqb, Decides-like, not_from_Decides}
use Rattle.process.specs.Meaning.{Row}
use Rattle.token_tables.specs.declared.node.Node.{Node}
use Rattle.token_tables.specs.declared.kind.Kind.{Kind}
use Rattle.token_tables.specs.declared.kind.Kind.TheVariants as kind
use Rattle.token_tables.specs.declared.mode.Mode.{Mode}
use Rattle.token_tables.specs.declared.mode.Mode.TheVariants as mode
use Rattle.token_tables.specs.Tables.{Drawing, n_of, no_node, no_edge, node_at, kind_of, source_of, target_of, outgoing}
use Rattle.token_tables.proofs.Codes.{decides_kind, decides_mode}
use Rattle.token_tables.proofs.Goods.{decides_leb}
use Rattle.token.specs.declared.act.Act.{Act}
use Rattle.token.specs.declared.act.Act.TheVariants.{Pass, Complete, Enter, Choose}
use Rattle.token.specs.Clocks.{is_after, clock_top, cap_of}
use Rattle.token.specs.Rows.{f_of, day_of, width_of, safe}
use Rattle.token.specs.Rules.{Of, rings, node_due, any_due, is_due, ready, is_free, may_complete, is_enterable, may}
use Rattle.token.specs.ByNumber.{decides_each, decides_none}
use Rattle.token_rules.specs.Relation.{State, Safe, Rings, Due, Calm, Gathered, Ready, due, begun, gathered}
use Rattle.token_rules.specs.Showing.{state_of}

decides_if : (a b : Bool) {A B : Type 0} → Decides a A → Decides b B → Decides (not a || b) (A → B)
decides_if true b p q = (λ h x. q.0 h, λ h. q.1 (h (p.0 refl)))
decides_if false b p q = (λ h x. absurd (both_ways false refl (p.1 x)), λ h. refl)

-- ## What is due, and what is gathered

decides_rings : (m : Mode) (amount clock day : ℕ) → Decides (rings m amount clock day) (Rings m amount clock day)
decides_rings mode.Untimed amount clock day = (λ h. both_ways false refl h, λ h. absurd h)
decides_rings mode.At amount clock day = Decides-eqb day amount
decides_rings mode.After amount clock day = Decides-eqb clock amount
decides_rings (mode.Other number) amount clock day = (λ h. both_ways false refl h, λ h. absurd h)

decides_node_due : (x : Node) (mark clock day : ℕ) → Decides (node_due x mark clock day) ((0 < mark) × Rings x.mode x.amount clock day)
decides_node_due x mark clock day = Decides-and _ _ (Decides-ltb 0 mark) (decides_rings x.mode x.amount clock day)

-- ## Clocks in range

pub not_after : (x : Node) → (x.mode ≡ mode.After → ⊥) → is_after x ≡ false
not_after x n = not-true _ ((Decides-not _ (decides_mode x.mode mode.After)).1 n)

decides_range : (x : Node) (c : ℕ) → Decides (leb c (clock_top x)) ((x.mode ≡ mode.After → c ≤ x.amount) × ((x.mode ≡ mode.After → ⊥) → c ≡ 0))
decides_range x c =
    let after = decides_mode x.mode mode.After in (
      λ h. (
        λ e. omega (arith, leb-true c (clock_top x) h, cond-true (is_after x) x.amount 0 (after.1 e)),
        λ n. omega (arith, leb-true c (clock_top x) h, cond-false (is_after x) x.amount 0 (not_after x n)),
      ),
      λ h. le-leb c (clock_top x)
          (elim (cases_Bool (is_after x)) [
            | inl b ↦ rw b (h.0 (after.0 b))
            | inr b ↦ rw b (omega (arith, h.1 (not_from_Decides _ after b)))
          ]),
    )

-- ## Which kinds may be completed and entered

decides_free : (k : Kind) → Decides (is_free k) ((k ≡ kind.Start) ⊎ (k ≡ kind.Task))
decides_free k = Decides-or _ _ (decides_kind k kind.Start) (decides_kind k kind.Task)

-- a mark may go into a node of this kind with so many edges out of it
abbrev pub Enterable : Kind → ℕ → Type 0
Enterable k out = (k ≡ kind.Task) ⊎ ((k ≡ kind.Wait) ⊎ ((k ≡ kind.End) ⊎ ((k ≡ kind.Terminate) ⊎ ((k ≡ kind.Exclusive) × (out ≡ 1)))))

decides_enterable : (k : Kind) (out : ℕ) → Decides (is_enterable k out) (Enterable k out)
decides_enterable k out =
    Decides-or _ _ (decides_kind k kind.Task)
    (Decides-or _ _ (decides_kind k kind.Wait)
    (Decides-or _ _ (decides_kind k kind.End)
    (Decides-or _ _ (decides_kind k kind.Terminate) (Decides-and _ _ (decides_kind k kind.Exclusive) (Decides-eqb out 1)))))

-- an act is allowed at a safe state
abbrev pub Allowed : Drawing → State → Act → Type 0
Allowed d s Pass = Calm d s × Unit {0}
Allowed d s (Complete n) = Ready d s n
Allowed d s (Enter e) = Calm d s × ((0 < s.flow e) × Enterable (kind_of d (target_of d e)) (outgoing d (target_of d e)))
Allowed d s (Choose e) = Calm d s × ((kind_of d (source_of d e) ≡ kind.Exclusive) × ((1 < outgoing d (source_of d e)) × Gathered d s (source_of d e)))

-- what is allowed only while no node is due
while_calm : (b f : Bool) {C P : Type 0} → Decides (not b) C → Decides f P → Decides (elim b [ true ↦ false | false ↦ f ]) (C × P)
while_calm true f c p = (λ h. absurd (both_ways false refl h), λ h. c.1 h.0)
while_calm false f c p = (λ h. (c.0 refl, p.0 h), λ h. p.1 h.1)

module _ (d : Drawing) (r : Row) where
  abbrev S : State
  S = state_of d r

  decides_calm : Decides (not (any_due d r)) (Calm d S)
  decides_calm =
      decides_none _ (λ i x. Decides-not _ (decides_node_due x (get_or r i 0) (get_or r (n_of d + i) 0) (get_or r (day_of d) 0))) no_node d.nodes

  decides_gathered : (n : ℕ) → Decides (ready d n r) (Gathered d S n)
  decides_gathered n =
      decides_each _ (λ i x. decides_if _ _ (Decides-eqb x.target n) (Decides-ltb 0 (get_or r (f_of d + i) 0))) no_edge d.edges

  pub decides_safe : Decides (safe d r) (((0 < n_of d) × (length r ≡ width_of d)) × Safe d S)
  decides_safe =
      Decides-and _ _ (Decides-and _ _ (Decides-ltb 0 (n_of d)) (Decides-eqb (length r) (width_of d)))
      (Decides-like _
      (λ h. record {
        lawful = record {
          marks = λ n l. omega (arith, (h.0 n l).0);
          flows = λ e l. omega (arith, h.1.0 e l);
          waiting = λ n l. (h.0 n l).1.0;
          still = λ n l. (h.0 n l).1.1;
          day = h.1.1;
        };
        nodes = λ n l. (h.0 n l).0;
        edges = h.1.0;
      })
      (λ h. (λ n l. (h.nodes n l, (h.lawful.waiting n l, h.lawful.still n l)), (h.edges, h.lawful.day)))
      (Decides-and _ _
      (decides_each _ (λ i x. Decides-and _ _ (decides_leb (get_or r i 0) 1) (decides_range x (get_or r (n_of d + i) 0))) no_node d.nodes)
      (Decides-and _ _
      (decides_each _ (λ i x. decides_leb (get_or r (f_of d + i) 0) 1) no_edge d.edges)
      (decides_leb (get_or r (day_of d) 0) (cap_of d.nodes)))))

  -- node n may be completed, whether some node is due or not
  decides_ready : (n : ℕ) → n < n_of d → (b : Bool) → Decides (not b) (Calm d S) → Decides (elim b [ true ↦ is_due d r n | false ↦ may_complete d r n ]) (Ready d S n)
  decides_ready n l true c = (λ h. due (now.0 h), from)
    where
      now : Decides (is_due d r n) (Due d S n)
      now = decides_node_due (node_at d n) (get_or r n 0) (get_or r (n_of d + n) 0) (get_or r (day_of d) 0)

      from : Ready d S n → is_due d r n ≡ true
      from (due u) = now.1 u
      from (begun z m k) = absurd (both_ways false refl (c.1 z))
      from (gathered z k g) = absurd (both_ways false refl (c.1 z))
  decides_ready n l false c = (λ h. elim (free.0 h) [ inl p ↦ begun (c.0 refl) p.0 p.1 | inr p ↦ gathered (c.0 refl) p.0 p.1 ], from)
    where
      free : Decides (may_complete d r n) (((0 < S.mark n) × ((kind_of d n ≡ kind.Start) ⊎ (kind_of d n ≡ kind.Task))) ⊎ ((kind_of d n ≡ kind.Parallel) × Gathered d S n))
      free = Decides-or _ _ (Decides-and _ _ (Decides-ltb 0 (get_or r n 0)) (decides_free (kind_of d n))) (Decides-and _ _ (decides_kind (kind_of d n) kind.Parallel) (decides_gathered n))

      from : Ready d S n → may_complete d r n ≡ true
      from (due u) = absurd (c.0 refl n l u)
      from (begun z m k) = free.1 (inl (m, k))
      from (gathered z k g) = free.1 (inr (k, g))

  pub decides_may : (a : Act) → Of d a → Decides (may d r a) (Allowed d S a)
  decides_may Pass o = while_calm (any_due d r) true decides_calm (λ h. tt, λ h. refl)
  decides_may (Complete n) o = decides_ready n o (any_due d r) decides_calm
  decides_may (Enter e) o = while_calm (any_due d r) _ decides_calm (Decides-and _ _ (Decides-ltb 0 (get_or r (f_of d + e) 0)) (decides_enterable _ _))
  decides_may (Choose e) o = while_calm (any_due d r) _ decides_calm (Decides-and _ _ (decides_kind _ kind.Exclusive) (Decides-and _ _ (Decides-ltb 1 _) (decides_gathered _)))
