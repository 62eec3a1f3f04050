-- Where each choice leads, cell by cell.
use Rattle.std.specs.Prelude.{ℕ, ◌+◌, ◌-◌, ◌*◌, ◌<◌, Bool, true, false, cond, not, ◌&&◌, ◌||◌, List, [], ◌∷◌, ◌++◌, length, drop, replicate, Some, None, Option, ◌==◌, nat_lt, slice_index, slice_set}
use Rattle.process.specs.Meaning.{Row, Meaning}
use Rattle.token_tables.specs.declared.node.Node.{Node}
use Rattle.token_tables.specs.declared.edge.Edge.{Edge}
use Rattle.token_tables.specs.declared.kind.Kind.{Kind}
use Rattle.token_tables.specs.declared.kind.Kind.TheVariants as kind
use Rattle.token_tables.specs.declared.mode.Mode.{Mode}
use Rattle.token_tables.specs.declared.mode.Mode.TheVariants as mode
use Rattle.token_tables.specs.Kinds.{same_kind, is_begin, is_boundary}
use Rattle.token_tables.specs.Tables.{Drawing, n_of, e_of, node_at, edge_at, leaving}
use Rattle.token.specs.declared.act.Act.{Act}
use Rattle.token.specs.declared.act.Act.TheVariants.{Pass, Complete, Enter, Choose}
use Rattle.token.specs.Clocks.{is_after, cap_of}
use Rattle.token.specs.ByNumber.{all_numbered, any_numbered}
use Rattle.token.specs.Rows.{f_of, day_of, width_of, safe}

-- ## Choices and acts

abbrev pub choices_of : Drawing → ℕ
choices_of d = 1 + n_of d + 2 * e_of d

-- the act that a choice stands for, and the choice that stands for an act
abbrev pub act_of : Drawing → ℕ → Act
act_of d c =
    cond (c == 0) Pass
    (cond (nat_lt c (1 + n_of d)) (Complete (c - 1))
    (cond (nat_lt c (1 + n_of d + e_of d)) (Enter (c - (1 + n_of d))) (Choose (c - (1 + n_of d + e_of d)))))

abbrev pub choice_of : Drawing → Act → ℕ
choice_of d Pass = 0
choice_of d (Complete n) = 1 + n
choice_of d (Enter e) = 1 + n_of d + e
choice_of d (Choose e) = 1 + n_of d + e_of d + e

-- the act is at a node or an edge of the drawing
abbrev pub Of : Drawing → Act → Type 0
Of d Pass = Unit {0}
Of d (Complete n) = n < n_of d
Of d (Enter e) = e < e_of d
Of d (Choose e) = e < e_of d

-- ## Changes of cells

abbrev pub up : Row → ℕ → Row
up r k = slice_set r k (slice_index r k + 1)

abbrev pub down : Row → ℕ → Row
down r k = slice_set r k (slice_index r k - 1)

-- of n nodes, the i-th loses its marks, and its clock becomes 0
abbrev pub clear : ℕ → Row → ℕ → Row
clear n r i = slice_set (slice_set r i 0) (n + i) 0

-- the first k cells become 0
abbrev pub wiped : ℕ → Row → Row
wiped k r = replicate k 0 ++ drop k r

-- each of a list in turn, numbered from i on, changes the row
abbrev pub sweep : {X : Type 0} → (ℕ → X → Row → Row) → ℕ → List X → Row → Row
sweep f i [] r = r
sweep f i (x ∷ xs) r = sweep f (i + 1) xs (f i x r)

-- each start gains a mark
abbrev pub start_one : ℕ → Node → Row → Row
start_one i x r = cond (is_begin x.kind) (up r i) r

-- the clock of each marked node that waits for its length rises
abbrev pub pass_one : ℕ → ℕ → Node → Row → Row
pass_one n i x r = cond (nat_lt 0 (slice_index r i) && is_after x) (up r (n + i)) r

-- each edge out of node m gains a mark
abbrev pub give_one : ℕ → ℕ → ℕ → Edge → Row → Row
give_one f m i x r = cond (x.source == m) (up r (f + i)) r

-- each edge into node m loses a mark
abbrev pub take_one : ℕ → ℕ → ℕ → Edge → Row → Row
take_one f m i x r = cond (x.target == m) (down r (f + i)) r

abbrev pub is_boundary_of : ℕ → Node → Bool
is_boundary_of h x = is_boundary x.kind && x.host == h

-- each boundary of task h is disarmed: it loses its marks, and its clock becomes 0
abbrev pub disarm_one : ℕ → ℕ → ℕ → Node → Row → Row
disarm_one n h i x r = cond (is_boundary_of h x) (clear n r i) r

-- each boundary of task h gains a mark, and its clock becomes 0
abbrev pub arm_one : ℕ → ℕ → ℕ → Node → Row → Row
arm_one n h i x r = cond (is_boundary_of h x) (slice_set (up r i) (n + i) 0) r

abbrev pub given : Drawing → ℕ → Row → Row
given d m r = sweep (give_one (f_of d) m) 0 d.edges r

abbrev pub taken : Drawing → ℕ → Row → Row
taken d m r = sweep (take_one (f_of d) m) 0 d.edges r

abbrev pub disarmed : Drawing → ℕ → Row → Row
disarmed d h r = sweep (disarm_one (n_of d) h) 0 d.nodes r

abbrev pub armed : Drawing → ℕ → Row → Row
armed d h r = sweep (arm_one (n_of d) h) 0 d.nodes r

-- ## What is due

-- a timer of this mode and amount rings, at its node's clock and the day clock
abbrev pub rings : Mode → ℕ → ℕ → ℕ → Bool
rings mode.Untimed amount clock day = false
rings mode.At amount clock day = day == amount
rings mode.After amount clock day = clock == amount
rings (mode.Other number) amount clock day = false

abbrev pub node_due : Node → ℕ → ℕ → ℕ → Bool
node_due x mark clock day = nat_lt 0 mark && rings x.mode x.amount clock day

-- some node is due
abbrev pub some_due : ℕ → List Node → Row → Bool
some_due day ns r = any_numbered (λ i x. node_due x (slice_index r i) (slice_index r (length ns + i)) day) ns

abbrev pub any_due : Drawing → Row → Bool
any_due d r = some_due (slice_index r (day_of d)) d.nodes r

abbrev pub is_due : Drawing → Row → ℕ → Bool
is_due d r n = node_due (node_at d n) (slice_index r n) (slice_index r (n_of d + n)) (slice_index r (day_of d))

-- ## What is allowed

-- each edge into node m has a mark; the first edge has its marks in cell f
abbrev pub edge_ready : ℕ → Edge → ℕ → Bool
edge_ready m x mark = not (x.target == m) || nat_lt 0 mark

abbrev pub edges_ready : ℕ → ℕ → List Edge → Row → Bool
edges_ready f m es r = all_numbered (λ i x. edge_ready m x (slice_index r (f + i))) es

abbrev pub ready : Drawing → ℕ → Row → Bool
ready d m r = edges_ready (f_of d) m d.edges r

-- a kind whose marked nodes may be completed at any time
abbrev pub is_free : Kind → Bool
is_free k = same_kind k kind.Start || same_kind k kind.Task

-- node n may be completed while no node is due
abbrev pub may_complete : Drawing → Row → ℕ → Bool
may_complete d r n = (nat_lt 0 (slice_index r n) && is_free (node_at d n).kind) || (same_kind (node_at d n).kind kind.Parallel && ready d n r)

-- a mark may go into a node of this kind with so many edges out of it
abbrev pub is_enterable : Kind → ℕ → Bool
is_enterable k out =
    same_kind k kind.Task || (same_kind k kind.Wait || (same_kind k kind.End || (same_kind k kind.Terminate || (same_kind k kind.Exclusive && out == 1))))

abbrev pub may_enter : Drawing → Row → ℕ → Bool
may_enter d r e =
    nat_lt 0 (slice_index r (f_of d + e)) && is_enterable (node_at d (edge_at d e).target).kind (leaving (edge_at d e).target d.edges)

-- a gateway with several edges out of it has one into it
abbrev pub may_choose : Drawing → Row → ℕ → Bool
may_choose d r e =
    same_kind (node_at d (edge_at d e).source).kind kind.Exclusive
    && (nat_lt 1 (leaving (edge_at d e).source d.edges) && ready d (edge_at d e).source r)

-- while no node is due
abbrev pub may_free : Drawing → Row → Act → Bool
may_free d r Pass = true
may_free d r (Complete n) = may_complete d r n
may_free d r (Enter e) = may_enter d r e
may_free d r (Choose e) = may_choose d r e

-- while some node is due
abbrev pub may_urgent : Drawing → Row → Act → Bool
may_urgent d r Pass = false
may_urgent d r (Complete n) = is_due d r n
may_urgent d r (Enter e) = false
may_urgent d r (Choose e) = false

abbrev pub may : Drawing → Row → Act → Bool
may d r a = elim (any_due d r) [ true ↦ may_urgent d r a | false ↦ may_free d r a ]

-- ## What is done

abbrev pub start_row : Drawing → Row
start_row d = sweep start_one 0 d.nodes (replicate (width_of d) 0)

-- the cell k of the day clock rises, unless it is at the cap
abbrev pub day_passed : ℕ → ℕ → Row → Row
day_passed k cap r = cond (nat_lt (slice_index r k) cap) (up r k) r

abbrev pub passed : Drawing → Row → Row
passed d r = day_passed (day_of d) (cap_of d.nodes) (sweep (pass_one (n_of d)) 0 d.nodes r)

-- what goes when node n of this kind completes
abbrev pub ceded : Kind → Drawing → ℕ → Row → Row
ceded kind.Start d n r = clear (n_of d) r n
ceded kind.TimedStart d n r = clear (n_of d) r n
ceded kind.Task d n r = disarmed d n (clear (n_of d) r n)
ceded kind.Exclusive d n r = clear (n_of d) r n
ceded kind.Parallel d n r = taken d n r
ceded kind.Wait d n r = clear (n_of d) r n
ceded kind.Stopping d n r = let h = (node_at d n).host in disarmed d h (slice_set (clear (n_of d) r n) h 0)
ceded kind.Side d n r = clear (n_of d) r n
ceded kind.End d n r = clear (n_of d) r n
ceded kind.Terminate d n r = clear (n_of d) r n
ceded (kind.Other number) d n r = clear (n_of d) r n

abbrev pub completed : Drawing → ℕ → Row → Row
completed d n r = given d n (ceded (node_at d n).kind d n r)

-- what comes when a mark goes into node n of this kind
abbrev pub entered : Kind → Drawing → ℕ → Row → Row
entered kind.Start d n r = r
entered kind.TimedStart d n r = r
entered kind.Task d n r = armed d n (up r n)
entered kind.Exclusive d n r = given d n r
entered kind.Parallel d n r = r
entered kind.Wait d n r = slice_set (up r n) (n_of d + n) 0
entered kind.Stopping d n r = r
entered kind.Side d n r = r
entered kind.End d n r = up r n
entered kind.Terminate d n r = slice_set (wiped (day_of d) r) n 1
entered (kind.Other number) d n r = r

abbrev pub after_enter : Drawing → ℕ → Row → Row
after_enter d e r = entered (node_at d (edge_at d e).target).kind d (edge_at d e).target (down r (f_of d + e))

abbrev pub after_choose : Drawing → ℕ → Row → Row
after_choose d e r = up (taken d (edge_at d e).source r) (f_of d + e)

-- the row that an act leads to, where it is allowed
abbrev pub made : Drawing → Act → Row → Row
made d Pass r = passed d r
made d (Complete n) r = completed d n r
made d (Enter e) r = after_enter d e r
made d (Choose e) r = after_choose d e r

abbrev pub next_row : Drawing → Row → ℕ → Option Row
next_row d r c = elim (safe d r && may d r (act_of d c)) [ true ↦ Some (made d (act_of d c) r) | false ↦ None ]

abbrev pub meaning_of : Drawing → Meaning
meaning_of d = record { width = width_of d; choices = choices_of d; start = start_row d; safe = safe d; next = next_row d }
