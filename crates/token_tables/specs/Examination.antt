-- Which tables make a drawing: the first fault, in the order of the examination.
use Rattle.std.specs.Prelude.{ℕ, Bool, false, cond, ◌&&◌, ◌||◌, List, length, ◌==◌, nat_le, nat_lt, slice_index_or}
use Rattle.process.specs.Outcomes.{Answer, gives, refuses}
use Rattle.process.specs.Examining.{then, first_fault}
use Rattle.token_tables.specs.declared.node.Node.{Node}
use Rattle.token_tables.specs.declared.edge.Edge.{Edge}
use Rattle.token_tables.specs.declared.kind.Kind.{Kind}
use Rattle.token_tables.specs.declared.kind.Kind.TheVariants as kind
use Rattle.token_tables.specs.declared.mode.Mode.{Mode}
use Rattle.token_tables.specs.declared.mode.Mode.TheVariants as mode
use Rattle.token_tables.specs.Kinds.{same_kind, same_mode, is_boundary}
use Rattle.token_tables.specs.Tables.{no_node, entering, leaving, has_start}

-- 1 to 64 nodes and at most 128 edges
abbrev pub sized : ℕ → ℕ → Bool
sized n e = nat_le 1 n && (nat_le n 64 && nat_le e 128)

-- timed at a date or after a length
abbrev timed : Mode → Bool
timed m = same_mode m mode.At || same_mode m mode.After

-- how the nodes of a kind are timed
abbrev pub mode_fits : Kind → Mode → Bool
mode_fits kind.Start m = same_mode m mode.Untimed
mode_fits kind.TimedStart m = same_mode m mode.At
mode_fits kind.Task m = same_mode m mode.Untimed
mode_fits kind.Exclusive m = same_mode m mode.Untimed
mode_fits kind.Parallel m = same_mode m mode.Untimed
mode_fits kind.Wait m = timed m
mode_fits kind.Stopping m = timed m
mode_fits kind.Side m = timed m
mode_fits kind.End m = same_mode m mode.Untimed
mode_fits kind.Terminate m = same_mode m mode.Untimed
mode_fits (kind.Other number) m = false

-- dates and lengths are 0 to 9,999
abbrev pub amount_fits : Mode → ℕ → Bool
amount_fits mode.Untimed a = a == 0
amount_fits mode.At a = nat_le a 9999
amount_fits mode.After a = nat_le a 9999
amount_fits (mode.Other number) a = false

-- a boundary's host is a task, and any other host is 0
abbrev pub host_fits : List Node → Node → Bool
host_fits ns x = cond (is_boundary x.kind) (nat_lt x.host (length ns) && same_kind (slice_index_or ns x.host no_node).kind kind.Task) (x.host == 0)

-- how many edges go into the nodes of a kind, and how many go out of them
abbrev pub counts_fit : Kind → ℕ → ℕ → Bool
counts_fit kind.Start into out = into == 0 && nat_le 1 out
counts_fit kind.TimedStart into out = into == 0 && nat_le 1 out
counts_fit kind.Task into out = nat_le 1 into && nat_le 1 out
counts_fit kind.Exclusive into out = (nat_le 1 into && nat_le 1 out) && (into == 1 || out == 1)
counts_fit kind.Parallel into out = nat_le 1 into && nat_le 1 out
counts_fit kind.Wait into out = nat_le 1 into && nat_le 1 out
counts_fit kind.Stopping into out = into == 0 && nat_le 1 out
counts_fit kind.Side into out = into == 0 && nat_le 1 out
counts_fit kind.End into out = nat_le 1 into && out == 0
counts_fit kind.Terminate into out = nat_le 1 into && out == 0
counts_fit (kind.Other number) into out = false

-- node i by itself: its kind, mode and amount, and then its host
abbrev pub node_fault : List Node → ℕ → Node → Answer Unit
node_fault ns i x = cond (mode_fits x.kind x.mode && amount_fits x.mode x.amount) (cond (host_fits ns x) (gives tt) (refuses 3 i)) (refuses 2 i)

-- edge i, between n nodes
abbrev pub edge_fault : ℕ → ℕ → Edge → Answer Unit
edge_fault n i x = cond (nat_lt x.source n && nat_lt x.target n) (gives tt) (refuses 4 i)

-- node i by its edges
abbrev pub count_fault : List Edge → ℕ → Node → Answer Unit
count_fault es i x = cond (counts_fit x.kind (entering i es) (leaving i es)) (gives tt) (refuses 5 i)

-- the size; each node by itself; each edge; each node by its edges; that there is a start
abbrev pub examined : List Node → List Edge → Answer Unit
examined ns es =
    cond (sized (length ns) (length es))
    (then (first_fault (node_fault ns) 0 ns)
    (then (first_fault (edge_fault (length ns)) 0 es)
    (then (first_fault (count_fault es) 0 ns) (cond (has_start ns) (gives tt) (refuses 6 0)))))
    (refuses 1 0)
