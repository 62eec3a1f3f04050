-- Which cell of a row is what, and which rows are safe.
use Rattle.std.specs.Prelude.{ℕ, ◌+◌, ◌*◌, Bool, ◌&&◌, List, length, ◌==◌, nat_le, nat_lt, slice_index}
use Rattle.process.specs.Meaning.{Row}
use Rattle.token_tables.specs.declared.node.Node.{Node}
use Rattle.token_tables.specs.declared.edge.Edge.{Edge}
use Rattle.token_tables.specs.Tables.{Drawing, n_of, e_of}
use Rattle.token.specs.ByNumber.{all_numbered}
use Rattle.token.specs.Clocks.{clock_top, cap_of}

-- A row has the marks of the nodes, the clocks of the nodes, the marks of the edges, and the day clock.
-- Node n has its mark in cell n and its clock in cell n_of d + n, and edge e has its mark in cell f_of d + e.
abbrev pub f_of : Drawing → ℕ
f_of d = 2 * n_of d

-- the cell of the day clock
abbrev pub day_of : Drawing → ℕ
day_of d = 2 * n_of d + e_of d

abbrev pub width_of : Drawing → ℕ
width_of d = 2 * n_of d + e_of d + 1

-- each node has at most one mark, and its clock is in range
abbrev pub node_fits : Node → ℕ → ℕ → Bool
node_fits x mark clock = nat_le mark 1 && nat_le clock (clock_top x)

abbrev pub nodes_fit : List Node → Row → Bool
nodes_fit ns r = all_numbered (λ i x. node_fits x (slice_index r i) (slice_index r (length ns + i))) ns

-- each edge has at most one mark; the first has its mark in cell f
abbrev pub edges_fit : ℕ → List Edge → Row → Bool
edges_fit f es r = all_numbered (λ i x. nat_le (slice_index r (f + i)) 1) es

-- no row of a drawing without nodes is safe
abbrev pub safe : Drawing → Row → Bool
safe d r =
    (nat_lt 0 (n_of d) && length r == width_of d)
    && (nodes_fit d.nodes r && (edges_fit (f_of d) d.edges r && nat_le (slice_index r (day_of d)) (cap_of d.nodes)))
