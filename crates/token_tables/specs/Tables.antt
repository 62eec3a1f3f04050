-- The tables of a drawing, and what is read off them.
use Rattle.std.specs.Prelude.{ℕ, Bool, List, length, nat_eq, count_by, slice_index_or}
use Rattle.std.specs.List.{list_any}
use Rattle.token_tables.specs.declared.node.Node.{Node}
use Rattle.token_tables.specs.declared.edge.Edge.{Edge}
use Rattle.token_tables.specs.declared.kind.Kind.{Kind}
use Rattle.token_tables.specs.declared.kind.Kind.TheVariants as kind
use Rattle.token_tables.specs.declared.mode.Mode.{Mode}
use Rattle.token_tables.specs.declared.mode.Mode.TheVariants as mode
use Rattle.token_tables.specs.Kinds.{is_begin}

pub record Drawing : Type 0 where
  pub nodes : List Node
  pub edges : List Edge

-- how many nodes, and how many edges
abbrev pub n_of : Drawing → ℕ
n_of d = length d.nodes

abbrev pub e_of : Drawing → ℕ
e_of d = length d.edges

-- what stands at a number past the end
abbrev pub no_node : Node
no_node = record { kind = kind.Start; host = 0; mode = mode.Untimed; amount = 0 }

abbrev pub no_edge : Edge
no_edge = record { source = 0; target = 0 }

-- the node and the edge of a number
abbrev pub node_at : Drawing → ℕ → Node
node_at d n = slice_index_or d.nodes n no_node

abbrev pub edge_at : Drawing → ℕ → Edge
edge_at d e = slice_index_or d.edges e no_edge

-- how many edges go into node n, and how many go out of it
abbrev pub entering : ℕ → List Edge → ℕ
entering n es = count_by (λ (e : Edge). nat_eq e.target n) es

abbrev pub leaving : ℕ → List Edge → ℕ
leaving n es = count_by (λ (e : Edge). nat_eq e.source n) es

-- some node is a start
abbrev pub has_start : List Node → Bool
has_start ns = list_any (λ (x : Node). is_begin x.kind) ns

-- ## Words for what stands in the tables

abbrev pub kind_of : Drawing → ℕ → Kind
kind_of d n = (node_at d n).kind

abbrev pub host_of : Drawing → ℕ → ℕ
host_of d n = (node_at d n).host

abbrev pub mode_of : Drawing → ℕ → Mode
mode_of d n = (node_at d n).mode

abbrev pub amount_of : Drawing → ℕ → ℕ
amount_of d n = (node_at d n).amount

abbrev pub source_of : Drawing → ℕ → ℕ
source_of d e = (edge_at d e).source

abbrev pub target_of : Drawing → ℕ → ℕ
target_of d e = (edge_at d e).target

abbrev pub incoming : Drawing → ℕ → ℕ
incoming d n = entering n d.edges

abbrev pub outgoing : Drawing → ℕ → ℕ
outgoing d n = leaving n d.edges
