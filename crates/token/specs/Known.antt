-- What each drawing keeps, so that no cell and no node is looked for where there is none, and no cell overflows.
use Rattle.std.specs.Prelude.{◌≡◌, ℕ, ◌<◌, ◌≤◌, List, length, All, slice_index}
use Rattle.process.specs.Meaning.{Row}
use Rattle.token_tables.specs.declared.node.Node.{Node}
use Rattle.token_tables.specs.declared.edge.Edge.{Edge}
use Rattle.token_tables.specs.Tables.{Drawing}
use Rattle.token.specs.Rows.{width_of}

abbrev pub Amounts : List Node → Type 0
Amounts ns = All (λ (x : Node). x.amount ≤ 9999) ns

abbrev pub Hosts : List Node → Type 0
Hosts ns = All (λ (x : Node). x.host < length ns) ns

abbrev pub Sources : List Node → List Edge → Type 0
Sources ns es = All (λ (x : Edge). x.source < length ns) es

abbrev pub Targets : List Node → List Edge → Type 0
Targets ns es = All (λ (x : Edge). x.target < length ns) es

-- the tables of a drawing
pub record Known (ns : List Node) (es : List Edge) : Type 0 where
  pub few : length ns ≤ 64
  pub thin : length es ≤ 128
  pub amounts : Amounts ns
  pub hosts : Hosts ns
  pub sources : Sources ns es
  pub targets : Targets ns es

-- no cell of a row passes b
abbrev pub AtMost : ℕ → Row → Type 0
AtMost b r = (k : ℕ) → slice_index r k ≤ b

-- where no cell passes a bound before a change, none does after it
abbrev pub RaisesNone : Row → Row → Type 0
RaisesNone before after = (b : ℕ) → AtMost b before → AtMost b after

-- a row of the width of a drawing, of which no cell passes b
pub record LowRow (d : Drawing) (b : ℕ) (r : Row) : Type 0 where
  pub long : length r ≡ width_of d
  pub low : AtMost b r
