-- The drawings of the code: their tables, and what they mean.
use Rattle.std.specs.Prelude.{cond, List, []}
use Rattle.fixed.specs.Items.{items_of}
use Rattle.process.specs.Meaning.{Meaning}
use Rattle.process.specs.Outcomes.{gave}
use Rattle.token_tables.specs.declared.node.Node.{Node}
use Rattle.token_tables.specs.declared.edge.Edge.{Edge}
use Rattle.token_tables.specs.Tables.{Drawing}
use Rattle.token_tables.specs.Examination.{examined}
use Rattle.token.specs.declared.token_drawing.TokenDrawing.{TokenDrawing}
use Rattle.token.specs.Rules.{meaning_of}

abbrev pub drawing_of : TokenDrawing → Drawing
drawing_of p = record { nodes = items_of p.nodes; edges = items_of p.edges }

abbrev pub means : TokenDrawing → Meaning
means p = meaning_of (drawing_of p)

-- tables with a fault make the drawing without nodes and edges, which is blank
abbrev pub drawn : List Node → List Edge → Drawing
drawn ns es = cond (gave (examined ns es)) (record { nodes = ns; edges = es }) (record { nodes = []; edges = [] })
