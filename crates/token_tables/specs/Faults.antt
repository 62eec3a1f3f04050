-- What is wrong with the tables of a drawing: the number, the place and the words of each fault.
use Rattle.std.specs.Prelude.{ℕ, List, ◌++◌, Result, codes, decimal}
use Rattle.process.specs.Outcomes.{Answer, told_by}
use Rattle.token_tables.specs.declared.drawing_fault.DrawingFault.{DrawingFault}
use Rattle.token_tables.specs.declared.drawing_fault.DrawingFault.TheVariants.{Size, Range, Host, End, Edges, NoStart}

abbrev pub number_of : DrawingFault → ℕ
number_of Size = 1
number_of (Range node) = 2
number_of (Host node) = 3
number_of (End edge) = 4
number_of (Edges node) = 5
number_of NoStart = 6

abbrev pub place_of : DrawingFault → ℕ
place_of Size = 0
place_of (Range node) = node
place_of (Host node) = node
place_of (End edge) = edge
place_of (Edges node) = node
place_of NoStart = 0

abbrev pub words_of : DrawingFault → List ℕ
words_of Size = codes "a drawing has 1 to 64 nodes and at most 128 edges"
words_of (Range node) = codes "the kind, the mode or the amount of node " ++ (decimal node ++ codes " is out of range; see docs/token-drawings.md")
words_of (Host node) = codes "the host of node " ++ (decimal node ++ codes " does not fit: a boundary's is a task, any other is 0")
words_of (End edge) = codes "edge " ++ (decimal edge ++ codes " leads from or to a node that the drawing does not have")
words_of (Edges node) = codes "node " ++ (decimal node ++ codes " has too many or too few edges into it or out of it; see docs/token-drawings.md")
words_of NoStart = codes "no node is a start"

abbrev pub told : {X : Type 0} → Result X DrawingFault → Answer X
told r = told_by number_of place_of r
