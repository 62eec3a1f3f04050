-- What is wrong with a table: the number, the place and the words of each fault.
use Rattle.std.specs.Prelude.{ℕ, List, ◌++◌, Result, codes, decimal}
use Rattle.process.specs.Outcomes.{Answer, told_by}
use Rattle.table.specs.declared.table_fault.TableFault.{TableFault}
use Rattle.table.specs.declared.table_fault.TableFault.TheVariants.{Size, Choice, End}

abbrev pub number_of : TableFault → ℕ
number_of Size = 1
number_of (Choice arc) = 2
number_of (End arc) = 4

abbrev pub place_of : TableFault → ℕ
place_of Size = 0
place_of (Choice arc) = arc
place_of (End arc) = arc

abbrev pub words_of : TableFault → List ℕ
words_of Size = codes "a table has 1 to 4096 rows and at most 16384 arcs"
words_of (Choice arc) = codes "the choice of arc " ++ (decimal arc ++ codes " is above 4095")
words_of (End arc) = codes "arc " ++ (decimal arc ++ codes " leads from or to a row that the table does not have")

abbrev pub told : {X : Type 0} → Result X TableFault → Answer X
told r = told_by number_of place_of r
