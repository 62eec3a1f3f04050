-- The drawing and the row that a marking holds.
use Rattle.process.specs.Meaning.{Row}
use Rattle.token_tables.specs.Tables.{Drawing}
use Rattle.token.specs.declared.marking.Marking.{Marking}
use Rattle.token.specs.Drawn.{drawing_of}

abbrev pub drawing_in : Marking → Drawing
drawing_in m = drawing_of m.drawing.now

abbrev pub row_in : Marking → Row
row_in m = m.row.now
