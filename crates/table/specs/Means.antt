-- What the tables of the code mean.
use Rattle.std.specs.Prelude.{vec_items}
use Rattle.process.specs.Meaning.{Meaning}
use Rattle.table.specs.declared.table.Table.{Table}
use Rattle.table.specs.Tables.{meaning_of}

abbrev pub means : Table → Meaning
means t = meaning_of (vec_items t.safe) (vec_items t.arcs)
