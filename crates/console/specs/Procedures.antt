-- What a procedure of either kind means, and that it keeps to what every process promises.
use Rattle.std.proofs.Common.{arith}
use Rattle.process.specs.Meaning.{Meaning, Lawful}
use Rattle.process.specs.Bounds.{Within}
use Rattle.table.specs.Means as table
use Rattle.table.specs.Laws.{lawful_table, within_table}
use Rattle.token.specs.Drawn as token
use Rattle.token.specs.Laws.{lawful_drawing, within_drawing}
use Rattle.console.specs.declared.procedure.Procedure.{Procedure}
use Rattle.console.specs.declared.procedure.Procedure.TheVariants.{Written, Drawn}

abbrev pub procedure_means : Procedure → Meaning
procedure_means (Written t) = table.means t
procedure_means (Drawn d) = token.means d

pub lawful_procedure : (p : Procedure) → Lawful (procedure_means p)
lawful_procedure (Written t) = lawful_table t
lawful_procedure (Drawn d) = lawful_drawing d

pub within_procedure : (p : Procedure) → Within (record { widest = 257; most_choices = 4096 }) (procedure_means p)
within_procedure (Written t) = let w = within_table t in record { width = omega (arith, w.width); choices = omega (arith, w.choices); widest = omega arith; most = omega arith }
within_procedure (Drawn d) = let w = within_drawing d in record { width = omega (arith, w.width); choices = omega (arith, w.choices); widest = omega arith; most = omega arith }
