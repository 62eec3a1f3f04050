-- Which state a row stands for.
use Rattle.std.specs.Prelude.{◌+◌, slice_index}
use Rattle.process.specs.Meaning.{Row}
use Rattle.token_tables.specs.Tables.{Drawing, n_of}
use Rattle.token.specs.Rows.{f_of, day_of}
use Rattle.token_rules.specs.Relation.{State}

abbrev pub state_of : Drawing → Row → State
state_of d r = record {
  mark = λ n. slice_index r n;
  clock = λ n. slice_index r (n_of d + n);
  flow = λ e. slice_index r (f_of d + e);
  day = slice_index r (day_of d);
}
