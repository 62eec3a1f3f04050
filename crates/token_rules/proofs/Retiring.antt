-- A run of the example in which the task is stopped.
use Rattle.std.proofs.Common.{◌≡◌, List, [], ◌∷◌, refl, arith}
use Rattle.process.specs.Meaning.{Row, stay, step}
use Rattle.token_tables.specs.declared.node.Node.{Node}
use Rattle.token_tables.specs.declared.edge.Edge.{Edge}
use Rattle.token_tables.specs.Good.{Good}
use Rattle.token_tables.proofs.Goods.{good}
use Rattle.token.specs.Rules.{start_row}
use Rattle.token.specs.Drawn.{drawn}
use Rattle.token_rules.specs.Showing.{state_of}
use Rattle.token_rules.specs.Runs.{StoppedBy}
use Rattle.token_rules.specs.Retire.{retire, Stopped}
use Rattle.token_rules.proofs.Sweeps.{shows_start}
use Rattle.token_rules.proofs.Exactly.{sound}
use Rattle.token_rules.proofs.Once.{stops}
use Rattle.token_rules.proofs.Paths.{same_runs}

accepted : Good retire
accepted = good retire.nodes retire.edges refl

pub retire_drawn : (ns : List Node) (es : List Edge) → ns ≡ retire.nodes → es ≡ retire.edges → drawn ns es ≡ retire
retire_drawn ns es p q = rw (p, q)

limit : StoppedBy retire 1 2
limit = record { bound = omega arith; stopping = refl; host = refl }

-- the task has been open for one unit, and for two
abbrev open_one : Row
open_one = 0 ∷ 1 ∷ 1 ∷ 0 ∷ 0 ∷ 0 ∷ 0 ∷ 1 ∷ 0 ∷ 0 ∷ 0 ∷ 0 ∷ 0 ∷ 0 ∷ []

abbrev open_two : Row
open_two = 0 ∷ 1 ∷ 1 ∷ 0 ∷ 0 ∷ 0 ∷ 0 ∷ 2 ∷ 0 ∷ 0 ∷ 0 ∷ 0 ∷ 0 ∷ 0 ∷ []

abbrev put_back : Row
put_back = 0 ∷ 0 ∷ 0 ∷ 0 ∷ 1 ∷ 0 ∷ 0 ∷ 0 ∷ 0 ∷ 0 ∷ 0 ∷ 0 ∷ 0 ∷ 0 ∷ []

pub stopped : Stopped
stopped = record {
  task = refl;
  limit = limit;
  start = state_of retire (start_row retire);
  asked = state_of retire open_one;
  due = state_of retire open_two;
  end = state_of retire put_back;
  begun = (shows_start retire).same;
  entered = (same_runs retire accepted).sound (start_row retire) open_one (1 ∷ 6 ∷ 0 ∷ []) (step 1 (omega arith) refl (step 6 (omega arith) refl (step 0 (omega arith) refl stay)));
  in_time = (_, sound retire accepted open_one _ 2 (omega arith) refl);
  passed = sound retire accepted open_one open_two 0 (omega arith) refl;
  too_late = λ t. (stops retire accepted 1 (omega arith) refl).not_task 2 limit (state_of retire open_two) t (omega arith, refl);
  stopped = (same_runs retire accepted).sound open_two put_back (3 ∷ 8 ∷ []) (step 3 (omega arith) refl (step 8 (omega arith) refl stay));
  not_retired = refl;
  shelved = refl;
}
