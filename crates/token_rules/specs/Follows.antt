-- What it means that a process follows the rules of a drawing.
use Rattle.std.specs.Prelude.{◌≡◌, ℕ, ◌<◌, true, ◌↔◌, length, Some}
use Rattle.process.specs.Meaning.{Row, Meaning}
use Rattle.process.specs.Outcomes.{refuses, next_outcome}
use Rattle.token_tables.specs.Tables.{Drawing}
use Rattle.token.specs.declared.act.Act.{Act}
use Rattle.token.specs.Rows.{width_of}
use Rattle.token.specs.Rules.{choices_of, act_of, choice_of, Of}
use Rattle.token_rules.specs.Relation.{State, Same, Lawful, Safe, Step, begins}
use Rattle.token_rules.specs.Showing.{state_of}

-- The choices are the acts at the nodes and edges of the drawing, one to one.
pub record Numbered (d : Drawing) : Type 0 where
  pub low : (a : Act) → Of d a → choice_of d a < choices_of d
  pub back : (a : Act) → Of d a → act_of d (choice_of d a) ≡ a
  pub of : (c : ℕ) → c < choices_of d → Of d (act_of d c)
  pub forth : (c : ℕ) → c < choices_of d → choice_of d (act_of d c) ≡ c

-- At row r a choice leads where the step of its act leads, and nowhere else.
pub record Exact (d : Drawing) (m : Meaning) (r : Row) : Type 0 where
  -- each allowed choice is the step of its act
  pub sound : (q : Row) (c : ℕ) → c < m.choices → m.next r c ≡ Some q → Step d (state_of d r) (state_of d q) (act_of d c)
  -- each step is some choice
  pub complete : (t : State) (a : Act) → Step d (state_of d r) t a → Of d a × ((q : Row) × (m.next r (choice_of d a) ≡ Some q) × Same d t (state_of d q))
  -- to one state only
  pub one : (t u : State) (a : Act) → Step d (state_of d r) t a → Step d (state_of d r) u a → Same d t u
  -- a choice is refused by 22, with any buffer b of the width, exactly if there is no step of its act
  pub refused : (c : ℕ) (b : Row) → c < m.choices → length b ≡ m.width
      → ((next_outcome m r c b).answer ≡ refuses 22 0) ↔ ((t : State) → Step d (state_of d r) t (act_of d c) → ⊥)

pub record Follows (d : Drawing) (m : Meaning) : Type 0 where
  pub width : m.width ≡ width_of d
  pub choices : m.choices ≡ choices_of d
  pub numbered : Numbered d
  -- a row is determined by its state
  pub shown : (r q : Row) → length r ≡ m.width → length q ≡ m.width → Same d (state_of d r) (state_of d q) → r ≡ q
  pub start : Same d (state_of d m.start) (begins d)
  pub safe : (r : Row) → length r ≡ m.width → (m.safe r ≡ true) ↔ Safe d (state_of d r)
  -- at every row, reachable or not; one that is not safe has no step and no allowed choice
  pub exact : (r : Row) → length r ≡ m.width → Exact d m r
  -- a step leads to a lawful state, if not to a safe one
  pub lawful : (s t : State) (a : Act) → Step d s t a → Lawful d t
