-- Runs, and a task that can be stopped.
use Rattle.std.specs.Prelude.{◌≡◌, ℕ, ◌<◌, ◌⊎◌, List, [], ◌∷◌, ◌++◌, map, length}
use Rattle.process.specs.Meaning.{Row, Meaning, Path}
use Rattle.token_tables.specs.declared.kind.Kind.TheVariants as kind
use Rattle.token_tables.specs.Tables.{Drawing, n_of, kind_of, host_of, target_of}
use Rattle.token.specs.declared.act.Act.{Act}
use Rattle.token.specs.declared.act.Act.TheVariants.{Pass, Complete, Enter, Choose}
use Rattle.token.specs.Rules.{act_of}
use Rattle.token_rules.specs.Relation.{State, Same, Safe, Due, Step, begins}
use Rattle.token_rules.specs.Showing.{state_of}

-- a run from one state to another, by these acts; each state but the last is safe, since a step asks for it
pub data Run (d : Drawing) : State → List Act → State → Type 0 where
  stays : {s : State} → Run d s [] s
  goes : {s t u : State} {a : Act} {acts : List Act} → Step d s t a → Run d t acts u → Run d s (a ∷ acts) u

-- ## The runs of the process are the runs of the rules

-- a path from row r by choices that stand for these acts, to a row that stands for u
pub record Followed (d : Drawing) (m : Meaning) (r : Row) (acts : List Act) (u : State) : Type 0 where
  pub choices : List ℕ
  pub row : Row
  pub path : Path m r choices row
  pub by : map (act_of d) choices ≡ acts
  pub same : Same d u (state_of d row)

pub record SameRuns (d : Drawing) (m : Meaning) : Type 0 where
  pub sound : (r q : Row) (cs : List ℕ) → Path m r cs q → Run d (state_of d r) (map (act_of d) cs) (state_of d q)
  pub complete : (r : Row) (u : State) (acts : List Act) → length r ≡ m.width → Run d (state_of d r) acts u → Followed d m r acts u

-- ## A task t and its stopping boundaries

-- b is a stopping boundary of task t
pub record StoppedBy (d : Drawing) (t b : ℕ) : Type 0 where
  pub bound : b < n_of d
  pub stopping : kind_of d b ≡ kind.Stopping
  pub host : host_of d b ≡ t

-- the act ends t: t is completed, or a stopping boundary of t fires
pub data Ends (d : Drawing) (t : ℕ) : Act → Type 0 where
  completed : Ends d t (Complete t)
  stopped : (b : ℕ) → StoppedBy d t b → Ends d t (Complete b)

-- the act enters node t
abbrev pub Enters : Drawing → ℕ → Act → Type 0
Enters d t Pass = ⊥
Enters d t (Complete n) = ⊥
Enters d t (Enter e) = target_of d e ≡ t
Enters d t (Choose e) = ⊥

-- some act of these enters node t
abbrev pub Entered : Drawing → ℕ → List Act → Type 0
Entered d t [] = ⊥
Entered d t (a ∷ acts) = Enters d t a ⊎ Entered d t acts

pub record Stops (d : Drawing) (t : ℕ) : Type 0 where
  -- Between one entry of t and the next, t is completed or one of its stopping boundaries fires, once and no more:
  -- of two acts x and y of a run that end t, some act between them enters t.
  pub once : (s u : State) (before between after : List Act) (x y : Act)
      → Run d s (before ++ (x ∷ (between ++ (y ∷ after)))) u
      → Ends d t x → Ends d t y
      → Entered d t between
  -- In a run from the start, t is entered before it is ended.
  pub began : (s u : State) (before after : List Act) (y : Act)
      → Same d s (begins d) → Run d s (before ++ (y ∷ after)) u
      → Ends d t y
      → Entered d t before
  -- In a run from the start, a stopping boundary of t is marked only while t is.
  pub bound : (b : ℕ) → StoppedBy d t b → (s u : State) (acts : List Act) → Same d s (begins d) → Run d s acts u → 0 < u.mark b → 0 < u.mark t
  -- While one is due, t is not completed and no time passes: it goes first, or another node that is due.
  pub first : (b : ℕ) → StoppedBy d t b → (s u : State) (a : Act) → Due d s b → Step d s u a → (n : ℕ) × (a ≡ Complete n) × Due d s n
  pub not_task : (b : ℕ) → StoppedBy d t b → (s u : State) → Due d s b → Step d s u (Complete t) → ⊥
  -- And it can fire.
  pub fires : (b : ℕ) → StoppedBy d t b → (s : State) → Safe d s → Due d s b → (u : State) × Step d s u (Complete b)
