-- The rules of a token drawing, in its own words: what it holds, and what each step does.
use Rattle.std.specs.Prelude.{◌≡◌, ℕ, ◌+◌, ◌-◌, ◌<◌, ◌≤◌, Bool, cond, ◌&&◌, ◌⊎◌, ◌==◌, ◌≢◌, nat_lt}
use Rattle.token_tables.specs.declared.kind.Kind.{Kind}
use Rattle.token_tables.specs.declared.kind.Kind.TheVariants as kind
use Rattle.token_tables.specs.declared.mode.Mode.{Mode}
use Rattle.token_tables.specs.declared.mode.Mode.TheVariants as mode
use Rattle.token_tables.specs.Kinds.{is_begin, is_boundary}
use Rattle.token_tables.specs.Tables.{Drawing, n_of, e_of, node_at, kind_of, host_of, mode_of, amount_of, source_of, target_of, outgoing}
use Rattle.token.specs.declared.act.Act.{Act}
use Rattle.token.specs.declared.act.Act.TheVariants.{Pass, Complete, Enter, Choose}
use Rattle.token.specs.Clocks.{is_after, cap_of}

infixl 20 ◌▹◌
-- ## What a drawing holds

-- The marks and the clock of each node, the marks of each edge, and the day clock.
pub record State : Type 0 where
  pub mark : ℕ → ℕ
  pub clock : ℕ → ℕ
  pub flow : ℕ → ℕ
  pub day : ℕ

-- Two states hold the same at each node and each edge.
pub record Same (d : Drawing) (s t : State) : Type 0 where
  pub marks : (n : ℕ) → n < n_of d → s.mark n ≡ t.mark n
  pub clocks : (n : ℕ) → n < n_of d → s.clock n ≡ t.clock n
  pub flows : (e : ℕ) → e < e_of d → s.flow e ≡ t.flow e
  pub days : s.day ≡ t.day

-- No mark is above 2, a clock goes no further than the length that its node waits for, and the day clock no further
-- than its cap.
pub record Lawful (d : Drawing) (s : State) : Type 0 where
  pub marks : (n : ℕ) → n < n_of d → s.mark n ≤ 2
  pub flows : (e : ℕ) → e < e_of d → s.flow e ≤ 2
  pub waiting : (n : ℕ) → n < n_of d → mode_of d n ≡ mode.After → s.clock n ≤ amount_of d n
  pub still : (n : ℕ) → n < n_of d → (mode_of d n ≢ mode.After) → s.clock n ≡ 0
  pub day : s.day ≤ cap_of d.nodes

-- And no mark is above 1.
pub record Safe (d : Drawing) (s : State) : Type 0 where
  pub lawful : Lawful d s
  pub nodes : (n : ℕ) → n < n_of d → s.mark n ≤ 1
  pub edges : (e : ℕ) → e < e_of d → s.flow e ≤ 1

-- ## Sets of nodes and of edges

-- one alone
abbrev pub just : ℕ → ℕ → Bool
just k x = x == k

-- the boundaries of task h
abbrev pub boundaries : Drawing → ℕ → ℕ → Bool
boundaries d h n = is_boundary (kind_of d n) && host_of d n == h

-- the edges out of node n, and those into it
abbrev pub out_of : Drawing → ℕ → ℕ → Bool
out_of d n e = source_of d e == n

abbrev pub into : Drawing → ℕ → ℕ → Bool
into d n e = target_of d e == n

-- ## Changes: what each node and each edge holds afterwards

-- s ▹ f ▹ g: first f is done to s, and then g
abbrev pub ◌▹◌ : State → (State → State) → State
s ▹ f = f s

-- the nodes of p lose their marks
abbrev pub emptied : (ℕ → Bool) → State → State
emptied p s = record { mark = λ n. cond (p n) 0 (s.mark n); clock = s.clock; flow = s.flow; day = s.day }

-- the nodes of p lose their marks, and their clocks become 0
abbrev pub cleared : (ℕ → Bool) → State → State
cleared p s = record { mark = λ n. cond (p n) 0 (s.mark n); clock = λ n. cond (p n) 0 (s.clock n); flow = s.flow; day = s.day }

-- each node of p gains a mark
abbrev pub marked : (ℕ → Bool) → State → State
marked p s = record { mark = λ n. cond (p n) (s.mark n + 1) (s.mark n); clock = s.clock; flow = s.flow; day = s.day }

-- each node of p gains a mark, and its clock becomes 0
abbrev pub armed : (ℕ → Bool) → State → State
armed p s = record { mark = λ n. cond (p n) (s.mark n + 1) (s.mark n); clock = λ n. cond (p n) 0 (s.clock n); flow = s.flow; day = s.day }

-- each edge of p gains a mark
abbrev pub given : (ℕ → Bool) → State → State
given p s = record { mark = s.mark; clock = s.clock; flow = λ e. cond (p e) (s.flow e + 1) (s.flow e); day = s.day }

-- each edge of p loses a mark
abbrev pub taken : (ℕ → Bool) → State → State
taken p s = record { mark = s.mark; clock = s.clock; flow = λ e. cond (p e) (s.flow e - 1) (s.flow e); day = s.day }

-- node m alone is marked, and the clock of every node is 0
abbrev pub ended : ℕ → State → State
ended m s = record { mark = λ n. cond (just m n) 1 0; clock = λ n. 0; flow = λ e. 0; day = s.day }

-- the clock of each marked node that waits for its length rises by 1, and the day clock too, unless it is at the cap
abbrev pub aged : Drawing → State → State
aged d s = record {
  mark = s.mark;
  clock = λ n. cond (nat_lt 0 (s.mark n) && is_after (node_at d n)) (s.clock n + 1) (s.clock n);
  flow = s.flow;
  day = cond (nat_lt s.day (cap_of d.nodes)) (s.day + 1) s.day;
}

-- ## Conditions

-- a timer of this mode and amount rings, at its node's clock and the day clock
abbrev pub Rings : Mode → ℕ → ℕ → ℕ → Type 0
Rings mode.Untimed amount clock day = ⊥
Rings mode.At amount clock day = day ≡ amount
Rings mode.After amount clock day = clock ≡ amount
Rings (mode.Other number) amount clock day = ⊥

-- a marked node whose timer rings
abbrev pub Due : Drawing → State → ℕ → Type 0
Due d s n = (0 < s.mark n) × Rings (mode_of d n) (amount_of d n) (s.clock n) s.day

-- no node is due
abbrev pub Calm : Drawing → State → Type 0
Calm d s = (n : ℕ) → n < n_of d → Due d s n → ⊥

-- each edge into node n is marked
abbrev pub Gathered : Drawing → State → ℕ → Type 0
Gathered d s n = (e : ℕ) → e < e_of d → target_of d e ≡ n → 0 < s.flow e

-- node n may be completed: it is due, or no node is, and it is a marked start or task or a parallel gateway that has gathered its marks
pub data Ready (d : Drawing) (s : State) (n : ℕ) : Type 0 where
  due : Due d s n → Ready d s n
  begun : Calm d s → 0 < s.mark n → (kind_of d n ≡ kind.Start) ⊎ (kind_of d n ≡ kind.Task) → Ready d s n
  gathered : Calm d s → kind_of d n ≡ kind.Parallel → Gathered d s n → Ready d s n

pub record Completing (d : Drawing) (s : State) (n : ℕ) : Type 0 where
  pub node : n < n_of d
  pub safe : Safe d s
  pub ready : Ready d s n

-- a mark may leave edge e, which goes into node n
pub record Entering (d : Drawing) (s : State) (e n : ℕ) : Type 0 where
  pub edge : e < e_of d
  pub target : target_of d e ≡ n
  pub safe : Safe d s
  pub calm : Calm d s
  pub there : 0 < s.flow e

-- a kind that has no rule of its own for completion
pub record Plain (k : Kind) : Type 0 where
  pub no_task : k ≡ kind.Task → ⊥
  pub no_stopping : k ≡ kind.Stopping → ⊥
  pub no_parallel : k ≡ kind.Parallel → ⊥

-- ## The rules

-- the state at the start: each start, timed or not, is marked, and all else is 0
abbrev pub begins : Drawing → State
begins d = record { mark = λ n. cond (is_begin (kind_of d n)) 1 0; clock = λ n. 0; flow = λ e. 0; day = 0 }

-- a step from s to t, by what is done
pub data Step (d : Drawing) (s t : State) : Act → Type 0 where
  -- a unit of time passes
  passes : Safe d s → Calm d s
      → Same d t (s ▹ aged d)
      → Step d s t Pass
  -- node n completes: it gives up its mark, and each edge out of it gains one
  complete_plain : (n : ℕ) → Completing d s n → Plain (kind_of d n)
      → Same d t (s ▹ cleared (just n) ▹ given (out_of d n))
      → Step d s t (Complete n)
  -- a task disarms its boundaries
  complete_task : (n : ℕ) → Completing d s n → kind_of d n ≡ kind.Task
      → Same d t (s ▹ cleared (just n) ▹ cleared (boundaries d n) ▹ given (out_of d n))
      → Step d s t (Complete n)
  -- a stopping boundary stops its host, task h, and disarms all of its boundaries
  complete_stopping : (n h : ℕ) → Completing d s n → kind_of d n ≡ kind.Stopping → host_of d n ≡ h
      → Same d t (s ▹ cleared (just n) ▹ emptied (just h) ▹ cleared (boundaries d h) ▹ given (out_of d n))
      → Step d s t (Complete n)
  -- a parallel gateway takes a mark from each edge into it
  complete_parallel : (n : ℕ) → Completing d s n → kind_of d n ≡ kind.Parallel
      → Same d t (s ▹ taken (into d n) ▹ given (out_of d n))
      → Step d s t (Complete n)
  -- a mark goes over edge e into task n, and arms its boundaries
  enter_task : (e n : ℕ) → Entering d s e n → kind_of d n ≡ kind.Task
      → Same d t (s ▹ taken (just e) ▹ marked (just n) ▹ armed (boundaries d n))
      → Step d s t (Enter e)
  -- into a wait, whose clock begins at 0
  enter_wait : (e n : ℕ) → Entering d s e n → kind_of d n ≡ kind.Wait
      → Same d t (s ▹ taken (just e) ▹ armed (just n))
      → Step d s t (Enter e)
  -- into an end
  enter_end : (e n : ℕ) → Entering d s e n → kind_of d n ≡ kind.End
      → Same d t (s ▹ taken (just e) ▹ marked (just n))
      → Step d s t (Enter e)
  -- into a terminate, which ends all else
  enter_terminate : (e n : ℕ) → Entering d s e n → kind_of d n ≡ kind.Terminate
      → Same d t (s ▹ ended n)
      → Step d s t (Enter e)
  -- through an exclusive gateway with one edge out of it
  enter_exclusive : (e n : ℕ) → Entering d s e n → kind_of d n ≡ kind.Exclusive → outgoing d n ≡ 1
      → Same d t (s ▹ taken (just e) ▹ given (out_of d n))
      → Step d s t (Enter e)
  -- an exclusive gateway with several edges out of it passes the mark of the edge i into it on to the chosen edge e
  chooses : (i n e : ℕ) → Entering d s i n → kind_of d n ≡ kind.Exclusive → 1 < outgoing d n
      → e < e_of d → source_of d e ≡ n
      → Same d t (s ▹ taken (just i) ▹ given (just e))
      → Step d s t (Choose e)
