-- What a list of calls with buffers comes to, call by call.
use Rattle.std.specs.Prelude.{List, [], ◌∷◌, Some, vec_items, Option}
use Rattle.std.specs.Option.{option_map}
use Rattle.process.specs.Meaning.{Meaning, Row}
use Rattle.process.specs.Outcomes.{Answer, gives, refuses, told, next_outcome}
use Rattle.run.specs.Standing.{Stand, pressed}
use Rattle.run.specs.Answers.{look_outcome, openings_answer}
use Rattle.run.specs.declared.exchange.Call.{Call}
use Rattle.run.specs.declared.exchange.Call.TheVariants.{Press, Look, Openings}
use Rattle.run.specs.declared.exchange.Reply.{Reply}
use Rattle.run.specs.declared.exchange.Reply.TheVariants.{Moved, Shown, Counted}
use Rattle.run.specs.declared.exchange.Exchange.{Exchange}

-- an exchange as it stands: the call, what its buffer holds, and the answer once there is one
pub record Entry : Type 0 where
  pub call : Call
  pub buffer : Row
  pub answer : Option (Answer Reply)

abbrev pub entry_of : Exchange → Entry
entry_of e = record { call = e.call; buffer = vec_items e.buffer; answer = option_map told e.reply }

-- what was given, as a reply
abbrev pub reply_by : {X : Type 0} → (X → Reply) → Answer X → Answer Reply
reply_by f (gives x) = gives (f x)
reply_by f (refuses n p) = refuses n p

-- the answer to a call with a buffer that holds b, what the buffer then holds, and where the run then stands
abbrev pub answer_to : Meaning → Stand → Row → Call → Answer Reply
answer_to m s b (Press c) = reply_by (λ _. Moved) (next_outcome m s.row c b).answer
answer_to m s b Look = reply_by (λ _. Shown) (look_outcome m s.row b).answer
answer_to m s b Openings = reply_by Counted (openings_answer m s.row b)

abbrev pub left_after : Meaning → Stand → Row → Call → Row
left_after m s b (Press c) = (next_outcome m s.row c b).left
left_after m s b Look = (look_outcome m s.row b).left
left_after m s b Openings = (look_outcome m s.row b).left

abbrev pub stand_after : Meaning → Stand → Row → Call → Stand
stand_after m s b (Press c) = pressed m s c b
stand_after m s b Look = s
stand_after m s b Openings = s

-- an entry once its call was made, and where the run then stands
abbrev pub made : Meaning → Stand → Entry → Entry
made m s e = record { call = e.call; buffer = left_after m s e.buffer e.call; answer = Some (answer_to m s e.buffer e.call) }

abbrev pub stand_made : Meaning → Stand → Entry → Stand
stand_made m s e = stand_after m s e.buffer e.call

-- the same for a list of calls, one after the other
abbrev pub all_made : Meaning → Stand → List Entry → List Entry
all_made m s [] = []
all_made m s (e ∷ es) = made m s e ∷ all_made m (stand_made m s e) es

abbrev pub stand_all_made : Meaning → Stand → List Entry → Stand
stand_all_made m s [] = s
stand_all_made m s (e ∷ es) = stand_all_made m (stand_made m s e) es
