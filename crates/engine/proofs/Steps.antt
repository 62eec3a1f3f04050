-- What one call comes to, in the words of a history.
use Rattle.std.proofs.Common.{◌≡◌, ℕ, ◌<◌, Bool, true, false, cond, eqb, ltb, List, [], ◌∷◌, length, Some, None, Option, refl, arith}
use Rattle.std.proofs.lemmas.Bool.{ltb-true, ltb-false, eqb-true, eqb-false, eq-eqb, false≢true}
use Rattle.process.specs.Meaning.{Meaning, Row}
use Rattle.process.specs.Outcomes.{Answer, gives, refuses, Outcome, wrote, refused, next_or}
use Rattle.process.specs.Counts.{openings_at}
use Rattle.run.specs.Standing.{Stand, after_press, one_more}
use Rattle.run.specs.Exchanges.{Entry, reply_by, answer_to, left_after, stand_after, made}
use Rattle.run.specs.declared.exchange.Call.{Call}
use Rattle.run.specs.declared.exchange.Call.TheVariants.{Press, Look, Openings}
use Rattle.run.specs.declared.exchange.Reply.{Reply}
use Rattle.run.specs.declared.exchange.Reply.TheVariants.{Moved, Shown, Counted}
use Rattle.engine.specs.Running.{Answers, moves, not_allowed, no_such_choice, shows, counts, wrong_length, Answered, has_moved, was_barred, choice_of}

-- what one call does to a stand: the choice that moved, whether it moved, and whether it was barred
pub data Step (m : Meaning) (t : Stand) : List ℕ → Bool → Bool → Stand → Type 0 where
  still : Step m t [] false false t
  barred : Step m t [] false true (record { row = t.row; moved = t.moved; refused = one_more t.refused })
  forward : {s : Row} (c : ℕ) → c < m.choices → m.next t.row c ≡ Some s → Step m t (c ∷ []) true false (record { row = s; moved = one_more t.moved; refused = t.refused })

abbrev Steps : Meaning → Stand → Call → Answer Reply → Stand → Type 0
Steps m t k a u = Step m t (cond (has_moved (Some a)) (choice_of k) []) (has_moved (Some a)) (was_barred (Some a)) u

-- the outcome of a press by its tests
abbrev by_tests : Bool → Bool → Bool → Option Row → Row → Outcome
by_tests p q h o b = cond p (cond q (cond h (next_or o b) (refused 21 b)) (refused 20 b)) (refused 20 b)

press_step : (m : Meaning) (t : Stand) (c : ℕ) (b : Row) (p q h : Bool) (o : Option Row) → (h ≡ true → c < m.choices) → m.next t.row c ≡ o →
    Steps m t (Press c) (reply_by (λ _. Moved) (by_tests p q h o b).answer) (after_press (by_tests p q h o b).answer (by_tests p q h o b).left t)
press_step m t c b false q h o l e = still
press_step m t c b true false h o l e = still
press_step m t c b true true false o l e = barred
press_step m t c b true true true None l e = barred
press_step m t c b true true true (Some x) l e = forward c (l refl) e

look_step : (m : Meaning) (t : Stand) (b : Row) (p : Bool) → Steps m t Look (reply_by (λ _. Shown) (cond p (wrote t.row) (refused 20 b)).answer) t
look_step m t b true = still
look_step m t b false = still

openings_step : (m : Meaning) (t : Stand) (n : ℕ) (p : Bool) → Steps m t Openings (reply_by Counted (cond p (gives n) (refuses 20 0))) t
openings_step m t n true = still
openings_step m t n false = still

pub call_step : (m : Meaning) (t : Stand) (b : Row) (k : Call) → Steps m t k (answer_to m t b k) (stand_after m t b k)
call_step m t b (Press c) = press_step m t c b (eqb (length t.row) m.width) (eqb (length b) m.width) (ltb c m.choices) (m.next t.row c) (ltb-true _ _) refl
call_step m t b Look = look_step m t b (eqb (length b) m.width)
call_step m t b Openings = openings_step m t (openings_at m t.row) (eqb (length b) m.width)

press_answers : (m : Meaning) (r : Row) (c : ℕ) (b : Row) (p q h : Bool) (o : Option Row) → p ≡ true → eqb (length b) m.width ≡ q → ltb c m.choices ≡ h → m.next r c ≡ o →
    Answers m r (Press c) b (reply_by (λ _. Moved) (by_tests p q h o b).answer) (by_tests p q h o b).left
press_answers m r c b false q h o x y z e = absurd (false≢true x)
press_answers m r c b true false h o x y z e = wrong_length (eqb-false _ _ y)
press_answers m r c b true true false o x y z e = no_such_choice c (eqb-true _ _ y) (ltb-false _ _ z)
press_answers m r c b true true true None x y z e = not_allowed c (eqb-true _ _ y) (ltb-true _ _ z) e
press_answers m r c b true true true (Some s) x y z e = moves c (eqb-true _ _ y) (ltb-true _ _ z) e

look_answers : (m : Meaning) (r b : Row) (q : Bool) → eqb (length b) m.width ≡ q →
    Answers m r Look b (reply_by (λ _. Shown) (cond q (wrote r) (refused 20 b)).answer) (cond q (wrote r) (refused 20 b)).left
look_answers m r b true y = shows (eqb-true _ _ y)
look_answers m r b false y = wrong_length (eqb-false _ _ y)

openings_answers : (m : Meaning) (r b : Row) (q : Bool) → eqb (length b) m.width ≡ q →
    Answers m r Openings b (reply_by Counted (cond q (gives (openings_at m r)) (refuses 20 0))) (cond q (wrote r) (refused 20 b)).left
openings_answers m r b true y = counts (eqb-true _ _ y)
openings_answers m r b false y = wrong_length (eqb-false _ _ y)

-- each call is answered by a rule
call_answers : (m : Meaning) (t : Stand) (b : Row) (k : Call) → length t.row ≡ m.width → Answers m t.row k b (answer_to m t b k) (left_after m t b k)
call_answers m t b (Press c) w =
    press_answers m t.row c b (eqb (length t.row) m.width) (eqb (length b) m.width) (ltb c m.choices) (m.next t.row c) (eq-eqb _ _ w) refl refl refl
call_answers m t b Look w = look_answers m t.row b (eqb (length b) m.width) refl
call_answers m t b Openings w = openings_answers m t.row b (eqb (length b) m.width) refl

pub made_answered : (m : Meaning) (t : Stand) (e : Entry) → length t.row ≡ m.width → Answered m t.row e (made m t e)
made_answered m t e w = record { call = refl; answer = answer_to m t e.buffer e.call; noted = refl; answers = call_answers m t e.buffer e.call w }

-- two rules for one call give one answer
pub answers_one : {m : Meaning} {r : Row} {k : Call} {b : Row} {a a' : Answer Reply} {x x' : Row} → Answers m r k b a x → Answers m r k b a' x' → (a ≡ a') × (x ≡ x')
answers_one (moves c h l e) (moves d i k f) = (refl, cc)
answers_one (moves c h l e) (not_allowed d i k f) = (cc, cc)
answers_one (moves c h l e) (no_such_choice d i k) = absurd (omega arith)
answers_one (moves c h l e) (wrong_length n) = absurd (n h)
answers_one (not_allowed c h l e) (moves d i k f) = (cc, cc)
answers_one (not_allowed c h l e) (not_allowed d i k f) = (refl, refl)
answers_one (not_allowed c h l e) (no_such_choice d i k) = absurd (omega arith)
answers_one (not_allowed c h l e) (wrong_length n) = absurd (n h)
answers_one (no_such_choice c h l) (moves d i k f) = absurd (omega arith)
answers_one (no_such_choice c h l) (not_allowed d i k f) = absurd (omega arith)
answers_one (no_such_choice c h l) (no_such_choice d i k) = (refl, refl)
answers_one (no_such_choice c h l) (wrong_length n) = absurd (n h)
answers_one (shows h) (shows i) = (refl, refl)
answers_one (shows h) (wrong_length n) = absurd (n h)
answers_one (counts h) (counts i) = (refl, refl)
answers_one (counts h) (wrong_length n) = absurd (n h)
answers_one (wrong_length n) (moves d i k f) = absurd (n i)
answers_one (wrong_length n) (not_allowed d i k f) = absurd (n i)
answers_one (wrong_length n) (no_such_choice d i k) = absurd (n i)
answers_one (wrong_length n) (shows i) = absurd (n i)
answers_one (wrong_length n) (counts i) = absurd (n i)
answers_one (wrong_length n) (wrong_length o) = (refl, refl)
