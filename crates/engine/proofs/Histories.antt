-- What a list of calls comes to, in the words of a history, and that it comes to nothing else.
use Rattle.std.proofs.Common.{◌≡◌, ℕ, zero, suc, ◌+◌, ◌<◌, ◌≤◌, min, Bool, cond, List, [], ◌∷◌, ◌++◌, length, get_or, take, Some, None, sym, refl, ap, ◌∙◌, subst, arith, take-suc}
use Rattle.std.proofs.lemmas.List.{take_all}
use Rattle.process.specs.Meaning.{Meaning, Row, Lawful, at_start, Path, stay, step}
use Rattle.process.proofs.Tries.{reach_row}
use Rattle.run.specs.Standing.{Stand, opened}
use Rattle.run.specs.Exchanges.{Entry, made, stand_made, all_made, stand_all_made}
use Rattle.run.specs.declared.exchange.Call.TheVariants.{Look}
use Rattle.engine.specs.Running.{Answered, has_moved, was_barred, moved_choices, how_many, Stood, Running}
use Rattle.engine.proofs.Paths.{path_join, path_reach, path_one}
use Rattle.engine.proofs.Steps.{Step, still, barred, forward, call_step, made_answered, answers_one}

-- from the stand s these entries lead to the stand t
record From (m : Meaning) (s : Stand) (done : List Entry) (t : Stand) : Type 0 where
  path : Path m s.row (moved_choices done) t.row
  moved : t.moved ≡ min (s.moved + how_many has_moved done) 4294967295
  refused : t.refused ≡ min (s.refused + how_many was_barred done) 4294967295

-- a tally that has not passed its limit
record Tallied (s : Stand) : Type 0 where
  moved : s.moved ≤ 4294967295
  refused : s.refused ≤ 4294967295

step_path : {m : Meaning} {t u : Stand} {cs : List ℕ} {x y : Bool} → Step m t cs x y u → Path m t.row cs u.row
step_path still = stay
step_path barred = stay
step_path (forward c l e) = step c l e stay

step_tallies : {m : Meaning} {t u : Stand} {cs : List ℕ} {x y : Bool} → Tallied t → Step m t cs x y u →
    (u.moved ≡ min (t.moved + cond x 1 0) 4294967295) × (u.refused ≡ min (t.refused + cond y 1 0) 4294967295)
step_tallies k still = let a = k.moved in let b = k.refused in (omega arith, omega arith)
step_tallies k barred = let a = k.moved in let b = k.refused in (omega arith, omega arith)
step_tallies k (forward c l e) = let a = k.moved in let b = k.refused in (omega arith, omega arith)

from_made : (m : Meaning) (s : Stand) (es : List Entry) → Tallied s → From m s (all_made m s es) (stand_all_made m s es)
from_made m s [] k = let a = k.moved in let b = k.refused in record { path = stay; moved = omega arith; refused = omega arith }
from_made m s (e ∷ es) k =
    let here = call_step m s e.buffer e.call in
    let u = stand_made m s e in
    let t = step_tallies k here in
    let t0 = t.0 in
    let t1 = t.1 in
    let rest = from_made m u es (record { moved = omega arith; refused = omega arith }) in
    let r0 = rest.moved in
    let r1 = rest.refused in
    record { path = path_join (step_path here) rest.path; moved = omega arith; refused = omega arith }

stood_made : (m : Meaning) (es : List Entry) → Stood m (all_made m (opened m) es) (stand_all_made m (opened m) es)
stood_made m es =
    let f = from_made m (opened m) es (record { moved = omega arith; refused = omega arith }) in
    let a = f.moved in
    let b = f.refused in
    record { path = f.path; moved = omega arith; refused = omega arith }

made_length : (m : Meaning) (s : Stand) (es : List Entry) → length (all_made m s es) ≡ length es
made_length m s [] = refl
made_length m s (e ∷ es) = ap suc (made_length m (stand_made m s e) es)

take_made : (m : Meaning) (s : Stand) (es : List Entry) (n : ℕ) → take n (all_made m s es) ≡ all_made m s (take n es)
take_made m s [] zero = refl
take_made m s [] (suc n) = refl
take_made m s (e ∷ es) zero = refl
take_made m s (e ∷ es) (suc n) = ap (λ (xs : List Entry). made m s e ∷ xs) (take_made m (stand_made m s e) es n)

getD_made : (m : Meaning) (s : Stand) (es : List Entry) (n : ℕ) (d : Entry) → n < length es → get_or (all_made m s es) n d ≡ made m (stand_all_made m s (take n es)) (get_or es n d)
getD_made m s [] n d h = absurd (omega arith)
getD_made m s (e ∷ es) zero d h = refl
getD_made m s (e ∷ es) (suc n) d h = getD_made m (stand_made m s e) es n d (omega arith)

pub running : (m : Meaning) → Lawful m → (given : List Entry) → Running m given (all_made m (opened m) given) (stand_all_made m (opened m) given)
running m w given = record {
  count = made_length m (opened m) given;
  stood = λ n h. (at n, before n);
  answered = λ n h row p d.
      let long = made_length m (opened m) given in
      let here = path_one (before n).path p in
      let b = (reach_row m w row (path_reach at_start p)).long in
      subst (λ (x : Entry). Answered m row (get_or given n d) x) (sym (getD_made m (opened m) given n d (omega arith)))
      (subst (λ (r : Row). Answered m r (get_or given n d) (made m (at n) (get_or given n d))) here
      (made_answered m (at n) (get_or given n d) (ap length here ∙ b)));
  ended = stood_made m given;
}
  where
    at : ℕ → Stand
    at n = stand_all_made m (opened m) (take n given)

    before : (n : ℕ) → Stood m (take n (all_made m (opened m) given)) (at n)
    before n = subst (λ (xs : List Entry). Stood m xs (at n)) (sym (take_made m (opened m) given n)) (stood_made m (take n given))

stood_one : {m : Meaning} {done : List Entry} {s t : Stand} → Stood m done s → Stood m done t → s ≡ t
stood_one {m} {done} {s} {t} p q =
    let r = path_one p.path q.path in
    let a = p.moved ∙ sym q.moved in
    let b = p.refused ∙ sym q.refused in
    let e : ◌≡◌ {A = Stand} (record { row = s.row; moved = s.moved; refused = s.refused }) (record { row = t.row; moved = t.moved; refused = t.refused }) = cc in e

entry_one : (m : Meaning) (row : Row) (given e f : Entry) → Answered m row given e → Answered m row given f → e ≡ f
entry_one m row given e f p q =
    let a = answers_one p.answers q.answers in
    let c = p.call ∙ sym q.call in
    let n = p.noted ∙ ap Some a.0 ∙ sym q.noted in
    let b = a.1 in
    let s : ◌≡◌ {A = Entry} (record { call = e.call; buffer = e.buffer; answer = e.answer }) (record { call = f.call; buffer = f.buffer; answer = f.answer }) = cc in s

module _ (m : Meaning) (given done done' : List Entry) (end end' : Stand) (p : Running m given done end) (q : Running m given done' end') where
  fronts : (n : ℕ) → n ≤ length done → take n done ≡ take n done'
  fronts zero h = refl
  fronts (suc n) h =
      let a = p.count in
      let b = q.count in
      let low : n < length done = omega arith in
      let low' : n < length done' = omega arith in
      let same = fronts n (omega arith) in
      let d : Entry = record { call = Look; buffer = []; answer = None } in
      let here = p.stood n (omega arith) in
      let path = here.1.path in
      let x = p.answered n low here.0.row path d in
      let y = q.answered n low' here.0.row (subst (λ (xs : List Entry). Path m m.start (moved_choices xs) here.0.row) same path) d in
      take-suc done n d low ∙ ap (λ (xs : List Entry). xs ++ get_or done n d ∷ []) same
      ∙ ap (λ (e : Entry). take n done' ++ e ∷ []) (entry_one m here.0.row (get_or given n d) (get_or done n d) (get_or done' n d) x y) ∙ sym (take-suc done' n d low')

  pub alone : (done' ≡ done) × (end' ≡ end)
  alone =
      let a = p.count in
      let b = q.count in
      let c : length done ≤ length done = omega arith in
      let d : length done' ≤ length done = omega arith in
      let same : done ≡ done' = sym (take_all (length done) done c) ∙ fronts (length done) c ∙ take_all (length done) done' d in
      (sym same, stood_one q.ended (subst (λ (xs : List Entry). Stood m xs end) same p.ended))
