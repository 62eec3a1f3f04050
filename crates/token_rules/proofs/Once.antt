-- A task ends once for each entry, and a stopping boundary goes first once it is due.
use Rattle.std.proofs.Common.{◌≡◌, ℕ, ◌<◌, ◌≤◌, false, eqb, ◌⊎◌, List, [], ◌∷◌, ◌++◌, sym, refl, ap, ◌∙◌, inl, inr, arith}
use Rattle.std.proofs.lemmas.Bool.{cases_eq}
use Rattle.std.proofs.lemmas.Bool.Decides.{nat_tests, not_from_Decides}
use Rattle.token_tables.specs.declared.kind.Kind.{Kind}
use Rattle.token_tables.specs.declared.kind.Kind.TheVariants as kind
use Rattle.token_tables.specs.declared.mode.Mode.TheVariants as mode
use Rattle.token_tables.specs.Kinds.{same_kind}
use Rattle.token_tables.specs.Tables.{Drawing, n_of, kind_of, mode_of}
use Rattle.token_tables.specs.Good.{Good}
use Rattle.token_tables.proofs.Codes.{decides_kind, decides_mode}
use Rattle.token.specs.declared.act.Act.{Act}
use Rattle.token.specs.declared.act.Act.TheVariants.{Pass, Complete, Enter, Choose}
use Rattle.token_rules.specs.Relation.{State, Same, Due, Ready, due, begun, gathered, Step, passes, complete_plain, complete_task, complete_stopping, complete_parallel, enter_task, enter_wait, enter_end, enter_terminate, enter_exclusive, chooses, boundaries, begins}
use Rattle.token_rules.specs.Runs.{Run, stays, goes, StoppedBy, Ends, completed, stopped, Enters, Entered, Stops}
use Rattle.token_rules.proofs.Shows.{same_refl}
use Rattle.token_rules.proofs.Tells.{Allowed}
use Rattle.token_rules.proofs.Agrees.{completes, possible}

-- nodes of two kinds are two nodes
two_nodes : (d : Drawing) {n m : ℕ} {j k : Kind} → kind_of d n ≡ j → kind_of d m ≡ k → same_kind j k ≡ false → n ≡ m → ⊥
two_nodes d {j = j} {k = k} p q f e = not_from_Decides _ (decides_kind j k) f (sym p ∙ ap (kind_of d) e ∙ q)

module _ (d : Drawing) (good : Good d) (t : ℕ) (node : t < n_of d) (task : kind_of d t ≡ kind.Task) where
  -- the act completes t or a stopping boundary of it
  abbrev Ended : Act → Type 0
  Ended Pass = ⊥
  Ended (Complete n) = (n ≡ t) ⊎ StoppedBy d t n
  Ended (Enter e) = ⊥
  Ended (Choose e) = ⊥

  ended : {a : Act} → Ends d t a → Ended a
  ended completed = inl refl
  ended (stopped b on) = inr on

  -- what a step does to t and its stopping boundaries: nothing, but that these may lose their marks; or it ends them all; or it enters t
  data Effect (s u : State) (a : Act) : Type 0 where
    apart : (Ended a → ⊥) → u.mark t ≡ s.mark t → ((b : ℕ) → StoppedBy d t b → u.mark b ≤ s.mark b) → Effect s u a
    all : u.mark t ≡ 0 → ((b : ℕ) → StoppedBy d t b → u.mark b ≡ 0) → Effect s u a
    starts : (Ended a → ⊥) → Enters d t a → 0 < u.mark t → Effect s u a

  -- t is no boundary, and its stopping boundaries are boundaries of t alone
  task_bounds : (h : ℕ) → boundaries d h t ≡ false
  task_bounds h = rw task

  stop_bounds : {b : ℕ} → StoppedBy d t b → (h : ℕ) → boundaries d h b ≡ eqb t h
  stop_bounds on h = rw (on.stopping, on.host)

  neither : {m : ℕ} → (t ≡ m → ⊥) → (StoppedBy d t m → ⊥) → (m ≡ t) ⊎ StoppedBy d t m → ⊥
  neither x y (inl e) = x (sym e)
  neither x y (inr on) = y on

  -- a state has the effect of one that holds the same
  seen : {s u x : State} {a : Act} → Same d u x → Effect s x a → Effect s u a
  seen e (apart z x y) = apart z (e.marks t node ∙ x) (λ b on. omega (arith, e.marks b on.bound, y b on))
  seen e (all x y) = all (e.marks t node ∙ x) (λ b on. e.marks b on.bound ∙ y b on)
  seen e (starts z w x) = starts z w (omega (arith, e.marks t node))

  effect : {s u : State} {a : Act} → Step d s u a → Effect s u a
  effect (passes f c e) = seen e (apart (λ z. z) refl (λ b on. omega arith))
  effect (complete_plain m c p e) =
      let x : t ≡ m → ⊥ = λ q. p.no_task (ap (kind_of d) (sym q) ∙ task) in
      seen e (apart (neither x (λ on. p.no_stopping on.stopping)) (grind (arith, nat_tests)) (λ b on. grind (arith, nat_tests)))
  effect (complete_task m c k e) =
      elim (cases_eq t m) [
        | inl x ↦ seen e (all (rw (task_bounds m) (grind (arith, nat_tests))) (λ b on. rw (stop_bounds on m) (grind (arith, nat_tests))))
        | inr x ↦ seen e (apart (neither x (λ on. two_nodes d on.stopping k refl refl)) (rw (task_bounds m) (grind (arith, nat_tests))) (λ b on. grind (arith, nat_tests)))
      ]
  effect (complete_stopping m h c k w e) =
      let x = two_nodes d task k refl in
      elim (cases_eq t h) [
        | inl y ↦ seen e (all (rw (task_bounds h) (grind (arith, nat_tests))) (λ b on. rw (stop_bounds on h) (grind (arith, nat_tests))))
        | inr y ↦ seen e (apart (neither x (λ on. y (sym on.host ∙ w))) (rw (task_bounds h) (grind (arith, nat_tests))) (λ b on. grind (arith, nat_tests)))
      ]
  effect (complete_parallel m c k e) = seen e (apart (neither (two_nodes d task k refl) (λ on. two_nodes d on.stopping k refl refl)) refl (λ b on. omega arith))
  effect (enter_task i m c k e) =
      elim (cases_eq t m) [
        | inl x ↦ seen e (starts (λ z. z) (c.target ∙ sym x) (rw (task_bounds m) (grind (arith, nat_tests))))
        | inr x ↦ seen e (apart (λ z. z) (rw (task_bounds m) (grind (arith, nat_tests))) (λ b on. let y = two_nodes d on.stopping k refl in rw (stop_bounds on m) (grind (arith, nat_tests))))
      ]
  effect (enter_wait i m c k e) =
      let x = two_nodes d task k refl in
      seen e (apart (λ z. z) (grind (arith, nat_tests)) (λ b on. let y = two_nodes d on.stopping k refl in grind (arith, nat_tests)))
  effect (enter_end i m c k e) =
      let x = two_nodes d task k refl in
      seen e (apart (λ z. z) (grind (arith, nat_tests)) (λ b on. let y = two_nodes d on.stopping k refl in grind (arith, nat_tests)))
  effect (enter_terminate i m c k e) =
      let x = two_nodes d task k refl in
      seen e (all (grind (arith, nat_tests)) (λ b on. let y = two_nodes d on.stopping k refl in grind (arith, nat_tests)))
  effect (enter_exclusive i m c k o e) = seen e (apart (λ z. z) refl (λ b on. omega arith))
  effect (chooses i m j c k o l w e) = seen e (apart (λ z. z) refl (λ b on. omega arith))

  -- ## Once for each entry

  -- neither t nor a stopping boundary of it is marked
  record Quiet (s : State) : Type 0 where
    open_task : s.mark t ≡ 0
    bounds : (b : ℕ) → StoppedBy d t b → s.mark b ≡ 0

  -- what is quiet stays so, or t is entered
  quiet_on : {s u : State} {a : Act} → Step d s u a → Quiet s → Quiet u ⊎ Enters d t a
  quiet_on g q =
      elim (effect g) [
        | apart x y z ↦ inl (record { open_task = y ∙ q.open_task; bounds = λ b on. omega (arith, z b on, q.bounds b on) })
        | all x y ↦ inl (record { open_task = x; bounds = y })
        | starts x y z ↦ inr y
      ]

  quiet_after : {s u : State} {a : Act} → Step d s u a → Ends d t a → Quiet u
  quiet_after g e =
      elim (effect g) [
        | apart x y z ↦ absurd (x (ended e))
        | all x y ↦ record { open_task = x; bounds = y }
        | starts x y z ↦ absurd (x (ended e))
      ]

  -- a node that is not marked is not completed, unless it is a parallel gateway
  unmarked : {s : State} {n : ℕ} → s.mark n ≡ 0 → (kind_of d n ≡ kind.Parallel → ⊥) → Ready d s n → ⊥
  unmarked z h (due u) = omega (arith, u.0)
  unmarked z h (begun c m k) = omega arith
  unmarked z h (gathered c k g) = h k

  while_quiet : {s u : State} {a : Act} → Quiet s → Step d s u a → Ends d t a → ⊥
  while_quiet q g completed = unmarked q.open_task (λ k. two_nodes d task k refl refl) (possible d good g).may
  while_quiet q g (stopped b on) = unmarked (q.bounds b on) (λ k. two_nodes d on.stopping k refl refl) (possible d good g).may

  from_quiet : (s u : State) (before after : List Act) (y : Act) → Quiet s → Run d s (before ++ (y ∷ after)) u → Ends d t y → Entered d t before
  from_quiet s u [] after y q (goes g r) e = absurd (while_quiet q g e)
  from_quiet s u (a ∷ before) after y q (goes {t = v} g r) e =
      elim (quiet_on g q) [
        | inl w ↦ inr (from_quiet v u before after y w r e)
        | inr f ↦ inl f
      ]

  once : (s u : State) (before between after : List Act) (x y : Act) → Run d s (before ++ (x ∷ (between ++ (y ∷ after)))) u → Ends d t x → Ends d t y → Entered d t between
  once s u [] between after x y (goes {t = v} g r) e f = from_quiet v u between after y (quiet_after g e) r f
  once s u (a ∷ before) between after x y (goes {t = v} g r) e f = once v u before between after x y r e f

  quiet_start : {s : State} → Same d s (begins d) → Quiet s
  quiet_start h = record { open_task = h.marks t node ∙ rw task; bounds = λ b on. h.marks b on.bound ∙ rw on.stopping }

  -- a task has no timer
  never_due : (s : State) → Due d s t → ⊥
  never_due s u =
      let m : mode_of d t ≡ mode.Untimed = (decides_mode _ _).0 (rw task at (good.modes t node)) in
      (rw m at u).1

  module _ (b : ℕ) (on : StoppedBy d t b) where
    -- ## b is marked only while t is

    held_on : {s u : State} {a : Act} → Step d s u a → (0 < s.mark b → 0 < s.mark t) → 0 < u.mark b → 0 < u.mark t
    held_on {s} g h m =
        elim (effect g) [
          | apart x y z ↦ omega (arith, h (omega (arith, z b on)))
          | all x y ↦ absurd (omega (arith, y b on))
          | starts x y z ↦ z
        ]

    held : {s u : State} {acts : List Act} → Run d s acts u → (0 < s.mark b → 0 < s.mark t) → 0 < u.mark b → 0 < u.mark t
    held stays h = h
    held (goes g r) h = held r (held_on g h)

    -- ## b goes first once it is due

    first : (s : State) (a : Act) → Due d s b → Allowed d s a → (n : ℕ) × (a ≡ Complete n) × Due d s n
    first s Pass h m = absurd (m.0 b on.bound h)
    first s (Complete n) h (due u) = (n, refl, u)
    first s (Complete n) h (begun c m k) = absurd (c b on.bound h)
    first s (Complete n) h (gathered c k g) = absurd (c b on.bound h)
    first s (Enter e) h m = absurd (m.0 b on.bound h)
    first s (Choose e) h m = absurd (m.0 b on.bound h)

  pub stops : Stops d t
  stops = record {
    once = once;
    began = λ s u before after y h r e. from_quiet s u before after y (quiet_start h) r e;
    bound = λ b on s u acts h r. held b on r (λ m. absurd (omega (arith, (quiet_start h).bounds b on)));
    first = λ b on s u a h g. first b on s a h (possible d good g).may;
    not_task = λ b on s u h g.
        let p = first b on s (Complete t) h (possible d good g).may in
        let e : t ≡ p.0 = cc p.1 in
        never_due s (rw e p.2);
    fires = λ b on s f h. let c = completes d s b (record { node = on.bound; safe = f; ready = due h }) in (c.0, c.1 c.0 (same_refl d c.0));
  }
