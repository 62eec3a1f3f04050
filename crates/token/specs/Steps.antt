-- What each node or edge does in a sweep, and what whole sweeps do, is tame.
use Rattle.std.specs.Prelude.{◌≡◌, ℕ, ◌+◌, ◌*◌, ◌&&◌, List, length, nat_eq, nat_lt, slice_index, slice_set, refl}
use Rattle.std.proofs.Common.{arith}
use Rattle.process.specs.Meaning.{Row}
use Rattle.token_tables.specs.declared.node.Node.{Node}
use Rattle.token_tables.specs.declared.edge.Edge.{Edge}
use Rattle.token_tables.specs.Kinds.{is_begin}
use Rattle.token.specs.Clocks.{is_after}
use Rattle.token.specs.Known.{RaisesNone}
use Rattle.token.specs.Rules.{up, down, clear, sweep, is_boundary_of, start_one, pass_one, give_one, take_one, disarm_one, arm_one}
use Rattle.token.specs.Tame.{Tame, tame_more, tame_none, tame_zero, tame_up, tame_down, tame_if, tame_both, tame_clear, tame_sweep, at_most_by}

module _ (w : ℕ) where
  -- a change that raises no cell raises none by more than one
  pub tame_by_one : (f : Row → Row) → Tame w 0 f → Tame w 1 f
  tame_by_one f t = tame_more w 0 1 f (omega arith) t

  tame_still : Tame w 1 (λ r. r)
  tame_still = tame_by_one (λ r. r) (tame_none w)

  pub start_tame : (i : ℕ) (x : Node) → Tame w 1 (start_one i x)
  start_tame i x = tame_if w 1 (λ r. is_begin x.kind) (λ r. up r i) (λ r. r) (tame_up w i) tame_still

  pub pass_tame : (n i : ℕ) (x : Node) → Tame w 1 (pass_one n i x)
  pass_tame n i x = tame_if w 1 (λ r. nat_lt 0 (slice_index r i) && is_after x) (λ r. up r (n + i)) (λ r. r) (tame_up w (n + i)) tame_still

  pub give_tame : (f m i : ℕ) (x : Edge) → Tame w 1 (give_one f m i x)
  give_tame f m i x = tame_if w 1 (λ r. nat_eq x.source m) (λ r. up r (f + i)) (λ r. r) (tame_up w (f + i)) tame_still

  pub take_tame : (f m i : ℕ) (x : Edge) → Tame w 0 (take_one f m i x)
  take_tame f m i x = tame_if w 0 (λ r. nat_eq x.target m) (λ r. down r (f + i)) (λ r. r) (tame_down w (f + i)) (tame_none w)

  pub disarm_tame : (n h i : ℕ) (x : Node) → Tame w 0 (disarm_one n h i x)
  disarm_tame n h i x = tame_if w 0 (λ r. is_boundary_of h x) (λ r. clear n r i) (λ r. r) (tame_clear w n i) (tame_none w)

  pub arm_tame : (n h i : ℕ) (x : Node) → Tame w 1 (arm_one n h i x)
  arm_tame n h i x =
      tame_if w 1 (λ r. is_boundary_of h x) (λ r. slice_set (up r i) (n + i) 0) (λ r. r)
      (tame_both w 1 0 (λ r. up r i) (λ r. slice_set r (n + i) 0) (tame_up w i) (tame_zero w (n + i))) tame_still

-- a sweep of changes that raise no cell raises none
pub sweep_low : {X : Type 0} (f : ℕ → X → Row → Row) → ((w i : ℕ) (x : X) → Tame w 0 (f i x)) → (xs : List X) (r s : Row) → s ≡ sweep f 0 xs r → RaisesNone r s
sweep_low f t xs r s e b h = at_most_by _ s (b + 0 * length xs) b e (omega arith) ((tame_sweep (length r) 0 f (t (length r)) 0 xs).low b r refl h)
