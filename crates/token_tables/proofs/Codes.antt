-- Kinds and modes are told apart by their codes.
use Rattle.std.proofs.Common.{◌≡◌, ℕ, ◌+◌, ◌-◌, cond, ltb, Decides, sym, refl, ap, ◌∙◌, arith}
use Rattle.std.proofs.lemmas.Bool.{eq-eqb, eqb-true, le-ltb, cond-false}
use Rattle.token_tables.specs.declared.kind.Kind.{Kind}
use Rattle.token_tables.specs.declared.kind.Kind.TheVariants as kind
use Rattle.token_tables.specs.declared.mode.Mode.{Mode}
use Rattle.token_tables.specs.declared.mode.Mode.TheVariants as mode
use Rattle.token_tables.specs.Kinds.{code, same_kind, kind_numbered, mode_code, same_mode, mode_numbered}

-- the kind of a code
abbrev kind_coded : ℕ → Kind
kind_coded n = cond (ltb n 10) (kind_numbered n) (kind.Other (n - 10))

kind_code : (k : Kind) → kind_coded (code k) ≡ k
kind_code kind.Start = refl
kind_code kind.TimedStart = refl
kind_code kind.Task = refl
kind_code kind.Exclusive = refl
kind_code kind.Parallel = refl
kind_code kind.Wait = refl
kind_code kind.Stopping = refl
kind_code kind.Side = refl
kind_code kind.End = refl
kind_code kind.Terminate = refl
kind_code (kind.Other number) = cond-false _ _ _ (le-ltb (number + 10) 10 (omega arith)) ∙ ap kind.Other (omega arith)

pub decides_kind : (j k : Kind) → Decides (same_kind j k) (j ≡ k)
decides_kind j k = (λ h. sym (kind_code j) ∙ ap kind_coded (eqb-true (code j) (code k) h) ∙ kind_code k, λ e. eq-eqb _ _ (ap code e))

-- the mode of a code
abbrev mode_coded : ℕ → Mode
mode_coded n = cond (ltb n 3) (mode_numbered n) (mode.Other (n - 3))

mode_code_of : (m : Mode) → mode_coded (mode_code m) ≡ m
mode_code_of mode.Untimed = refl
mode_code_of mode.At = refl
mode_code_of mode.After = refl
mode_code_of (mode.Other number) = cond-false _ _ _ (le-ltb (number + 3) 3 (omega arith)) ∙ ap mode.Other (omega arith)

pub decides_mode : (j k : Mode) → Decides (same_mode j k) (j ≡ k)
decides_mode j k = (λ h. sym (mode_code_of j) ∙ ap mode_coded (eqb-true (mode_code j) (mode_code k) h) ∙ mode_code_of k, λ e. eq-eqb _ _ (ap mode_code e))
