-- What good tables are, whatever the order in which one looks.
use Rattle.std.specs.Prelude.{◌≡◌, ℕ, ◌<◌, ◌≤◌, true, false}
use Rattle.token_tables.specs.declared.kind.Kind.TheVariants as kind
use Rattle.token_tables.specs.Kinds.{is_begin, is_boundary}
use Rattle.token_tables.specs.Tables.{Drawing, n_of, e_of, kind_of, host_of, mode_of, amount_of, source_of, target_of, incoming, outgoing}
use Rattle.token_tables.specs.Examination.{mode_fits, amount_fits, counts_fit}

pub record Good (d : Drawing) : Type 0 where
  pub some : 1 ≤ n_of d
  pub few : n_of d ≤ 64
  pub thin : e_of d ≤ 128
  pub modes : (n : ℕ) → n < n_of d → mode_fits (kind_of d n) (mode_of d n) ≡ true
  pub amounts : (n : ℕ) → n < n_of d → amount_fits (mode_of d n) (amount_of d n) ≡ true
  -- the host of a boundary is a task, and any other host is 0
  pub hosts : (n : ℕ) → n < n_of d → is_boundary (kind_of d n) ≡ true → host_of d n < n_of d
  pub tasks : (n : ℕ) → n < n_of d → is_boundary (kind_of d n) ≡ true → kind_of d (host_of d n) ≡ kind.Task
  pub hostless : (n : ℕ) → n < n_of d → is_boundary (kind_of d n) ≡ false → host_of d n ≡ 0
  pub sources : (e : ℕ) → e < e_of d → source_of d e < n_of d
  pub targets : (e : ℕ) → e < e_of d → target_of d e < n_of d
  pub counts : (n : ℕ) → n < n_of d → counts_fit (kind_of d n) (incoming d n) (outgoing d n) ≡ true
  pub start : (n : ℕ) × (n < n_of d) × (is_begin (kind_of d n) ≡ true)
