-- What is known of a drawing whose tables are good.
use Rattle.std.proofs.Common.{◌≡◌, ℕ, ◌≤◌, true, false, List, length, get_or, All, ◌<◌, refl, subst, inl, inr, arith}
use Rattle.std.proofs.lemmas.List.{get_or_default}
use Rattle.std.proofs.lemmas.Bool.{cases_Bool, eqb-true, leb-true, both_ways}
use Rattle.token_tables.specs.declared.node.Node.{Node}
use Rattle.token_tables.specs.declared.edge.Edge.{Edge}
use Rattle.token_tables.specs.declared.mode.Mode.{Mode}
use Rattle.token_tables.specs.declared.mode.Mode.TheVariants as mode
use Rattle.token_tables.specs.Kinds.{is_boundary}
use Rattle.token_tables.specs.Tables.{no_node, no_edge}
use Rattle.token_tables.specs.Examination.{amount_fits}
use Rattle.token_tables.specs.Good.{Good}
use Rattle.token.specs.Known.{Known}

amount_low : (m : Mode) (a : ℕ) → amount_fits m a ≡ true → a ≤ 9999
amount_low mode.Untimed a h = omega (arith, eqb-true a 0 h)
amount_low mode.At a h = leb-true a 9999 h
amount_low mode.After a h = leb-true a 9999 h
amount_low (mode.Other number) a h = absurd (both_ways false refl h)

-- what holds at each place of a list holds of each element
all_at : {X : Type 0} (P : X → Type 0) (z : X) (xs : List X) → ((k : ℕ) → k < length xs → P (get_or xs k z)) → All P xs
all_at P z xs h k d l = subst P (get_or_default xs k z d l) (h k l)

pub known : (ns : List Node) (es : List Edge) → Good (record { nodes = ns; edges = es }) → Known ns es
known ns es g = record {
  few = g.few;
  thin = g.thin;
  amounts = all_at (λ (x : Node). x.amount ≤ 9999) no_node ns (λ k l. amount_low (get_or ns k no_node).mode (get_or ns k no_node).amount (g.amounts k l));
  hosts = all_at (λ (x : Node). x.host < length ns) no_node ns (λ k l. elim (cases_Bool (is_boundary (get_or ns k no_node).kind)) [
    | inl b ↦ g.hosts k l b
    | inr b ↦ omega (arith, g.hostless k l b, g.some)
  ]);
  sources = all_at (λ (x : Edge). x.source < length ns) no_edge es g.sources;
  targets = all_at (λ (x : Edge). x.target < length ns) no_edge es g.targets;
}
