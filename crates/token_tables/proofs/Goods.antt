-- Tables have no fault just if they are good.
use Rattle.std.proofs.Common.{◌≡◌, ℕ, ◌<◌, ◌≤◌, Bool, true, false, cond, leb, List, length, get_or, Decides, refl, ap, ◌∙◌}
use Rattle.std.proofs.lemmas.List.{get_or_default}
use Rattle.std.proofs.lemmas.List.Folds.{Any-from_list_any, list_any_at}
use Rattle.std.proofs.lemmas.Bool.{leb-true, le-leb, both_ways}
use Rattle.std.proofs.lemmas.Bool.Decides.{Decides-and, Decides-ltb, Decides-eqb, Decides-like}
use Rattle.process.specs.Outcomes.{gave}
use Rattle.process.proofs.Every.{decides_then, decides_test, decides_only, decides_faultless}
use Rattle.token_tables.specs.declared.node.Node.{Node}
use Rattle.token_tables.specs.declared.edge.Edge.{Edge}
use Rattle.token_tables.specs.declared.kind.Kind.TheVariants as kind
use Rattle.token_tables.specs.Kinds.{is_begin, is_boundary}
use Rattle.token_tables.specs.Tables.{no_node, no_edge, has_start, entering, leaving}
use Rattle.token_tables.specs.Examination.{mode_fits, amount_fits, host_fits, counts_fit, node_fault, edge_fault, count_fault, examined}
use Rattle.token_tables.specs.Good.{Good}
use Rattle.token_tables.proofs.Codes.{decides_kind}

pub decides_leb : (a b : ℕ) → Decides (leb a b) (a ≤ b)
decides_leb a b = (leb-true a b, le-leb a b)

decides_itself : (b : Bool) → Decides b (b ≡ true)
decides_itself b = (λ h. h, λ h. h)

-- one test or another
decides_cond : (b x y : Bool) {P Q : Type 0} → Decides x P → Decides y Q → Decides (cond b x y) ((b ≡ true → P) × (b ≡ false → Q))
decides_cond true x y p q = (λ h. (λ e. p.0 h, λ e. absurd (both_ways true e refl)), λ h. p.1 (h.0 refl))
decides_cond false x y p q = (λ h. (λ e. absurd (both_ways false refl e), λ e. q.0 h), λ h. q.1 (h.1 refl))

decides_start : (ns : List Node) → Decides (has_start ns) ((n : ℕ) × (n < length ns) × (is_begin (get_or ns n no_node).kind ≡ true))
decides_start ns = (
  λ h. let some = Any-from_list_any (λ (x : Node). is_begin x.kind) ns h in (some.0, some.2, ap (λ (x : Node). is_begin x.kind) (get_or_default ns some.0 no_node some.1 some.2 ∙ some.3) ∙ some.4),
  λ h. list_any_at (λ (x : Node). is_begin x.kind) ns h.0 no_node h.1 h.2,
)

module _ (ns : List Node) (es : List Edge) where
  -- what is asked of each node by itself, of each edge, and of each node by its edges
  record Alone (x : Node) : Type 0 where
    mode : mode_fits x.kind x.mode ≡ true
    amount : amount_fits x.mode x.amount ≡ true
    host : is_boundary x.kind ≡ true → (x.host < length ns) × ((get_or ns x.host no_node).kind ≡ kind.Task)
    hostless : is_boundary x.kind ≡ false → x.host ≡ 0

  decides_node : (i : ℕ) (x : Node) → Decides (gave (node_fault ns i x)) (Alone x)
  decides_node i x =
      Decides-like _
      (λ h. record { mode = h.0.0; amount = h.0.1; host = h.1.0; hostless = h.1.1 })
      (λ a. ((a.mode, a.amount), (a.host, a.hostless)))
      (decides_test _ _ 2 i
      (Decides-and _ _ (decides_itself (mode_fits x.kind x.mode)) (decides_itself (amount_fits x.mode x.amount)))
      (decides_only (host_fits ns x) 3 i
      (decides_cond (is_boundary x.kind) _ _
      (Decides-and _ _ (Decides-ltb x.host (length ns)) (decides_kind (get_or ns x.host no_node).kind kind.Task))
      (Decides-eqb x.host 0))))

  decides_edge : (i : ℕ) (x : Edge) → Decides (gave (edge_fault (length ns) i x)) ((x.source < length ns) × (x.target < length ns))
  decides_edge i x = decides_only _ 4 i (Decides-and _ _ (Decides-ltb x.source (length ns)) (Decides-ltb x.target (length ns)))

  decides_count : (i : ℕ) (x : Node) → Decides (gave (count_fault es i x)) (counts_fit x.kind (entering i es) (leaving i es) ≡ true)
  decides_count i x = decides_only _ 5 i (decides_itself (counts_fit x.kind (entering i es) (leaving i es)))

  pub decides_good : Decides (gave (examined ns es)) (Good (record { nodes = ns; edges = es }))
  decides_good =
      Decides-like _
      (λ h. record {
        some = h.0.0;
        few = h.0.1.0;
        thin = h.0.1.1;
        modes = λ n l. (h.1.0 n l).mode;
        amounts = λ n l. (h.1.0 n l).amount;
        hosts = λ n l b. ((h.1.0 n l).host b).0;
        tasks = λ n l b. ((h.1.0 n l).host b).1;
        hostless = λ n l. (h.1.0 n l).hostless;
        sources = λ e l. (h.1.1.0 e l).0;
        targets = λ e l. (h.1.1.0 e l).1;
        counts = h.1.1.1.0;
        start = h.1.1.1.1;
      })
      (λ g. (
        (g.some, (g.few, g.thin)),
        (
          λ n l. record { mode = g.modes n l; amount = g.amounts n l; host = λ b. (g.hosts n l b, g.tasks n l b); hostless = g.hostless n l },
          (λ e l. (g.sources e l, g.targets e l), (g.counts, g.start)),
        ),
      ))
      (decides_test _ _ 1 0
      (Decides-and _ _ (decides_leb 1 (length ns)) (Decides-and _ _ (decides_leb (length ns) 64) (decides_leb (length es) 128)))
      (decides_then _ _ (decides_faultless (node_fault ns) _ decides_node no_node ns)
      (decides_then _ _ (decides_faultless (edge_fault (length ns)) _ decides_edge no_edge es)
      (decides_then _ _ (decides_faultless (count_fault es) _ decides_count no_node ns) (decides_only (has_start ns) 6 0 (decides_start ns))))))

pub good : (ns : List Node) (es : List Edge) → gave (examined ns es) ≡ true → Good (record { nodes = ns; edges = es })
good ns es = (decides_good ns es).0
