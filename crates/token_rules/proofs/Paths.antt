-- The paths of the process are the runs of the rules.
use Rattle.std.proofs.Common.{ℕ, List, [], ◌∷◌, map, refl}
use Rattle.process.specs.Meaning.{Row, Path, stay, step}
use Rattle.token_tables.specs.Tables.{Drawing}
use Rattle.token_tables.specs.Good.{Good}
use Rattle.token.specs.declared.act.Act.{Act}
use Rattle.token.specs.Rules.{act_of, choice_of, meaning_of}
use Rattle.token_rules.specs.Relation.{State}
use Rattle.token_rules.specs.Showing.{state_of}
use Rattle.token_rules.specs.Runs.{Run, stays, goes, Followed, SameRuns}
use Rattle.token_rules.proofs.Shows.{Shows, shows_itself, same_sym}
use Rattle.token_rules.proofs.Numbers.{numbered}
use Rattle.token_rules.proofs.Agrees.{possible, makes}
use Rattle.token_rules.proofs.Exactly.{sound, complete}

module _ (d : Drawing) (good : Good d) where
  run_of : {r q : Row} {cs : List ℕ} → Path (meaning_of d) r cs q → Run d (state_of d r) (map (act_of d) cs) (state_of d q)
  run_of stay = stays
  run_of (step c l e p) = goes (sound d good _ _ c l e) (run_of p)

  follow : {s u : State} {acts : List Act} {r : Row} → Shows d r s → Run d s acts u → Followed d (meaning_of d) r acts u
  follow h stays = record { choices = []; row = _; path = stay; by = refl; same = same_sym d h.same }
  follow h (goes {a = a} g p) =
      let o = (possible d good g).of in
      let f = follow (makes d good h g) p in
      record {
        choices = choice_of d a ∷ f.choices;
        row = f.row;
        path = step (choice_of d a) ((numbered d).low a o) (complete d good a h g) f.path;
        by = rw ((numbered d).back a o, f.by);
        same = f.same;
      }

  pub same_runs : SameRuns d (meaning_of d)
  same_runs = record { sound = λ r q cs p. run_of p; complete = λ r u acts w p. follow (shows_itself d r w) p }
