-- Paths of choices.
use Rattle.std.proofs.Common.{◌≡◌, ℕ, List, ◌∷◌, ◌++◌, Some, refl, subst}
use Rattle.process.specs.Meaning.{Meaning, Row, Reachable, by_choice, Path, stay, step}

-- one path after the other
pub path_join : {m : Meaning} {r s t : Row} {cs ds : List ℕ} → Path m r cs s → Path m s ds t → Path m r (cs ++ ds) t
path_join stay q = q
path_join (step c h e p) q = step c h e (path_join p q)

pub path_reach : {m : Meaning} {r s : Row} {cs : List ℕ} → Reachable m r → Path m r cs s → Reachable m s
path_reach q stay = q
path_reach q (step c h e p) = path_reach (by_choice c q h e) p

-- choices lead to one row at most
pub path_one : {m : Meaning} {r s t : Row} {cs : List ℕ} → Path m r cs s → Path m r cs t → s ≡ t
path_one stay stay = refl
path_one {m} {r} {s} {t} {cs} (step {s = x} {cs = ds} c h e p) q = other m r x t c ds e q (path_one p)
  where
    other : (m : Meaning) (r x t : Row) (c : ℕ) (ds : List ℕ) → m.next r c ≡ Some x → Path m r (c ∷ ds) t → {s : Row} → (Path m x ds t → s ≡ t) → s ≡ t
    other m r x t c ds e (step {s = y} d k f q) g = let same : y ≡ x = cc in g (subst (λ (z : Row). Path m z ds t) same q)
