-- What a console tells a person of a drawing.
use Rattle.std.specs.Prelude.{ℕ, ◌-◌, Bool, cond, ◌&&◌, length, Some, None, Option, ◌==◌, nat_lt}
use Rattle.process.specs.Meaning.{Row}
use Rattle.token_tables.specs.Tables.{Drawing, n_of, e_of}
use Rattle.token.specs.declared.act.Act.{Act}
use Rattle.token.specs.declared.act.Act.TheVariants.{Pass, Complete, Enter, Choose}
use Rattle.token.specs.declared.place.Place.{Place}
use Rattle.token.specs.declared.place.Place.TheVariants.{Mark, Clock, Flow, Day}
use Rattle.token.specs.Rows.{f_of, day_of, width_of}
use Rattle.token.specs.Rules.{choices_of, act_of, choice_of, is_due}

-- the act of a choice that there is
abbrev pub act_at : Drawing → ℕ → Option Act
act_at d c = cond (nat_lt c (choices_of d)) (Some (act_of d c)) None

-- the choice of an act at a node or an edge that there is
abbrev pub choice_at : Drawing → Act → Option ℕ
choice_at d Pass = Some (choice_of d Pass)
choice_at d (Complete n) = cond (nat_lt n (n_of d)) (Some (choice_of d (Complete n))) None
choice_at d (Enter e) = cond (nat_lt e (e_of d)) (Some (choice_of d (Enter e))) None
choice_at d (Choose e) = cond (nat_lt e (e_of d)) (Some (choice_of d (Choose e))) None

-- what cell k of a row is
abbrev pub place_at : Drawing → ℕ → Option Place
place_at d k =
    cond (nat_lt k (n_of d)) (Some (Mark k))
    (cond (nat_lt k (f_of d)) (Some (Clock (k - n_of d)))
    (cond (nat_lt k (day_of d)) (Some (Flow (k - f_of d)))
    (cond (k == day_of d) (Some Day) None)))

-- node n is due at a row of the width
abbrev pub due_at : Drawing → Row → ℕ → Bool
due_at d r n = (length r == width_of d && nat_lt n (n_of d)) && is_due d r n
