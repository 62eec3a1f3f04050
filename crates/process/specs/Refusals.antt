-- The operator's refusals: the number and the place of each.
use Rattle.std.specs.Prelude.{ℕ}
use Rattle.process.specs.declared.refusal.Refusal.{Refusal}
use Rattle.process.specs.declared.refusal.Refusal.TheVariants.{WrongLength, NoSuchChoice, NotAllowed}

abbrev pub number_of : Refusal → ℕ
number_of WrongLength = 20
number_of NoSuchChoice = 21
number_of NotAllowed = 22

abbrev pub place_of : Refusal → ℕ
place_of WrongLength = 0
place_of NoSuchChoice = 0
place_of NotAllowed = 0
