-- The items of a list of fixed room.
use Rattle.std.specs.Prelude.{ℕ, List, take}
use Rattle.fixed.specs.declared.fixed.Fixed.{Fixed}

abbrev pub items_of : {T : Type 0} {N : ℕ} → Fixed T N → List T
items_of f = take f.len f.array
