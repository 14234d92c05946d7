-- A walk over the members of a set.
use Rattle.std.specs.Prelude.{ℕ, ◌-◌, ◌*◌, List}
use Rattle.sets.specs.declared.Walk.{Walk}
use Rattle.sets.specs.Sets.{has}
use Rattle.sets.specs.Rising.{passing}
use Rattle.sets.specs.Words.{joined}

-- the members that are still to come
abbrev pub left_of : Walk → List ℕ
left_of m = passing (has (joined m.words)) (448 - 64 * m.at) (64 * m.at)
