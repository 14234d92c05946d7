-- What the code keeps of a graph while nodes are removed.
use Rattle.std.specs.Prelude.{◌≡◌, ℕ, ◌&&◌, length, nat_lt}
use Rattle.sets.specs.Sets.{has}
use Rattle.registers.specs.Model.{Model}
use Rattle.rounds.specs.Interference.{Graph}
use Rattle.rounds.specs.Simplify.{removable}

-- the light nodes are those of the left ones that pass the test
abbrev pub Light : Model → Graph → ℕ → ℕ → Type 0
Light m g left light = (k : ℕ) → has light k ≡ (nat_lt k (length g.classes) && removable m g left k)
