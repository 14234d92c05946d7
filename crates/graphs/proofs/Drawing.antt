-- Pressure and the test ask a graph for its classes alone.
use Rattle.std.proofs.Common.{◌≡◌, ℕ, Bool}
use Rattle.registers.specs.Model.{Model}
use Rattle.rounds.specs.Interference.{Graph}
use Rattle.rounds.specs.Pressure.{pressure, passes}

pub pressure_alike : (m : Model) (g h : Graph) → g.classes ≡ h.classes → (v : ℕ) (t : ℕ → Bool) → pressure m g v t ≡ pressure m h v t
unfolding pressure
pressure_alike m g h e v t = rw e

pub passes_alike : (m : Model) (g h : Graph) → g.classes ≡ h.classes → (v : ℕ) (t : ℕ → Bool) → passes m g v t ≡ passes m h v t
unfolding passes
passes_alike m g h e v t = rw (pressure_alike m g h e v t, e)
