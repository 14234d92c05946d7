-- Pressure and the test.
use Rattle.std.specs.Prelude.{ℕ, Bool, cond, length, nat_lt}
use Rattle.counting.specs.Counting.{sum}
use Rattle.registers.specs.Model.{Model}
use Rattle.rounds.specs.Interference.{Graph, class_at}

-- the pressure on node v by the nodes that pass t: for each the most registers of v's class that one of its class overlaps
unfoldable pub pressure : Model → Graph → ℕ → (ℕ → Bool) → ℕ
unfolding sum
pressure m g v t =
    let b = class_at g v in
    sum (λ k. let x = m.q b (class_at g k) in cond (t k) x 0) (length g.classes)

-- the test: the pressure is less than the number of registers of the class
unfoldable pub passes : Model → Graph → ℕ → (ℕ → Bool) → Bool
unfolding pressure
passes m g v t = nat_lt (pressure m g v t) (m.p (class_at g v))
