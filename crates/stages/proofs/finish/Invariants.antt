use Rattle.std.proofs.Common.{◌≡◌, ℕ, List, replicate}
use Rattle.admission.specs.Memory.{parts}
use Rattle.allocation.specs.Allocation.{afterwards}
use Rattle.assembling.specs.Rounds.{unplaced}
use Rattle.histories.specs.Histories.{Grown}
use Rattle.stages.specs.Stages.{working_in}
use Rattle.stages.proofs.finish.Given as goal

abbrev pub invariant-loop-r : goal.invariant-loop-r
invariant-loop-r g l =
    ((n : ℕ) (bs : List ℕ) → Grown (replicate n (g.F.RegisterFile.model l.chip)) bs (working_in l.initial.a.record.now) → (k : ℕ) × Grown (replicate k (g.F.RegisterFile.model l.chip)) bs (working_in l.a.record.now))
    × (afterwards (parts l.first l.second l.third) ≡ afterwards (parts l.initial.first l.initial.second l.initial.third))

abbrev pub decreases-loop-r : goal.decreases-loop-r
decreases-loop-r g l = unplaced (working_in l.a.record.now)
