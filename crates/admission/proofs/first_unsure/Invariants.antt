use Rattle.std.proofs.Common.{◌≡◌, ℕ, ◌<◌, false, not}
use Rattle.admission.specs.Kinds.{sure}
use Rattle.admission.proofs.first_unsure.Given as goal

abbrev pub invariant-loop-i : goal.invariant-loop-i
invariant-loop-i l = (k : ℕ) → k < l.i → not (sure l.fn.vars l.fn.graph.rows.now k) ≡ false
