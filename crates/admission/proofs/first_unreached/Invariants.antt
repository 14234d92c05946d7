use Rattle.std.proofs.Common.{◌≡◌, ℕ, ◌<◌, false, not}
use Rattle.admission.specs.Kinds.{reached}
use Rattle.admission.proofs.first_unreached.Given as goal

abbrev pub invariant-loop-i : goal.invariant-loop-i
invariant-loop-i l = (k : ℕ) → k < l.i → not (reached l.fn.graph.rows.now k) ≡ false
