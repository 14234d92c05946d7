use Rattle.std.proofs.Common.{◌≡◌, ℕ, ◌-◌, ◌*◌, ◌<◌, min, get_or}
use Rattle.sets.specs.Sets.{up_to}
use Rattle.sets.proofs.NodeSet.up_to.Given as goal

abbrev pub invariant-loop-i : goal.invariant-loop-i
invariant-loop-i l = (k : ℕ) → k < l.i → get_or l.w-items k 0 ≡ up_to (min (l.n - 64 * k) 64)
