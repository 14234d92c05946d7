use Rattle.std.proofs.Common.{◌≡◌, ℕ, ◌&&◌, eqb, ltb, get_or}
use Rattle.sets.specs.Sets.{has}
use Rattle.sets.specs.Words.{members}
use Rattle.graphs.proofs.mask.Given as goal

abbrev pub invariant-loop-k : goal.invariant-loop-k
invariant-loop-k l = (j : ℕ) → has (members l.set) j ≡ (ltb j l.k && eqb (get_or l.classes j 0) l.class)
