use Rattle.std.proofs.Common.{◌≡◌}
use Rattle.coalescing.specs.Pairs.{moved}
use Rattle.coalescing.proofs.Lists.{mapped}
use Rattle.coalescing.proofs.merged.Merged.after.Given as goal

abbrev pub invariant-loop-v : goal.invariant-loop-v
invariant-loop-v l = l.v-items ≡ mapped (moved l.pair.low l.pair.high) l.v-index l.initial.v-items
