use Rattle.std.proofs.Common.{◌≡◌, map, length, take}
use Rattle.counting.specs.Counting.{range}
use Rattle.rewriting.specs.Orders.{node_in, slot_below}
use Rattle.rewriting.proofs.Round.slots.Given as goal

abbrev pub invariant-loop-v : goal.invariant-loop-v
invariant-loop-v l = (take l.v l.slots ≡ map (λ v. slot_below l.self.draft.now l.self.end.now (node_in l.self.draft.now l.self.end.now v)) (range l.v 0)) × (length l.slots ≡ 64)
