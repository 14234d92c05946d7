use Rattle.std.proofs.Common.{◌≡◌, map, length, take}
use Rattle.emission.specs.Emission.{node_register}
use Rattle.emission.proofs.registers_of.Given as goal

abbrev pub invariant-loop-node : goal.invariant-loop-node
invariant-loop-node l = l.registers ≡ map (node_register l.draft l.end) (take l.node-index (take (length l.draft.classes) l.end.node))
