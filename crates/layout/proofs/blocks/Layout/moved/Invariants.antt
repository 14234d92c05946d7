use Rattle.std.proofs.Common.{◌≡◌, map, take}
use Rattle.compiling.specs.Blocks.{moved}
use Rattle.layout.proofs.blocks.Layout.moved.Given as goal

abbrev pub invariant-loop-row : goal.invariant-loop-row
invariant-loop-row l = l.moved ≡ map (moved l.self.starts) (take l.row-index l.self.rows)
