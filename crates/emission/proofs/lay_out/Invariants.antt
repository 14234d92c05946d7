use Rattle.std.proofs.Common.{map, take}
use Rattle.compiling.specs.Emit.{code_block}
use Rattle.drafts.specs.Drafts.{working_of}
use Rattle.layout.specs.Layouts.{Holds}
use Rattle.emission.specs.Emission.{register_in}
use Rattle.emission.proofs.lay_out.Given as goal

abbrev pub invariant-loop-row : goal.invariant-loop-row
invariant-loop-row l = Holds l.code.rows l.code.starts (map (code_block (register_in l.draft)) (take l.row-index (working_of l.draft).rows))
