use Rattle.std.proofs.Common.{◌<◌, length, ap, arith}
use Rattle.compiling.specs.Emit.{code_block}
use Rattle.drafts.specs.Drafts.{working_of}
use Rattle.layout.proofs.Holding.{holds_none, holds_row}
use Rattle.emission.specs.Emission.{register_in}
use Rattle.emission.proofs.lay_out.Goals as goal

pub loop-row-init : goal.loop-row-init
loop-row-init c = holds_none _ _ c.new-code.ensures.rows c.new-code.ensures.starts

pub loop-row-preserved : goal.loop-row-preserved
loop-row-preserved c =
    let rows = (working_of c.args.draft.now).rows in
    let items = c.rows-row-items.ensures in
    let here : c.loop-row.row-index < length rows = omega (arith, ap length items, c.loop-row-test.true) in
    holds_row (code_block (register_in c.args.draft.now)) rows c.loop-row.row-index _ here c.loop-row.invariant c.lay_block.ensures.starts (rw items at c.lay_block.ensures.rows)
