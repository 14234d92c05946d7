use Rattle.std.proofs.Common.{◌<◌, length, ap, arith}
use Rattle.compiling.specs.Blocks.{moved}
use Rattle.layout.proofs.Lists.{mapped_push}
use Rattle.layout.proofs.blocks.Layout.moved.Goals as goal

pub loop-row-preserved : goal.loop-row-preserved
loop-row-preserved c =
    let rows = c.args.self.now.rows in
    let items = c.as_slice-row-items.ensures.items in
    let here : c.loop-row.row-index < length rows = omega (arith, ap length items, c.loop-row-test.true) in
    mapped_push 512 (moved c.args.self.now.starts) rows c.loop-row.row-index _ c.as_slice-row-items.ensures.fits here c.loop-row.invariant (rw items at c.moved_row.ensures) c.push.ensures.items
