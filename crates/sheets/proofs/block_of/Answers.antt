use Rattle.std.proofs.Common.{◌∙◌}
use Rattle.sheets.specs.Blocks.{block_at}
use Rattle.sheets.proofs.block_of.Goals as goal

pub returns : goal.returns
returns c =
    c.block.ensures ∙ (λ i. let p = c.of.ensures i in block_at p.row p.d p.a p.b c.args.code.now)
