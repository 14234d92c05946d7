use Rattle.std.proofs.Common.{sym, ◌∙◌}
use Rattle.emission.specs.Emission.{register_in}
use Rattle.emission.proofs.Coding.{block_idle}
use Rattle.emission.proofs.lay_block.Goals as goal

pub returns-else-not-is_idle : goal.returns-else-not-is_idle
returns-else-not-is_idle c =
    record {
      rows = block_idle (register_in c.args.draft.now) c.args.row _ _ (sym c.is_idle.ensures ∙ c.if-not-is_idle.false) c.args.code.now.few.0 c.open.ensures.rows;
      starts = c.open.ensures.starts;
    }
