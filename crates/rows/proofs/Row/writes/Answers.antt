use Rattle.std.proofs.Common.{◌∙◌}
use Rattle.rows.proofs.Fields.{wrote}
use Rattle.rows.proofs.Row.writes.Goals as goal

pub returns : goal.returns
returns c = c.with.ensures ∙ rw c.written.ensures (wrote c.args.self _ c.empty.ensures)
