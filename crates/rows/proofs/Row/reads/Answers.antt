use Rattle.std.proofs.Common.{◌∙◌}
use Rattle.rows.proofs.Fields.{read}
use Rattle.rows.proofs.Row.reads.Goals as goal

pub returns : goal.returns
returns c = c.with-2.ensures ∙ rw (c.with.ensures, c.first_read.ensures, c.second_read.ensures) (read c.args.self _ c.empty.ensures)
