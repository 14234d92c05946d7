use Rattle.std.proofs.Common.{sym}
use Rattle.admission.proofs.Ways.{nexts_length}
use Rattle.admission.proofs.graph.Graph.len.Goals as goal

pub returns : goal.returns
returns c = sym (nexts_length 0 c.args.self.now.rows.now)
