use Rattle.rewriting.proofs.Noting.{nothing_more}
use Rattle.rewriting.proofs.load.Goals as goal

pub returns-in_default-clause-rows : goal.returns-in_default-clause-rows
returns-in_default-clause-rows c = rw c.in_default.is (nothing_more 512 c.args.layout.now.rows c.args.layout.now.few.0)
