use Rattle.std.proofs.Common.{◌≡◌, get_or, rules}
use Rattle.sets.specs.Words.{joined}
use Rattle.graphs.proofs.beside.Goals as goal

pub returns : goal.returns
unfolding joined
returns c = let e : c.unwrap_or.result ≡ get_or c.args.edges.now c.args.v 0 = search rules in e
