use Rattle.std.proofs.Common.{ap, ◌∙◌, arith}
use Rattle.sets.specs.Words.{members, sets_of}
use Rattle.coalescing.proofs.Contracting.{empty_none, near_from}
use Rattle.coalescing.proofs.pair.Pair.beside.Goals as goal

pub returns : goal.returns
returns c =
    let p = c.args.self in
    near_from p.low p.high (sets_of c.args.edges.now) (members c.beside.result) (members c.beside-2.result) (members c.union.result) (members c.empty.result) (members c.with.result) (members c.with-2.result) (members c.minus.result)
    (omega (arith, p.two, p.inside)) p.inside c.beside.ensures c.beside-2.ensures c.union.ensures (ap members c.empty.ensures ∙ empty_none) c.with.ensures c.with-2.ensures c.minus.ensures
