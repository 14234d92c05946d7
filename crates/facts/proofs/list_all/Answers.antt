use Rattle.std.proofs.Common.{min, length, arith}
use Rattle.facts.proofs.Memory.{partly_none, partly_more, partly_all}
use Rattle.facts.proofs.list_all.Goals as goal

pub loop-j-init : goal.loop-j-init
loop-j-init g c =
    let sets = c.args.sets.now in
    rw c.clear.ensures (partly_none (g.K.WideFactKind.flow c.args.kind.now).next sets (min (length sets) (length sets)) (omega arith))

pub loop-j-preserved : goal.loop-j-preserved
loop-j-preserved g c =
    partly_more (g.K.WideFactKind.flow c.args.kind.now).next c.loop-j.j c.loop-j.sets c.list_ways.new.sets (omega arith) c.loop-j.invariant c.list_ways.ensures

pub returns : goal.returns
returns g c =
    partly_all (g.K.WideFactKind.flow c.args.kind.now).next c.loop-j.j c.loop-j.sets (omega arith) (omega arith) c.loop-j.invariant
