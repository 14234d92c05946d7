use Rattle.std.proofs.Common.{◌<◌, ◌≤◌, false, length, ◌∙◌, arith}
use Rattle.facts.specs.Flow.{rows, feeders, turns, sweep}
use Rattle.facts.proofs.Sweeping.{turns_length, turn_below, sweep_more, sweep_end}
use Rattle.facts.proofs.Solver.sweep.Goals as goal

pub visit-fresh-requires : goal.visit-fresh-requires
visit-fresh-requires g c =
    let f = g.K.WideFactKind.flow c.args.self.now.kind.now in
    let lt : c.loop-k.k < rows f = omega (arith, c.requires) in
    record { rows = omega (arith, c.requires); inside = omega (arith, c.requires, turn_below f c.loop-k.k c.turn-i.result lt c.turn-i.ensures) }

pub loop-k-preserved : goal.loop-k-preserved
loop-k-preserved g c =
    let f = g.K.WideFactKind.flow c.args.self.now.kind.now in
    let lt : c.loop-k.k < length (turns f) = omega (arith, c.requires, turns_length f) in
    sweep_more f (feeders f) (turns f) c.loop-k.facts c.visit-fresh.new.facts c.loop-k.altered c.visit-fresh.result c.loop-k.k c.turn-i.result
    lt c.turn-i.ensures c.visit-fresh.ensures.yielded c.visit-fresh.ensures.fresh ∙ c.loop-k.invariant

pub returns : goal.returns
returns g c =
    let f = g.K.WideFactKind.flow c.args.self.now.kind.now in
    let le : length (turns f) ≤ c.loop-k.k = omega (arith, c.requires, turns_length f) in
    let (kept, altered) = sweep_end f (feeders f) (turns f) c.loop-k.facts c.loop-k.altered c.loop-k.k
    (sweep f (feeders f) (turns f) c.args.facts.now false) le c.loop-k.invariant in
    record { visited = kept; fresh = altered }
