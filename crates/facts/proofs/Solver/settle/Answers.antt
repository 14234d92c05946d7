use Rattle.std.proofs.Common.{◌≡◌, ℕ, true, false, replicate, sym, ap, ap₂, ◌∙◌, subst, arith, rules}
use Rattle.facts.specs.Flow.{feeders, turns, sweep, solved}
use Rattle.facts.proofs.Sweeping.{Going, going_start, going_more, going_end, total, total_capped}
use Rattle.facts.proofs.Solver.settle.Goals as goal

pub loop-init : goal.loop-init
loop-init g c =
    let k = c.args.self.now.kind.now in
    let f = g.K.WideFactKind.flow k in
    let e = c.fill.ensures.after (search rules) ∙ ap₂ (λ (n x : ℕ). replicate n x) c.requires c.least.ensures in
    subst (Going f (g.K.WideFactKind.lawful k) (feeders f) (solved f)) (sym e) (going_start f (g.K.WideFactKind.lawful k))

pub loop-smaller : goal.loop-smaller
loop-smaller g c =
    let k = c.args.self.now.kind.now in
    let f = g.K.WideFactKind.flow k in
    let laws = g.K.WideFactKind.lawful k in
    let a : (sweep f (feeders f) (turns f) c.loop.facts false).altered ≡ true = sym c.sweep.ensures.fresh ∙ c.loop-test.true in
    let up = (going_more f laws (feeders f) (solved f) c.loop.facts c.loop.invariant a).1 in
    let e : total f laws (feeders f) c.sweep.new.facts ≡ total f laws (feeders f) (sweep f (feeders f) (turns f) c.loop.facts false).kept =
    ap (total f laws (feeders f)) c.sweep.ensures.visited in
    let cap = total_capped f laws (feeders f) c.sweep.new.facts in
    omega (arith, up, e, cap)

pub loop-preserved : goal.loop-preserved
loop-preserved g c =
    let k = c.args.self.now.kind.now in
    let f = g.K.WideFactKind.flow k in
    let laws = g.K.WideFactKind.lawful k in
    let a : (sweep f (feeders f) (turns f) c.loop.facts false).altered ≡ true = sym c.sweep.ensures.fresh ∙ c.loop-test.true in
    subst (Going f laws (feeders f) (solved f)) (sym c.sweep.ensures.visited) (going_more f laws (feeders f) (solved f) c.loop.facts c.loop.invariant a).0

pub returns : goal.returns
returns g c =
    let k = c.args.self.now.kind.now in
    let f = g.K.WideFactKind.flow k in
    let a : (sweep f (feeders f) (turns f) c.loop.facts false).altered ≡ false = sym c.sweep.ensures.fresh ∙ c.loop-test.false in
    c.sweep.ensures.visited ∙ going_end f (g.K.WideFactKind.lawful k) (feeders f) (solved f) c.loop.facts c.loop.invariant a
