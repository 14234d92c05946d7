use Rattle.std.proofs.Common.{◌≡◌, ◌∙◌, arith}
use Rattle.counting.specs.Counting.{range}
use Rattle.layout.proofs.Lists.{filled_push, filled_length}
use Rattle.emission.specs.Emission.{place_after}
use Rattle.emission.proofs.places_of.Goals as goal

pub loop-v-init : goal.loop-v-init
unfolding range
loop-v-init c = c.new-places.ensures

pub loop-v-preserved : goal.loop-v-preserved
loop-v-preserved c =
    let d = c.args.draft.now in
    filled_push 64 (place_after d c.args.end.now) c.loop-v.v (omega (arith, d.source.few)) c.loop-v.invariant c.place_of.ensures c.push.ensures.items

pub returns-clause-size : goal.returns-clause-size
returns-clause-size c =
    let d = c.args.draft.now in
    let all : c.loop-v.v ≡ d.source.vars = omega arith in
    filled_length (place_after d c.args.end.now) c.loop-v.v c.loop-v.invariant ∙ all
