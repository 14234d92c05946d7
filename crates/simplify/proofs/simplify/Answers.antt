use Rattle.std.proofs.Common.{◌≡◌, ℕ, ◌+◌, List, map, length, take, sym, ap, ◌∙◌, ap₂, arith}
use Rattle.counting.specs.Counting.{range}
use Rattle.sets.specs.Sets.{meet, size}
use Rattle.sets.specs.Words.{members}
use Rattle.sets.proofs.Orders.{size_capped}
use Rattle.rounds.specs.Interference.{Graph}
use Rattle.rounds.specs.Simplify.{cost, next_removed, removals}
use Rattle.graphs.specs.Graphs.{drawn}
use Rattle.graphs.specs.declared.variables.Variables.{Variables}
use Rattle.simplify.proofs.Costs.{table_is}
use Rattle.simplify.proofs.Orders.{drawn_length, nodes_count, order_more, order_done}
use Rattle.simplify.proofs.simplify.Goals as goal

pub push-requires : goal.push-requires
push-requires g c = omega (arith, c.loop-i.invariant.0, c.loop-i-test.true, c.len-count.ensures, size_capped 448 (members c.meet.result))

pub loop-i-preserved : goal.loop-i-preserved
loop-i-preserved g c =
    let m = g.F.RegisterFile.model c.args.weighing.file.now in
    let gr : Graph = drawn c.args.weighing in
    let now = c.loop-i.removing in
    let next = c.next_removed-next.result in
    let chosen : next ≡ next_removed m gr c.begin-removing.result.costs.now (members now.left) =
    c.next_removed-next.ensures ∙ ap₂ (λ w cs. next_removed (g.F.RegisterFile.model w.file.now) (drawn w) cs.now (members now.left)) c.loop-i.invariant.1 c.loop-i.invariant.2 in (
      omega (arith, c.push.ensures.0, c.loop-i.invariant.0),
      c.without-removing.ensures.0 ∙ c.loop-i.invariant.1,
      c.without-removing.ensures.1 ∙ c.loop-i.invariant.2,
      order_more m gr c.begin-removing.result.costs.now (take c.loop-i.removals.count c.loop-i.removals.order) (take c.push.new.self.count c.push.new.self.order) _ c.loop-i.i c.len-count.result (members now.left)
          (members c.without-removing.result.left) next c.loop-i-test.true c.push.ensures.1 chosen c.without-removing.ensures.2 c.loop-i.invariant.3,
    )

pub returns : goal.returns
returns g c = λ gr ec en eo ee.
    let m = g.F.RegisterFile.model c.args.weighing.file.now in
    let vs : Variables = c.args.weighing.variables.now in
    let rows = c.args.lines.rows.now in
    let nodes = members c.args.nodes in
    let table : List ℕ = c.costs_of-costs.result in
    let costs : List ℕ = c.begin-removing.result.costs.now in
    let priced : costs ≡ map (cost gr rows) (range vs.source 0) =
    ap (λ r. r.now) c.begin-removing.ensures.1
    ∙ table_is (cost gr rows) table vs.source 0 (omega (arith, vs.few.0, c.costs_of-costs.ensures.1))
    (λ k l. c.costs_of-costs.ensures.0 gr en k (omega (arith, vs.few.0)) ∙ (let e : k ≡ 0 + k = omega arith in ap (cost gr rows) e)) in
    let counted : c.len-count.result ≡ size (length gr.classes) gr.nodes =
    c.len-count.ensures ∙ ap (size 448) (c.meet.ensures ∙ ap (meet nodes) c.up_to.ensures) ∙ nodes_count nodes vs.count vs.few.1
    ∙ ap (λ (n : ℕ). size n nodes) (sym (ap length ec ∙ drawn_length vs)) ∙ ap (size (length gr.classes)) (sym eo) in
    order_done m gr (drawn c.args.weighing) costs vs.source rows _ c.loop-i.i c.len-count.result (members c.loop-i.removing.left) nodes (record { classes = ec; edges = ee }) (omega arith)
    (c.loop-i.invariant.3 ∙ ap (λ s. removals m (drawn c.args.weighing) costs c.len-count.result (members s)) c.begin-removing.ensures.2) priced counted eo
