use Rattle.std.proofs.Common.{◌≡◌, ℕ, suc, ◌+◌, ◌-◌, List, get_or, take, sym, refl, ap, ◌∙◌, ap₂, arith}
use Rattle.counting.specs.Counting.{range}
use Rattle.sets.specs.Words.{members, sets_of}
use Rattle.rounds.specs.declared.Ends.{Ends}
use Rattle.rounds.specs.Interference.{Graph, node_at}
use Rattle.rounds.specs.Coalescing.{coalesced, first_mergeable, no_ends}
use Rattle.graphs.specs.declared.variables.Variables.{Variables}
use Rattle.graphs.specs.Graphs.{graph, classes_of}
use Rattle.coalescing.specs.declared.merged.Merged.{Merged}
use Rattle.coalescing.specs.Merges.{graph_of}
use Rattle.coalescing.proofs.Lists.{take_range}
use Rattle.coalescing.proofs.Coalescing.{coalesced_none, coalesced_stop, coalesced_step}
use Rattle.coalescing.proofs.coalesce_over.Goals as goal

-- the graph before any merge
start : (v : Variables) (u : Merged) (nodes : ℕ) (edges hard : List ℕ) → (u.node ≡ range 448 0) × (u.nodes ≡ nodes) →
    graph_of v u edges hard ≡ graph (classes_of v) (range v.count 0) (members nodes) (sets_of edges) (sets_of hard)
start v u nodes edges hard e =
    ap₂ (λ (ns : List ℕ) (s : ℕ). graph (classes_of v) ns s (sets_of edges) (sets_of hard)) (ap (take v.count) e.0 ∙ take_range v.count 448 0 v.few.1) (ap members e.1)

pub returns-in_default : goal.returns-in_default
returns-in_default g c =
    let m = g.F.RegisterFile.model c.args.file.now in
    let v = c.args.variables.now in
    let cs = c.args.copies.now in
    let j = v.source - (c.loop-k.k + 1) in
    let here = graph_of v c.loop-k.merged c.loop-k.edges c.loop-k.hard in
    let e : suc j ≡ v.source - c.loop-k.k = omega arith in
    sym (coalesced_stop m cs j _ here refl c.in_default.ensures)
    ∙ ap (λ (n : ℕ). coalesced m cs n here) e
    ∙ c.loop-k.invariant
    ∙ ap (coalesced m cs v.source) (start v c.apart-merged.result c.args.nodes c.args.edges.now c.args.hard.now c.apart-merged.ensures)

pub loop-k-preserved : goal.loop-k-preserved
loop-k-preserved g c =
    let m = g.F.RegisterFile.model c.args.file.now in
    let v = c.args.variables.now in
    let cs = c.args.copies.now in
    let j = v.source - (c.loop-k.k + 1) in
    let here : Graph = graph_of v c.loop-k.merged c.loop-k.edges c.loop-k.hard in
    let e : suc j ≡ v.source - c.loop-k.k = omega arith in
    let ends : Ends = get_or cs (first_mergeable m here cs) no_ends in
    ap (coalesced m cs j) (c.merge-merged.ensures v (node_at here ends.d) (node_at here ends.a) c.in-Some.ensures.1.0 c.in-Some.ensures.1.1)
    ∙ sym (coalesced_step m cs j _ here refl c.in-Some.ensures.0)
    ∙ ap (λ (n : ℕ). coalesced m cs n here) e
    ∙ c.loop-k.invariant

pub returns : goal.returns
returns g c =
    let m = g.F.RegisterFile.model c.args.file.now in
    let v = c.args.variables.now in
    let cs = c.args.copies.now in
    let here = graph_of v c.loop-k.merged c.loop-k.edges c.loop-k.hard in
    let e : v.source - c.loop-k.k ≡ 0 = omega arith in
    sym (coalesced_none m cs (v.source - c.loop-k.k) here e)
    ∙ c.loop-k.invariant
    ∙ ap (coalesced m cs v.source) (start v c.apart-merged.result c.args.nodes c.args.edges.now c.args.hard.now c.apart-merged.ensures)
