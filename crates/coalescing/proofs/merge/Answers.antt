use Rattle.std.proofs.Common.{take, ap, ◌∙◌}
use Rattle.std.proofs.lemmas.List.{take-map}
use Rattle.sets.specs.Words.{members, sets_of}
use Rattle.coalescing.specs.Pairs.{moved}
use Rattle.coalescing.specs.Merges.{graph_of}
use Rattle.coalescing.proofs.Coalescing.{merged_from}
use Rattle.coalescing.proofs.merge.Goals as goal

pub returns : goal.returns
returns c = λ v x y low_is high_is.
    let low = c.args.pair.low in
    let high = c.args.pair.high in
    let was = c.args.merged.now in
    let now = c.after.result in
    merged_from (graph_of v was c.args.edges.now c.args.hard.now) x y low high (take v.count now.node) (members now.nodes) (sets_of c.contract.new.edges) (sets_of c.contract-2.new.edges) low_is high_is
    (ap (take v.count) c.after.ensures.0 ∙ take-map (moved low high) v.count was.node)
    c.after.ensures.1 c.contract.ensures c.contract-2.ensures
