use Rattle.std.proofs.Common.{◌≡◌, ℕ, ◌<◌, List, length, get_or, set, ap, ◌∙◌, arith}
use Rattle.std.proofs.lemmas.List.{get_or_default}
use Rattle.rounds.specs.Coalescing.{renamed}
use Rattle.coalescing.proofs.Lists.{mapped, mapped_at, mapped_more, mapped_all}
use Rattle.coalescing.proofs.Contracting.{contracted_from}
use Rattle.coalescing.proofs.pair.Pair.contract.Goals as goal

pub loop-set-preserved : goal.loop-set-preserved
loop-set-preserved c =
    let es = c.loop-set.edges in
    let was = c.args.edges.now in
    let i = c.loop-set.set-index in
    let f = renamed c.args.self.low c.args.self.high in
    let here : i < length es = omega arith in
    let l : i < length was = omega arith in
    let e : c.renamed.result ≡ f (get_or was i 0) = c.renamed.ensures ∙ ap f (get_or_default es i _ 0 here ∙ ap (λ (xs : List ℕ). get_or xs i 0) c.loop-set.invariant ∙ mapped_at f was i 0 l) in
    ap (λ (xs : List ℕ). set xs i c.renamed.result) c.loop-set.invariant ∙ ap (set (mapped f i was) i) e ∙ mapped_more f was i 0 l

pub returns : goal.returns
returns c =
    let es = c.args.edges.now in
    contracted_from c.args.self.low c.args.self.high es c.loop-set.edges c.put.new.sets c.put-2.new.sets c.beside-both.result c.empty.result
    (c.loop-set.invariant ∙ mapped_all (renamed c.args.self.low c.args.self.high) es c.loop-set.set-index (omega arith)) c.beside-both.ensures c.put.ensures c.empty.ensures c.put-2.ensures
