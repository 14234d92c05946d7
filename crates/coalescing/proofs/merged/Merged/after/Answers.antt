use Rattle.std.proofs.Common.{◌≡◌, ℕ, ◌<◌, Bool, List, map, length, get_or, set, ap, ◌∙◌, subst, arith, sym}
use Rattle.std.proofs.lemmas.List.{length-map}
use Rattle.std.proofs.lemmas.Bool.{lt-ltb}
use Rattle.sets.specs.Sets.{minus, when, single}
use Rattle.sets.specs.Words.{members}
use Rattle.coalescing.specs.Facts.{Placed}
use Rattle.coalescing.specs.Pairs.{moved}
use Rattle.coalescing.proofs.Lists.{mapped, mapped_at, mapped_more, mapped_all, placed_moved}
use Rattle.coalescing.proofs.merged.Merged.after.Goals as goal

pub loop-v-preserved : goal.loop-v-preserved
loop-v-preserved c =
    let ns = c.args.self.now.node in
    let i = c.loop-v.v-index in
    let f = moved c.args.pair.low c.args.pair.high in
    let l : i < length ns = omega (arith, c.args.self.now.whole) in
    let e : c.moved.result ≡ f (get_or ns i 0) = c.moved.ensures ∙ ap f (ap (λ (xs : List ℕ). get_or xs i 0) c.loop-v.invariant ∙ mapped_at f ns i 0 l) in
    ap (λ (xs : List ℕ). set xs i c.moved.result) c.loop-v.invariant ∙ ap (set (mapped f i ns) i) e ∙ mapped_more f ns i 0 l

pub invariant_of-result : goal.invariant_of-result
invariant_of-result c =
    let s = c.args.self.now in
    let p = c.args.pair in
    let f = moved p.low p.high in
    let all : c.loop-v.v-items ≡ map f s.node = c.loop-v.invariant ∙ mapped_all f s.node c.loop-v.v-index (omega (arith, s.whole)) in
    record { whole = ap length all ∙ length-map s.node f ∙ s.whole; placed = subst Placed (sym all) (placed_moved p.low p.high s.node (omega (arith, p.two, p.inside)) s.placed) }

pub returns : goal.returns
returns c =
    let s = c.args.self.now in
    let p = c.args.pair in
    let f = moved p.low p.high in (
      c.loop-v.invariant ∙ mapped_all f s.node c.loop-v.v-index (omega (arith, s.whole)),
      c.without.ensures ∙ ap (λ (b : Bool). minus (members s.nodes) (when b (single p.high))) (lt-ltb p.high 448 p.inside),
    )
