use Rattle.std.proofs.Common.{◌≡◌, ℕ, suc, ◌≤◌, ◌++◌, map, length, ap, ◌∙◌, arith, length-take}
use Rattle.std.proofs.lemmas.List.{take_all}
use Rattle.counting.specs.Counting.{range}
use Rattle.compiling.specs.Blocks.{flat, assembled}
use Rattle.compiling.specs.Rewrite.{blocks, all_replaced}
use Rattle.drafts.specs.Drafts.{working_of}
use Rattle.layout.proofs.Holding.{holds_assembled}
use Rattle.rewriting.specs.Pages.{order_in, class_in, place_spilled}
use Rattle.rewriting.proofs.Replacing.{blocks_length, assembled_length, working_same}
use Rattle.rewriting.proofs.rewrite.Goals as goal

pub returns : goal.returns
unfolding place_spilled
returns c room =
    let d = c.args.draft.now in
    let t = c.args.token.now in
    let w = working_of d in
    let s = order_in d t in
    let class = class_in d in
    let page = c.write_blocks-page.ensures in
    let bs = blocks s class (length w.classes) w.rows in
    let cs = w.classes ++ map class (all_replaced s w.rows) in
    let rows : length w.rows ≤ 512 = d.few.0 in
    let few : length (flat bs) ≤ 512 = rw (assembled_length bs) at room.rows in
    let short : length bs ≤ 512 = rw (blocks_length s class (length w.classes) w.rows) rows in
    let round : c.saturating_add.result ≡ suc d.rounds = omega (arith, room.rounds) in
    let code : c.moved-next.result ≡ assembled bs = holds_assembled _ _ _ bs page.lines few short c.moved-next.ensures.rows in
    working_same w.source _ (assembled bs) _ cs _ (suc d.rounds) t.given _ (map (place_spilled d t (suc d.rounds)) (range d.source.vars 0))
    code
    (page.classes ∙ take_all 448 cs room.classes)
    round
    (c.places-next.ensures.places ∙ ap (λ (k : ℕ). map (place_spilled d t k) (range d.source.vars 0)) round)

pub invariant_of-next : goal.invariant_of-next
invariant_of-next c =
    let page = c.write_blocks-page.result in
    let registers : length c.of-next.result ≡ length page.classes = rw c.of-next.ensures (simp length-take (omega (arith, page.few, c.len.ensures.count))) in
    record { few = (c.moved-next.ensures.fits, page.few); whole = (registers, c.places-next.ensures.size) }
