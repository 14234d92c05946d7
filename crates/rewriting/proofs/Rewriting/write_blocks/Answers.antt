use Rattle.std.proofs.Common.{◌≡◌, ℕ, ◌+◌, ◌<◌, ◌≤◌, List, [], ◌∷◌, ◌++◌, map, length, get_or, take, sym, ap, ◌∙◌, arith}
use Rattle.std.proofs.lemmas.List.{append_assoc, length-append, map-append, take_all, take_more, get_or_default}
use Rattle.rows.specs.Rows.{end_row}
use Rattle.compiling.specs.Blocks.{flat}
use Rattle.compiling.specs.Rewrite.{block, blocks, replaced, all_replaced}
use Rattle.drafts.specs.Drafts.{working_of}
use Rattle.layout.proofs.Lists.{front_append}
use Rattle.layout.proofs.Holding.{holds_none, holds_more}
use Rattle.rewriting.specs.Pages.{order_in, class_in}
use Rattle.rewriting.proofs.Noting.{nothing_more}
use Rattle.rewriting.proofs.Replacing.{all_push, blocks_push, replaced_few}
use Rattle.rewriting.proofs.Rewriting.write_blocks.Goals as goal

pub loop-row-init : goal.loop-row-init
unfolding blocks all_replaced flat
loop-row-init c =
    let d = c.args.self.now.draft.now in
    let h = c.first_page-page.ensures in (
      holds_none _ _ h.lines h.starts,
      h.classes ∙ nothing_more 448 d.classes d.few.1,
      omega (arith, h.next),
      omega (arith, d.few, h.next),
    )

pub write_block-requires : goal.write_block-requires
write_block-requires c =
    let d = c.args.self.now.draft.now in
    omega (arith, c.loop-row.invariant.3, d.few, ap length c.rows-row-items.ensures, c.loop-row-test.true)

pub loop-row-preserved : goal.loop-row-preserved
loop-row-preserved c =
    let d = c.args.self.now.draft.now in
    let s = order_in d c.args.self.now.token.now in
    let class = class_in d in
    let w = working_of d in
    let cs = w.classes in
    let i = c.loop-row.row-index in
    let items = c.rows-row-items.ensures in
    let here : i < length w.rows = omega (arith, ap length items, c.loop-row-test.true) in
    let r = get_or w.rows i end_row in
    let rs = take i w.rows in
    let p = c.loop-row.page in
    let q = c.write_block.new.page in
    let h = rw (items, get_or_default w.rows i _ end_row here) at c.write_block.ensures in
    let more : take (i + 1) w.rows ≡ rs ++ r ∷ [] = take_more w.rows i end_row here in
    let all : all_replaced s (rs ++ r ∷ []) ≡ all_replaced s rs ++ replaced s r = all_push s class rs r in
    let n : length (all_replaced s (rs ++ r ∷ [])) ≡ length (all_replaced s rs) + length (replaced s r) = ap length all ∙ length-append (all_replaced s rs) (replaced s r) in
    let lines : q.layout.rows ≡ take 512 (p.layout.rows ++ block s class (length cs + length (all_replaced s rs)) r) = h.lines ∙ ap (λ (t : ℕ). take 512 (p.layout.rows ++ block s class t r)) c.loop-row.invariant.2 in
    let held = holds_more p.layout.rows q.layout.rows p.layout.starts q.layout.starts (blocks s class (length cs) rs) (block s class (length cs + length (all_replaced s rs)) r) c.loop-row.invariant.0 h.starts lines in
    let named : map class (all_replaced s rs ++ replaced s r) ≡ map class (all_replaced s rs) ++ map class (replaced s r) = map-append class (all_replaced s rs) (replaced s r) in
    rw more (
      rw (blocks_push s class (length cs) rs r) held,
      h.classes ∙ ap (λ (l : List ℕ). take 448 (l ++ map class (replaced s r))) c.loop-row.invariant.1 ∙ front_append 448 (cs ++ map class (all_replaced s rs)) (map class (replaced s r))
          ∙ ap (take 448) (append_assoc cs (map class (all_replaced s rs)) (map class (replaced s r)) ∙ ap (λ (l : List ℕ). cs ++ l) (sym named ∙ ap (map class) (sym all))),
      omega (arith, h.next, n, c.loop-row.invariant.2),
      omega (arith, h.next, c.loop-row.invariant.3, replaced_few s class r),
    )

pub returns : goal.returns
returns c =
    let w = working_of c.args.self.now.draft.now in
    let past : length w.rows ≤ c.loop-row.row-index = omega (arith, ap length c.rows-row-items.ensures, c.loop-row-test.false) in
    let inv = rw (take_all c.loop-row.row-index w.rows past) at c.loop-row.invariant in
    record { lines = inv.0; classes = inv.1 }
