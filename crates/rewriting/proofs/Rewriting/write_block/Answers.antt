use Rattle.std.proofs.Common.{◌≡◌, ℕ, ◌+◌, true, false, List, [], ◌++◌, map, length, take, sym, ap, ◌∙◌, arith}
use lib.ListN.{length-map}
use Rattle.rows.specs.declared.Row.{Row}
use Rattle.compiling.specs.Rewrite.{inner, replaced}
use Rattle.rewriting.specs.Pages.{order_in, class_in}
use Rattle.rewriting.specs.Temporaries.{temporaries, all_noted, rows_with}
use Rattle.rewriting.proofs.Noting.{nothing_more}
use Rattle.rewriting.proofs.Replacing.{block_inner, block_kept, replaced_inner, replaced_kept}
use Rattle.rewriting.proofs.Rewriting.write_block.Goals as goal

pub returns-then-not-is_inner : goal.returns-then-not-is_inner
returns-then-not-is_inner c =
    let d = c.args.self.now.draft.now in
    let s = order_in d c.args.self.now.token.now in
    let class = class_in d in
    let r = c.args.row in
    let p = c.args.page.now in
    let e : inner s r ≡ false = sym c.is_inner.ensures ∙ c.if-not-is_inner.true in
    let t = temporaries s class p.next r in
    let h = rw c.temporaries-temporaries.ensures.value at c.temporaries-temporaries.ensures.notes in
    let kept = replaced_kept s class p.next r e in
    let n : length (all_noted t) ≡ length (replaced s r) = sym (ap length kept) ∙ length-map (replaced s r) class in
    record {
      lines = c.write_row.ensures.rows ∙ ap (λ (l : List Row). take 512 (l ++ rows_with c.temporaries-temporaries.result r)) (h.rows ∙ c.open.ensures.rows) ∙ ap (λ (b : List Row). take 512 (p.layout.rows ++ b)) (rw c.temporaries-temporaries.ensures.value (sym (block_kept s class p.next r e)));
      starts = c.write_row.ensures.starts ∙ h.starts ∙ c.open.ensures.starts;
      classes = h.classes ∙ ap (λ (l : List ℕ). take 448 (p.classes ++ l)) (sym kept);
      next = h.next ∙ ap (λ (k : ℕ). p.next + k) n;
    }

pub returns-else-not-is_inner : goal.returns-else-not-is_inner
returns-else-not-is_inner c =
    let d = c.args.self.now.draft.now in
    let s = order_in d c.args.self.now.token.now in
    let r = c.args.row in
    let p = c.args.page.now in
    let e : inner s r ≡ true = sym c.is_inner.ensures ∙ c.if-not-is_inner.false in
    let gone : replaced s r ≡ [] = replaced_inner s (class_in d) r e in
    record {
      lines = c.open.ensures.rows ∙ nothing_more 512 p.layout.rows p.layout.few.0 ∙ ap (λ (b : List Row). take 512 (p.layout.rows ++ b)) (sym (block_inner s (class_in d) p.next r e));
      starts = c.open.ensures.starts;
      classes = nothing_more 448 p.classes p.few ∙ ap (λ (l : List ℕ). take 448 (p.classes ++ map (class_in d) l)) (sym gone);
      next = omega (arith, ap length gone);
    }
