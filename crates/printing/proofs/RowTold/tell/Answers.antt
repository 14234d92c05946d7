use Rattle.std.proofs.Common.{◌≡◌, ℕ, ◌+◌, List, length, drop, sym, ap, ◌∙◌, arith, rules}
use Rattle.std.proofs.lemmas.List.{drop-drop, take_rest}
use Rattle.rows.specs.declared.Row.{Row}
use Rattle.printing.specs.Texts.{behind, item, items_of, row_text}
use Rattle.printing.proofs.RowTold.tell.Goals as goal

-- the text of a row is what stands behind the first comma
without_comma : (r : Row) (start : ℕ) (text : List ℕ) → drop start text ≡ behind 44 item (items_of r) → drop (start + 1) text ≡ row_text r
unfolding row_text
without_comma r start text e = sym (drop-drop 1 start text) ∙ ap (drop 1) e

pub overflow_add-start : goal.overflow_add-start
overflow_add-start c = omega (arith, c.loop-i.invariant.sized)

pub slice_bounds-extend_from_slice-count : goal.slice_bounds-extend_from_slice-count
slice_bounds-extend_from_slice-count c =
    let some : length c.items-items.result ≡ length (items_of c.args.self) = ap length c.items-items.ensures in
    omega (arith, c.loop-i.invariant.sized)

pub returns : goal.returns
returns c =
    let l = c.loop-i in
    let none : l.i ≡ 0 = omega arith in
    let all = l.invariant.written ∙ ap (λ n. behind 44 item (drop n c.items-items.result)) none ∙ ap (behind 44 item) c.items-items.ensures in
    let told = without_comma c.args.self l.start l.text all in
    let cut = rw l.invariant.sized at (take_rest {X = ℕ} l.text (l.start + 1)) in
    search (rules, cut ∙ told)
