use Rattle.std.proofs.Common.{◌≡◌, ◌+◌, ◌*◌, ◌≤◌, ◌++◌, map, length, take}
use Rattle.compiling.specs.Rewrite.{blocks, all_replaced}
use Rattle.drafts.specs.Drafts.{working_of}
use Rattle.layout.specs.Layouts.{Holds}
use Rattle.rewriting.specs.Pages.{order_in, class_in}
use Rattle.rewriting.proofs.Rewriting.write_blocks.Given as goal

abbrev pub invariant-loop-row : goal.invariant-loop-row
invariant-loop-row l =
    let d = l.self.draft.now in
    let s = order_in d l.self.token.now in
    let w = working_of d in
    let rows = take l.row-index w.rows in
    Holds l.page.layout.rows l.page.layout.starts (blocks s (class_in d) (length w.classes) rows)
    × (l.page.classes ≡ take 448 (w.classes ++ map (class_in d) (all_replaced s rows)))
    × (l.page.next ≡ length w.classes + length (all_replaced s rows))
    × (l.page.next ≤ 448 + 3 * l.row-index)
