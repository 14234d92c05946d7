use Rattle.std.proofs.Common.{◌≡◌, ℕ, ◌+◌, ◌<◌, ◌≤◌, List, [], ◌∷◌, ◌++◌, length, get_or, take, sym, refl, ap, ◌∙◌, subst, arith}
use Rattle.rows.specs.declared.Row.{Row}
use Rattle.rows.specs.Rows.{end_row}
use Rattle.rounds.specs.declared.Ends.{Ends}
use Rattle.rounds.specs.Coalescing.{copies_in}
use Rattle.coalescing.specs.declared.copies.Copies.{Copies}
use Rattle.coalescing.proofs.Copying.{ends_of, copies_yes, copies_no}
use Rattle.coalescing.proofs.copies_of.Goals as goal
use Rattle.coalescing.proofs.copies_of.Goals.{then-is_copy, else-is_copy}

pub loop-row-init : goal.loop-row-init
unfolding copies_in
loop-row-init c = (rw c.none-copies.ensures refl, omega (arith, c.none-copies.ensures))

-- what the loop keeps after i rows
abbrev Kept : ℕ → List Row → ℕ → Copies → Type 0
Kept source rows i copies = (take copies.count copies.ends ≡ copies_in source (take i rows)) × (copies.count ≤ i)

pub loop-row-preserved : goal.loop-row-preserved
loop-row-preserved c =
    let rows = c.args.lines.rows.now in
    let i = c.loop-row.row-index in
    let l : i < length rows = omega arith in
    elim c.if-is_copy.branch [
      | then-is_copy w ↦ subst (Kept c.args.source rows (i + 1)) (sym w.copies-is) (
        w.push.ensures.1 ∙ ap (λ (cs : List Ends). cs ++ ends_of (get_or rows i end_row) ∷ []) c.loop-row.invariant.0 ∙ sym (copies_yes c.args.source rows i end_row l (sym w.if-is_copy.ensures)),
        omega (arith, w.push.ensures.0, c.loop-row.invariant.1),
      )
      | else-is_copy w ↦ subst (Kept c.args.source rows (i + 1)) (sym w.copies-is) (
        c.loop-row.invariant.0 ∙ sym (copies_no c.args.source rows i end_row l (sym w.if-is_copy.ensures)),
        omega (arith, c.loop-row.invariant.1),
      )
    ]
