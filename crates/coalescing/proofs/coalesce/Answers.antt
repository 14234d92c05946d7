use Rattle.std.proofs.Common.{sym, ◌∙◌, subst, arith}
use Rattle.coalescing.specs.Facts.{Joining}
use Rattle.coalescing.proofs.Copying.{copies_joining}
use Rattle.coalescing.proofs.coalesce.Goals as goal

pub coalesce_over-requires : goal.coalesce_over-requires
coalesce_over-requires g c =
    subst Joining (sym (c.as_slice.ensures ∙ c.copies_of-copies.ensures)) (copies_joining c.args.variables.now.source c.args.lines.rows.now (omega (arith, c.args.variables.now.few.0)))
