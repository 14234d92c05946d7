use Rattle.std.proofs.Common.{Bool, ap, ◌∙◌}
use Rattle.sets.specs.Sets.{when}
use Rattle.rows.specs.Rows.{reads, set_of}
use Rattle.interference.proofs.copied.Goals as goal

pub returns-else-copies : goal.returns-else-copies
returns-else-copies c =
    c.empty.ensures ∙ ap (λ (b : Bool). when b (set_of (reads c.args.row))) c.if-copies.ensures
