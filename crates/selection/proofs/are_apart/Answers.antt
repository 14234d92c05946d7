use Rattle.std.proofs.Common.{ℕ, eqb, ap, ◌∙◌}
use Rattle.selection.proofs.Selecting.{apart_is}
use Rattle.selection.proofs.are_apart.Goals as goal

pub returns : goal.returns
returns c = c.is_empty.ensures ∙ ap (λ (n : ℕ). eqb n 0) c.meet.ensures ∙ apart_is _ _ c.small.ensures c.small-2.ensures
