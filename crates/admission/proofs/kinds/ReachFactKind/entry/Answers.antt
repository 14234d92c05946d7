use Rattle.std.proofs.Common.{ℕ, ap, ◌∙◌}
use Rattle.sets.specs.Sets.{union}
use Rattle.admission.proofs.kinds.ReachFactKind.entry.Goals as goal

pub returns : goal.returns
returns c = c.with.ensures ∙ ap (λ (x : ℕ). union x 1) c.empty.ensures
