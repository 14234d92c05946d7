use Rattle.std.proofs.Common.{[], ◌∷◌, ◌∙◌}
use Rattle.reports.specs.Fields.{shaped_fields}
use Rattle.reports.proofs.fields.Goals as goal

pub returns : goal.returns
returns c =
    (λ i. c.then_some.ensures i ∷ c.then_some-2.ensures i ∷ c.then_some-3.ensures i ∷ c.then_some-4.ensures i ∷ c.then_some-5.ensures i ∷ c.then_some-6.ensures i ∷ [])
    ∙ (λ i. shaped_fields (c.shape-shape.ensures i) c.args.row)
