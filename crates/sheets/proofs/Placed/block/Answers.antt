use Rattle.std.proofs.Common.{◌&&◌, sym, ◌∙◌}
use Rattle.std.proofs.lemmas.Bool.{cond-true, cond-false}
use Rattle.compiling.specs.Working.{is_slot}
use Rattle.sheets.proofs.Placed.block.Goals as goal

pub returns-then-idle : goal.returns-then-idle
returns-then-idle c = sym (cond-true _ _ _ (sym c.idle.ensures ∙ c.if-idle.true))

pub returns : goal.returns
returns c =
    (λ i. record { loads = c.loads.ensures i; kept = c.kept.ensures i; store = (c.spilled.ensures ∙ (λ j. (c.shape.ensures j).d && is_slot c.args.self.d.home)) i })
    ∙ sym (cond-false _ _ _ (sym c.idle.ensures ∙ c.if-idle.false))
