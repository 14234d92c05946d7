use Rattle.std.proofs.Common.{ℕ, ◌-◌, sym, ap, ◌∙◌}
use Rattle.facts.proofs.Walking.{turn_backward, turn_forward}
use Rattle.facts.proofs.turn.Goals as goal

pub returns-then-backward : goal.returns-then-backward
returns-then-backward g c =
    ap (λ (n : ℕ). n - 1 - c.args.k) c.rows.ensures ∙ sym (turn_backward (g.K.WideFactKind.flow c.args.kind.now) c.args.k (sym c.if-backward.ensures) c.requires)

pub returns : goal.returns
returns g c = sym (turn_forward (g.K.WideFactKind.flow c.args.kind.now) c.args.k (sym c.if-backward.ensures) c.requires)
