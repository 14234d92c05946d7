use Rattle.std.proofs.Common.{ℕ, cond, eqb, sym, ap, ◌∙◌}
use Rattle.sets.specs.Sets.{has}
use Rattle.sets.specs.Words.{members}
use Rattle.selection.proofs.Selecting.{with_has, without_has}
use Rattle.selection.proofs.placed.Goals as goal

pub returns-then-inside : goal.returns-then-inside
returns-then-inside c = λ k h.
    ap (λ (n : ℕ). has n k) c.with.ensures ∙ with_has (members c.args.set) c.args.v k h ∙ ap (λ b. cond (eqb c.args.v k) b (has (members c.args.set) k)) (sym c.if-inside.true)

pub returns-else-inside : goal.returns-else-inside
returns-else-inside c = λ k h.
    ap (λ (n : ℕ). has n k) c.without.ensures ∙ without_has (members c.args.set) c.args.v k h ∙ ap (λ b. cond (eqb c.args.v k) b (has (members c.args.set) k)) (sym c.if-inside.false)
