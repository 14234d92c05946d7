use Rattle.std.proofs.Common.{eqb, sym, ap, ◌∙◌, inl, inr}
use lib.Pointwise.{pointwise, bytes_decides}
use Rattle.std.proofs.lemmas.Bool.{eq-eqb, ne_eqb, cases_Bool, both_ways}
use Rattle.sets.specs.Words.{joined}
use Rattle.sets.specs.Splitting.{same_words}
use Rattle.sets.proofs.NodeSetPartialEq.eq.Goals as goal

pub returns : goal.returns
returns c =
    let xs = c.self.inside.words in
    let ys = c.other.inside.words in
    c.eq.ensures ∙ elim (cases_Bool (pointwise eqb xs ys)) [
      | inl t ↦ t ∙ sym (eq-eqb _ _ (sym c.self.view_is ∙ ap joined ((bytes_decides xs ys).0 t) ∙ c.other.view_is))
      | inr f ↦ f ∙ sym (ne_eqb _ _ (λ e. both_ways (pointwise eqb xs ys) f ((bytes_decides xs ys).1 (same_words xs ys c.self.invariant c.other.invariant (c.self.view_is ∙ e ∙ sym c.other.view_is)))))
    ]
