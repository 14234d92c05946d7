-- What q says of single registers, from the laws.
use Rattle.std.proofs.Common.{ℕ, cond, sym, ◌∙◌, inl, inr, arith}
use Rattle.std.proofs.lemmas.Bool.{cond-true, cond-false, cases_Bool}
use Rattle.counting.proofs.Sums.{most_above, most_attained}
use Rattle.registers.specs.Model.{Model, Lawful, clashes, FewClashes, QAttained}

module _ (m : Model) (l : Lawful m) where
  abbrev clashes_in : ℕ → ℕ → ℕ → ℕ
  clashes_in b c r = cond (m.belongs r c) (clashes m b r) 0

  pub few_clashes : FewClashes m
  few_clashes b c r e =
      let here = cond-true (m.belongs r c) (clashes m b r) 0 e in
      omega (arith, here, l.reckoned b c, most_above (clashes_in b c) m.count r (l.outside r c e).0)

  pub q_attained : QAttained m
  q_attained b c = elim (most_attained (clashes_in b c) m.count) [
    | inl none ↦ inl (l.reckoned b c ∙ none)
    | inr (r, lt, e) ↦ elim (cases_Bool (m.belongs r c)) [
      | inl yes' ↦ inr (r, yes', sym (cond-true (m.belongs r c) (clashes m b r) 0 yes') ∙ e ∙ sym (l.reckoned b c))
      | inr no' ↦ inl (l.reckoned b c ∙ sym e ∙ cond-false (m.belongs r c) (clashes m b r) 0 no')
    ]
  ]
