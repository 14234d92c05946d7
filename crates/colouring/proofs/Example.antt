-- The premises can be met: two temporaries beside one another are a proper graph, and paired.
use Rattle.std.proofs.Common.{◌≡◌, ℕ, zero, suc, ◌<◌, true, false, ◌⊎◌, [], ◌∷◌, sym, refl, ◌∙◌, inl, inr, arith}
use Rattle.std.proofs.lemmas.Bool.{both_ways, eqb-true, ltb-true}
use Rattle.sets.specs.Sets.{has}
use Rattle.sets.proofs.Members.{has_none, has_single, has_up_to}
use Rattle.rounds.specs.Interference.{Graph, neighbours, class_at}
use Rattle.colouring.specs.Selecting.{Proper}
use Rattle.colouring.specs.Removing.{Paired}

abbrev pub pair : Graph
pair = record { classes = 0 ∷ 2 ∷ []; node = 0 ∷ 1 ∷ []; nodes = 3; edges = 2 ∷ 1 ∷ []; hard = 2 ∷ 1 ∷ [] }

-- who is beside u
other : (u v : ℕ) → has (neighbours pair u) v ≡ true → ((u ≡ 0) × (v ≡ 1)) ⊎ ((u ≡ 1) × (v ≡ 0))
other zero v e = inl (refl, eqb-true v 1 (sym (has_single 1 v) ∙ e))
other (suc zero) v e = inr (refl, eqb-true v 0 (sym (has_single 0 v) ∙ e))
other (suc (suc u)) v e = absurd (both_ways _ (has_none v) e)

pub pair_proper : Proper pair
unfolding has
pair_proper = record {
  inside = λ v e. ltb-true v 2 (sym (has_up_to 2 v) ∙ e);
  both_ways = λ u v e. elim (other u v e) [ inl (p, q) ↦ rw (p, q) | inr (p, q) ↦ rw (p, q) ];
  loopless = alone;
}
  where
    alone : (v : ℕ) → has (neighbours pair v) v ≡ false
    alone zero = refl
    alone (suc zero) = refl
    alone (suc (suc v)) = has_none (suc (suc v))

pub pair_paired : Paired pair 0
pair_paired = record {
  classed = classed;
  partner = λ v x y _ _ _ p q. elim (other v x p) [
    | inl (a, b) ↦ elim (other v y q) [ inl (c, d) ↦ b ∙ sym d | inr (c, d) ↦ absurd (omega arith) ]
    | inr (a, b) ↦ elim (other v y q) [ inl (c, d) ↦ absurd (omega arith) | inr (c, d) ↦ b ∙ sym d ]
  ];
}
  where
    classed : (v : ℕ) → class_at pair v < 3
    classed zero = omega arith
    classed (suc zero) = omega arith
    classed (suc (suc v)) = omega arith
