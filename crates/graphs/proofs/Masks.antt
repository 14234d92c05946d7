-- The set of the variables of a class, as it grows.
use Rattle.std.proofs.Common.{◌≡◌, ℕ, ◌+◌, ◌<◌, Bool, true, false, ◌&&◌, ltb, sym, refl, ◌∙◌, inl, inr, arith}
use Rattle.std.proofs.lemmas.Bool.{cases_lt, cases_eq, eq-eqb, ne_eqb, lt-ltb, le-ltb}
use Rattle.sets.specs.Sets.{has, single, union, when}
use Rattle.sets.proofs.Members.{has_union, has_single, has_none, has_when}

-- none below 0
pub mask_none : (t : ℕ → Bool) (j : ℕ) → has 0 j ≡ (ltb j 0 && t j)
mask_none t j = has_none j ∙ sym (rw (le-ltb j 0 (omega arith)))

past : (j k : ℕ) → (j ≡ k → ⊥) → ltb j k ≡ ltb j (k + 1)
past j k n = elim (cases_lt j k) [ inl l ↦ lt-ltb j k l ∙ sym (lt-ltb j (k + 1) (omega arith)) | inr l ↦ le-ltb j k l ∙ sym (le-ltb j (k + 1) (omega arith)) ]

-- one that passes joins
pub mask_yes : (t : ℕ → Bool) (s k : ℕ) → k < 448 → ((j : ℕ) → has s j ≡ (ltb j k && t j)) → t k ≡ true →
    (j : ℕ) → has (union s (when (ltb k 448) (single k))) j ≡ (ltb j (k + 1) && t j)
mask_yes t s k room old yes' j =
    has_union s (when (ltb k 448) (single k)) j ∙ elim (cases_eq j k) [
      | inl e ↦ rw (e, has_when (ltb k 448) (single k) k, has_single k k, lt-ltb k 448 room, eq-eqb k k refl, lt-ltb k (k + 1) (omega arith), yes') (grind arith)
      | inr n ↦ rw (has_when (ltb k 448) (single k) j, has_single k j, ne_eqb j k n, old j, past j k n) (grind arith)
    ]

-- one that fails does not
pub mask_no : (t : ℕ → Bool) (s k : ℕ) → ((j : ℕ) → has s j ≡ (ltb j k && t j)) → t k ≡ false → (j : ℕ) → has s j ≡ (ltb j (k + 1) && t j)
mask_no t s k old no' j =
    old j ∙ elim (cases_eq j k) [
      | inl e ↦ rw (e, no') (grind arith)
      | inr n ↦ rw (past j k n)
    ]
