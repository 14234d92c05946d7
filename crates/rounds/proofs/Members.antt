-- The sets of a graph, asked by their members.
use Rattle.std.proofs.Common.{◌≡◌, ℕ, zero, suc, Bool, false, cond, ◌&&◌, ◌||◌, eqb, ltb, List, [], ◌∷◌, refl, ap, ◌∙◌, inl, inr, arith}
use Rattle.std.proofs.lemmas.Bool.{cases_Bool, cases_eq, cases_lt, eq-eqb, ne_eqb, lt-ltb, le-ltb}
use Rattle.sets.specs.Sets.{has, single, when}
use Rattle.sets.proofs.Members.{has_union, has_single, has_none, has_when}
use Rattle.rounds.specs.Interference.{Reason, near}
use Rattle.rounds.specs.Round.{those}

-- whether a reason joins v and w
abbrev pub joins : (Reason → ℕ) → Reason → ℕ → ℕ → Bool
joins side r v w = cond (eqb v r.d) (has (side r) w) (has (side r) v && eqb w r.d)

-- whether one of a list does
unfoldable pub joined_by : (Reason → ℕ) → List Reason → ℕ → ℕ → Bool
joined_by side [] v w = false
joined_by side (r ∷ rs) v w = joins side r v w || joined_by side rs v w

pub has_near : (side : Reason → ℕ) (rs : List Reason) (v w : ℕ) → has (near side rs v) w ≡ joined_by side rs v w
unfolding near joined_by
has_near side [] v w = has_none w
has_near side (r ∷ rs) v w = elim (cases_Bool (eqb v r.d)) [
  | inl e ↦ rw (has_union, e, has_near side rs v w)
  | inr e ↦ rw (has_union, e, has_near side rs v w, has_when, has_single)
]

pub has_those : (t : ℕ → Bool) (n k : ℕ) → has (those t n) k ≡ (ltb k n && t k)
unfolding those
has_those t zero k = rw (has_none k, le-ltb k 0 (omega arith))
has_those t (suc n) k =
    has_union (those t n) (when (t n) (single n)) k
    ∙ ap (λ b. b || has (when (t n) (single n)) k) (has_those t n k)
    ∙ ap (λ b. (ltb k n && t k) || b) (has_when (t n) (single n) k ∙ ap (λ b. t n && b) (has_single n k))
    ∙ last
  where
    last : ((ltb k n && t k) || (t n && eqb k n)) ≡ (ltb k (suc n) && t k)
    last = elim (cases_eq k n) [
      | inl e ↦ rw (e, eq-eqb n n refl, le-ltb n n (omega arith), lt-ltb n (suc n) (omega arith)) (grind arith)
      | inr ne ↦ elim (cases_lt k n) [
        | inl l ↦ rw (ne_eqb k n ne, lt-ltb k n l, lt-ltb k (suc n) (omega arith)) (grind arith)
        | inr g ↦ rw (ne_eqb k n ne, le-ltb k n g, le-ltb k (suc n) (omega arith)) (grind arith)
      ]
    ]
