-- The neighbours of a node after one node went into another.
use Rattle.std.proofs.Common.{◌≡◌, ℕ, ◌<◌, ◌≤◌, true, not, ◌&&◌, ◌||◌, eqb, ltb, List, map, length, get_or, set, sym, refl, ap, ◌∙◌, inl, inr, arith}
use lib.Bits.{or_zero_l, and_zero_l, xor_zero_l}
use Rattle.std.proofs.lemmas.List.{get_or_past, get_or-map, get_or-set_same, get_or-set_other, length-set, length-map}
use Rattle.std.proofs.lemmas.Bool.{cases_Bool, cases_lt, both_ways, eq-eqb, lt-ltb}
use Rattle.sets.specs.Sets.{has, single, union, minus, when}
use Rattle.sets.specs.Words.{joined, members, empty_set}
use Rattle.sets.proofs.Members.{has_union, has_minus, has_none, has_single}
use Rattle.registers.specs.Model.{Model}
use Rattle.rounds.specs.Interference.{Graph, beside}
use Rattle.rounds.specs.Pressure.{passes}
use Rattle.rounds.specs.Coalescing.{renamed, contracted, heavy}
use Rattle.coalescing.specs.Pairs.{near_both}

renamed_at : (low high : ℕ) (es : List ℕ) (a : ℕ) → get_or (map (renamed low high) es) a 0 ≡ renamed low high (get_or es a 0)
renamed_at low high es a = elim (cases_lt a (length es)) [
  | inl l ↦ get_or-map (renamed low high) es a 0 0 l
  | inr l ↦ get_or_past (map (renamed low high) es) a 0 (rw (length-map es (renamed low high)) l) ∙ sym (ap (renamed low high) (get_or_past es a 0 l) ∙ rw (has_none high))
]

near_other : (low high : ℕ) (es : List ℕ) (a : ℕ) → (a ≡ low → ⊥) → (a ≡ high → ⊥) → beside (contracted low high es) a ≡ renamed low high (beside es a)
unfolding contracted
near_other low high es a l h =
    get_or-set_other (set (map (renamed low high) es) low _) high a 0 0 h ∙ get_or-set_other (map (renamed low high) es) low a _ 0 l ∙ renamed_at low high es a

near_none : (a b c : ℕ) → a ≡ 0 → b ≡ 0 → minus (union a b) c ≡ 0
near_none a b c p q = rw (p, q, or_zero_l 0, and_zero_l c, xor_zero_l 0)

near_low : (low high : ℕ) (es : List ℕ) → low < high → beside (contracted low high es) low ≡ near_both low high es
unfolding contracted
near_low low high es l =
    let f = renamed low high in
    get_or-set_other (set (map f es) low (near_both low high es)) high low 0 0 (λ e. omega arith) ∙ elim (cases_lt low (length es)) [
      | inl k ↦ get_or-set_same (map f es) low (near_both low high es) 0 (rw (length-map es f) k)
      | inr k ↦ (let n : length (set (map f es) low (near_both low high es)) ≤ low = rw (length-set (map f es) low (near_both low high es), length-map es f) k in
          get_or_past (set (map f es) low (near_both low high es)) low 0 n ∙ sym (near_none (beside es low) (beside es high) (union (single low) (single high)) (get_or_past es low 0 k) (get_or_past es high 0 (omega arith))))
    ]

-- low and high are no neighbours of the node that they become
near_apart : (low high : ℕ) (es : List ℕ) (k : ℕ) → has (near_both low high es) k ≡ true → (k ≡ low → ⊥) × (k ≡ high → ⊥)
near_apart low high es k h = (
  (λ e. both_ways (has (near_both low high es) k) (is ∙ rw (eq-eqb k low e) (grind arith)) h),
  (λ e. both_ways (has (near_both low high es) k) (is ∙ rw (eq-eqb k high e) (grind arith)) h),
)
  where
    is : has (near_both low high es) k ≡ (has (union (beside es low) (beside es high)) k && not (eqb k low || eqb k high))
    is = has_minus (union (beside es low) (beside es high)) (union (single low) (single high)) k
        ∙ rw (has_union (single low) (single high) k, has_single low k, has_single high k)

-- the heavy neighbours of the node that low and high become
pub heavy_is : (m : Model) (h : Graph) (low high : ℕ) (es : List ℕ) → low < high → h.edges ≡ contracted low high es →
    (k : ℕ) → heavy m h low k ≡ (has (near_both low high es) k && not (passes m h k (has (renamed low high (beside es k)))))
unfolding heavy
heavy_is m h low high es l e k =
    let n : beside h.edges low ≡ near_both low high es = ap (λ (fs : List ℕ). beside fs low) e ∙ near_low low high es l in
    elim (cases_Bool (has (near_both low high es) k)) [
      | inl t ↦ (let a = near_apart low high es k t in
          let o : beside h.edges k ≡ renamed low high (beside es k) = ap (λ (fs : List ℕ). beside fs k) e ∙ near_other low high es k a.0 a.1 in
          rw (n, o))
      | inr t ↦ rw (n, t)
    ]

-- what is written to the edges one after the other
pub contracted_from : (low high : ℕ) (es fs gs hs : List ℕ) (both none : ℕ) → fs ≡ map (renamed low high) es → both ≡ near_both low high es → gs ≡ set fs low both → none ≡ 0 → hs ≡ set gs high none →
    hs ≡ contracted low high es
unfolding contracted
contracted_from low high es fs gs hs both none a b c d e = rw (e, c, a, b, d)

pub empty_none : members empty_set ≡ 0
unfolding joined
empty_none = refl

-- how the neighbours of both are put together
pub near_from : (low high : ℕ) (es : List ℕ) (a b u none p q r : ℕ) → low < 448 → high < 448 → a ≡ beside es low → b ≡ beside es high → u ≡ union a b → none ≡ 0 →
    p ≡ union none (when (ltb low 448) (single low)) → q ≡ union p (when (ltb high 448) (single high)) → r ≡ minus u q → r ≡ near_both low high es
near_from low high es a b u none p q r l h a_is b-is u-is none_is p-is q-is r-is =
    rw (r-is, u-is, q-is, p-is, a_is, b-is, none_is, lt-ltb low 448 l, lt-ltb high 448 h, or_zero_l (single low))
