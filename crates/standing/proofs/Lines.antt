-- Lists in a line: where each begins, and what stands at each place.
use Rattle.std.proofs.Common.{◌≡◌, ℕ, zero, suc, ◌+◌, ◌<◌, ◌≤◌, Bool, true, cond, ◌&&◌, eqb, ltb, List, [], ◌∷◌, length, get_or, refl, ap, ◌∙◌, inl, inr, add-zero, add_assoc, add-suc, zero-add, arith}
use Rattle.std.proofs.lemmas.List.{get_or_append_left, get_or-append-add, length-append}
use Rattle.std.proofs.lemmas.Bool.{cases_Bool, cases_lt, cases_eq, cases_order, lt-ltb, le-ltb, eq-eqb, ne_eqb}
use Rattle.counting.specs.Counting.{sum, count, range}
use Rattle.counting.proofs.Sums.{sum_mono}
use Rattle.sets.specs.Sets.{has, single, when}
use Rattle.sets.proofs.Members.{has_union, has_single, has_when, has_none}
use Rattle.rows.specs.declared.Row.{Row}
use Rattle.rounds.specs.Round.{those}
use Rattle.compiling.specs.Blocks.{flat, starts}

-- ---- sums

pub sum_cons : {A : Type 0} (f : A → ℕ) (d x : A) (xs : List A) (p : ℕ) → sum (λ k. f (get_or (x ∷ xs) k d)) (suc p) ≡ f x + sum (λ k. f (get_or xs k d)) p
unfolding sum
sum_cons f d x xs zero = refl
sum_cons f d x xs (suc p) = omega (arith, sum_cons f d x xs p)

-- the part in which a place of a line is
pub locate : (f : ℕ → ℕ) (n q : ℕ) → q < sum f n → (p : ℕ) × (p < n) × (sum f p ≤ q) × (q < sum f p + f p)
unfolding sum
locate f zero q h = absurd (omega arith)
locate f (suc n) q h = elim (cases_lt q (sum f n)) [
  | inl e ↦ (let (p, a, b, c) = locate f n q e in (p, omega arith, b, c))
  | inr e ↦ (n, omega arith, e, omega arith)
]

-- a place is in one part
pub one_part : (f : ℕ → ℕ) (p r j k : ℕ) → j < f p → k < f r → sum f p + j ≡ sum f r + k → p ≡ r
unfolding sum
one_part f p r j k a b e = elim (cases_order p r) [
  | inl x ↦ x
  | inr (inl x) ↦ absurd (omega (arith, sum_mono f (suc p) r x))
  | inr (inr x) ↦ absurd (omega (arith, sum_mono f (suc r) p x))
]

-- ---- lines

pub flat_length : {A : Type 0} (bs : List (List A)) → length (flat bs) ≡ sum (λ k. length (get_or bs k [])) (length bs)
unfolding flat sum
flat_length [] = refl
flat_length (b ∷ bs) = length-append b (flat bs) ∙ omega (arith, flat_length bs, sum_cons length [] b bs (length bs))

pub flat_at : {A : Type 0} (bs : List (List A)) (d : A) (p j : ℕ) → p < length bs → j < length (get_or bs p []) → get_or (flat bs) (sum (λ k. length (get_or bs k [])) p + j) d ≡ get_or (get_or bs p []) j d
unfolding flat sum
flat_at [] d p j h k = absurd (omega arith)
flat_at (b ∷ bs) d zero j h k = rw zero-add (get_or_append_left b (flat bs) d j k)
flat_at (b ∷ bs) d (suc p) j h k =
    rw (sum_cons length [] b bs p, add_assoc) (get_or-append-add b (flat bs) (sum (λ k. length (get_or bs k [])) p + j) d ∙ flat_at bs d p j (omega arith) k)

pub starts_at : (i : ℕ) (bs : List (List Row)) (p : ℕ) → p < length bs → get_or (starts i bs) p 0 ≡ i + sum (λ k. length (get_or bs k [])) p
unfolding starts sum
starts_at i [] p h = absurd (omega arith)
starts_at i (b ∷ bs) zero h = omega arith
starts_at i (b ∷ bs) (suc p) h = omega (arith, starts_at (i + length b) bs p (omega arith), sum_cons length [] b bs p)

-- ---- sets and ranges

pub has_those : (t : ℕ → Bool) (n k : ℕ) → has (those t n) k ≡ (ltb k n && t k)
unfolding those
has_those t zero k = has_none k ∙ (rw (le-ltb k 0 (omega arith)))
has_those t (suc n) k =
    let last : has (when (t n) (single n)) k ≡ (t n && eqb k n) = has_when (t n) (single n) k ∙ rw (has_single n k) refl in
    has_union (those t n) (when (t n) (single n)) k ∙
    rw (has_those t n k, last) (elim (cases_eq k n) [
      | inl p ↦ rw p (rw (le-ltb n n (omega arith), lt-ltb n (suc n) (omega arith), eq-eqb n n refl) (grind arith))
      | inr p ↦ rw (ne_eqb k n p) (elim (cases_lt k n) [
        | inl h ↦ rw (lt-ltb k n h, lt-ltb k (suc n) (omega arith)) (grind arith)
        | inr h ↦ rw (le-ltb k n h, le-ltb k (suc n) (omega arith)) (grind arith)
      ])
    ])

pub range_length : (n j : ℕ) → length (range n j) ≡ n
unfolding range
range_length zero j = refl
range_length (suc n) j = ap suc (range_length n (suc j))

pub range_at : (n j k : ℕ) → k < n → get_or (range n j) k 0 ≡ j + k
unfolding range
range_at zero j k l = absurd (omega arith)
range_at (suc n) j zero l = omega arith
range_at (suc n) j (suc k) l = omega (arith, range_at n (suc j) k (omega arith))

-- ---- counts

abbrev pub bit_of : Bool → ℕ
bit_of b = cond b 1 0

-- a member counts one more
pub count_rises : (t : ℕ → Bool) (k n : ℕ) → k < n → t k ≡ true → count t k < count t n
unfolding sum
count_rises t k n l e =
    let up : cond (t k) 1 0 + count t k ≤ count t n = sum_mono (λ j. cond (t j) 1 0) (suc k) n l in
    let one : 1 + count t k ≤ count t n = rw e at up in
    omega arith

-- members beyond m there are none
pub count_only : (t : ℕ → Bool) (m d : ℕ) → ((k : ℕ) → t k ≡ true → k < m) → count t (m + d) ≡ count t m
unfolding sum
count_only t m zero h = ap (count t) (add-zero m)
count_only t m (suc d) h = ap (count t) (add-suc m d) ∙ elim (cases_Bool (t (m + d))) [ inl e ↦ absurd (omega (arith, h (m + d) e)) | inr e ↦ rw e (omega (arith, count_only t m d h)) ]

-- two tests of which never both pass
pub count_add : (s t u : ℕ → Bool) (n : ℕ) → ((k : ℕ) → k < n → bit_of (s k) + bit_of (t k) ≡ bit_of (u k)) → count s n + count t n ≡ count u n
unfolding sum
count_add s t u zero h = refl
count_add s t u (suc n) h = omega (arith, h n (omega arith), count_add s t u n (λ k l. h k (omega arith)))
