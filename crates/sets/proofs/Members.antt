-- Who is a member of a union, a meet and the other sets made of sets; sets with the same members are equal.
use Rattle.std.proofs.Common.{◌≡◌, ℕ, zero, suc, ◌+◌, ◌/◌, ◌%◌, ◌^◌, ◌<◌, ◌≤◌, Bool, true, false, not, ◌&&◌, ◌||◌, eqb, ltb, ◌⊎◌, sym, refl, ap, ◌∙◌, inl, inr, mod-lt, pow-suc, div-one, mul-div_cancel, arith, lit<}
use native.Mathlib.Nat.{zero-div, mul-mod_left, div-eq_of_lt}
use lib.Bits.{bit_and, bit_or, bit_xor, or_shr, or_mod, and_shr, and_mod, xor_shr, xor_mod}
use lib.Count.{count_trailing_zeros}
use lib.Dec.{eqb-suc-suc, eqb-suc-zero, eqb-zero-suc}
use Rattle.std.proofs.lemmas.Nat.{shr-shr, shr_below, pow_pos, pow_below}
use Rattle.std.proofs.lemmas.Bool.{cases_lt, cases_eq, lt-ltb, le-ltb}
use Rattle.sets.specs.Sets.{has, single, union, meet, minus, up_to, when}

two : (n : ℕ) → n < 2 → (n ≡ 0) ⊎ (n ≡ 1)
two zero h = inl refl
two (suc zero) h = inr refl
two (suc (suc n)) h = absurd (omega arith)

pub digit : (x k : ℕ) → (x / 2 ^ k % 2 ≡ 0) ⊎ (x / 2 ^ k % 2 ≡ 1)
digit x k = two _ (mod-lt _ (lit< tt))

or_two : (a b : ℕ) → (a ≡ 0) ⊎ (a ≡ 1) → (b ≡ 0) ⊎ (b ≡ 1) → eqb (bit_or a b) 1 ≡ (eqb a 1 || eqb b 1)
or_two a b (inl p) (inl q) = rw (p, q)
or_two a b (inl p) (inr q) = rw (p, q)
or_two a b (inr p) (inl q) = rw (p, q)
or_two a b (inr p) (inr q) = rw (p, q)

and_two : (a b : ℕ) → (a ≡ 0) ⊎ (a ≡ 1) → (b ≡ 0) ⊎ (b ≡ 1) → eqb (bit_and a b) 1 ≡ (eqb a 1 && eqb b 1)
and_two a b (inl p) (inl q) = rw p
and_two a b (inl p) (inr q) = rw p
and_two a b (inr p) (inl q) = rw (p, q)
and_two a b (inr p) (inr q) = rw (p, q)

minus_two : (a b : ℕ) → (a ≡ 0) ⊎ (a ≡ 1) → (b ≡ 0) ⊎ (b ≡ 1) → eqb (bit_xor a (bit_and a b)) 1 ≡ (eqb a 1 && not (eqb b 1))
minus_two a b (inl p) (inl q) = rw p
minus_two a b (inl p) (inr q) = rw p
minus_two a b (inr p) (inl q) = rw (p, q)
minus_two a b (inr p) (inr q) = rw (p, q)

pub has_union : (x y k : ℕ) → has (union x y) k ≡ (has x k || has y k)
unfolding has
has_union x y k =
    ap (λ n. eqb (n % 2) 1) (or_shr x y k) ∙ ap (λ n. eqb n 1) (or_mod (x / 2 ^ k) (y / 2 ^ k) 1) ∙ or_two _ _ (digit x k) (digit y k)

pub has_meet : (x y k : ℕ) → has (meet x y) k ≡ (has x k && has y k)
unfolding has
has_meet x y k =
    ap (λ n. eqb (n % 2) 1) (and_shr x y k) ∙ ap (λ n. eqb n 1) (and_mod (x / 2 ^ k) (y / 2 ^ k) 1) ∙ and_two _ _ (digit x k) (digit y k)

pub has_minus : (x y k : ℕ) → has (minus x y) k ≡ (has x k && not (has y k))
unfolding has
has_minus x y k =
    ap (λ n. eqb (n % 2) 1) (xor_shr x (bit_and x y) k ∙ ap (λ n. bit_xor (x / 2 ^ k) n) (and_shr x y k))
    ∙ ap (λ n. eqb n 1) (xor_mod (x / 2 ^ k) (bit_and (x / 2 ^ k) (y / 2 ^ k)) 1 ∙ ap (λ n. bit_xor (x / 2 ^ k % 2) n) (and_mod (x / 2 ^ k) (y / 2 ^ k) 1))
    ∙ minus_two _ _ (digit x k) (digit y k)

pub has_none : (k : ℕ) → has 0 k ≡ false
unfolding has
has_none k = ap (λ n. eqb (n % 2) 1) (zero-div (2 ^ k))

-- the rest of a set is the set without its lowest digit
pub has_half : (x k : ℕ) → has (x / 2) k ≡ has x (suc k)
unfolding has
has_half x k = let e : 1 + k ≡ suc k = omega arith in ap (λ n. eqb (n % 2) 1) (shr-shr x 1 k ∙ ap (λ j. x / 2 ^ j) e)

-- a set moved down by j
pub has_shr : (x j k : ℕ) → has (x / 2 ^ j) k ≡ has x (j + k)
unfolding has
has_shr x j k = ap (λ n. eqb (n % 2) 1) (shr-shr x j k)

pub has_single : (k j : ℕ) → has (single k) j ≡ eqb j k
unfolding has
has_single zero zero = refl
has_single (suc k) zero = ap (λ n. eqb (n % 2) 1) (div-one (2 ^ suc k) ∙ pow-suc 2 k) ∙ ap (λ n. eqb n 1) (mul-mod_left (2 ^ k) 2) ∙ sym (eqb-zero-suc k)
has_single zero (suc j) = sym (has_half 1 j) ∙ has_none j ∙ sym (eqb-suc-zero j)
has_single (suc k) (suc j) = sym (has_half (2 ^ suc k) j) ∙ ap (λ n. has n j) (ap (λ n. n / 2) (pow-suc 2 k) ∙ mul-div_cancel (2 ^ k) (lit< tt)) ∙ has_single k j ∙ sym (eqb-suc-suc j k)

pub has_when : (b : Bool) (x k : ℕ) → has (when b x) k ≡ (b && has x k)
has_when true x k = refl
has_when false x k = has_none k

-- a number below 2 ^ n has members below n only
pub has_past : (x n k : ℕ) → x < 2 ^ n → n ≤ k → has x k ≡ false
unfolding has
has_past x n k h l = ap (λ m. eqb (m % 2) 1) (div-eq_of_lt (lt_pow x n k h l))
  where
    lt_pow : (x n k : ℕ) → x < 2 ^ n → n ≤ k → x < 2 ^ k
    lt_pow x n k h l = elim (cases_eq n k) [ inl e ↦ rw e at h | inr ne ↦ omega (arith, pow_below n k (omega arith)) ]

pub has_up_to : (n k : ℕ) → has (up_to n) k ≡ ltb k n
unfolding has
has_up_to zero k = has_none k ∙ sym (le-ltb k 0 (omega arith))
has_up_to (suc n) zero =
    let odd : up_to (suc n) % 2 ≡ 1 = omega (arith, pow-suc 2 n, pow_pos n) in
    ap (λ m. eqb (m % 2) 1) (div-one (up_to (suc n))) ∙ ap (λ m. eqb m 1) odd ∙ sym (lt-ltb 0 (suc n) (omega arith))
has_up_to (suc n) (suc k) =
    let half : up_to (suc n) / 2 ≡ up_to n = omega (arith, pow-suc 2 n, pow_pos n) in
    sym (has_half (up_to (suc n)) k) ∙ ap (λ m. has m k) half ∙ has_up_to n k ∙ same_lt k n
  where
    same_lt : (k n : ℕ) → ltb k n ≡ ltb (suc k) (suc n)
    same_lt k n = elim (cases_lt k n) [ inl l ↦ lt-ltb k n l ∙ sym (lt-ltb (suc k) (suc n) (omega arith)) | inr l ↦ le-ltb k n l ∙ sym (le-ltb (suc k) (suc n) (omega arith)) ]

digit_same : (a b : ℕ) → (a ≡ 0) ⊎ (a ≡ 1) → (b ≡ 0) ⊎ (b ≡ 1) → eqb a 1 ≡ eqb b 1 → a ≡ b
digit_same a b (inl p) (inl q) e = p ∙ sym q
digit_same a b (inl p) (inr q) e = let z : ◌≡◌ {A = Bool} false true = rw (p, q) at e in cc
digit_same a b (inr p) (inl q) e = let z : ◌≡◌ {A = Bool} true false = rw (p, q) at e in cc
digit_same a b (inr p) (inr q) e = p ∙ sym q

-- sets of numbers below n with the same members are equal
pub same_members : (n a b : ℕ) → a < 2 ^ n → b < 2 ^ n → ((k : ℕ) → k < n → has a k ≡ has b k) → a ≡ b
unfolding has
same_members zero a b ha hb h = omega arith
same_members (suc n) a b ha hb h =
    let top : a / 2 ^ 0 % 2 ≡ b / 2 ^ 0 % 2 = digit_same _ _ (digit a 0) (digit b 0) (h 0 (omega arith)) in
    let wide : suc n ≡ n + 1 = omega arith in
    let rest = same_members n (a / 2) (b / 2) (shr_below a n 1 (rw wide at ha)) (shr_below b n 1 (rw wide at hb)) (λ k lt. has_half a k ∙ h (suc k) (omega arith) ∙ sym (has_half b k)) in
    omega (arith, rest, top)

-- what stands below the lowest member, and the lowest member itself
pub lowest_below : (k n j : ℕ) → j < count_trailing_zeros k n → has n j ≡ false
unfolding count_trailing_zeros has
lowest_below zero n j h = absurd (omega arith)
lowest_below (suc k) n zero h =
    elim (digit n 0) [
      | inl e ↦ ap (λ m. eqb m 1) e
      | inr e ↦ (let f : n % 2 ≡ 1 = omega arith in absurd (let z : 0 < 0 = rw f at h in omega arith))
    ]
lowest_below (suc k) n (suc j) h =
    elim (digit n 0) [
      | inl e ↦ (let f : n % 2 ≡ 0 = omega arith in let g : suc j < suc (count_trailing_zeros k (n / 2)) = rw f at h in sym (has_half n j) ∙ lowest_below k (n / 2) j (omega arith))
      | inr e ↦ (let f : n % 2 ≡ 1 = omega arith in absurd (let z : suc j < 0 = rw f at h in omega arith))
    ]

pub lowest_is : (k n : ℕ) → count_trailing_zeros k n < k → has n (count_trailing_zeros k n) ≡ true
unfolding count_trailing_zeros has
lowest_is zero n h = absurd (omega arith)
lowest_is (suc k) n h =
    elim (digit n 0) [
      | inl e ↦ (let f : n % 2 ≡ 0 = omega arith in let g : suc (count_trailing_zeros k (n / 2)) < suc k = rw f at h in rw f (sym (has_half n (count_trailing_zeros k (n / 2))) ∙ lowest_is k (n / 2) (omega arith)))
      | inr e ↦ (let f : n % 2 ≡ 1 = omega arith in rw f (ap (λ m. eqb m 1) e))
    ]
