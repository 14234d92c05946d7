-- Laws of sums, counts and maxima.
use Rattle.std.proofs.Common.{◌≡◌, ℕ, zero, suc, ◌+◌, ◌*◌, ◌<◌, ◌≤◌, Bool, true, false, cond, ◌&&◌, eqb, ltb, ◌⊎◌, refl, inl, inr, add-zero, add-suc, mul-suc, mul-add, add-one, arith}
use Rattle.std.proofs.lemmas.Bool.{cases_Bool, cases_lt, cases_eq, eq-eqb, ne_eqb, lt-ltb, le-ltb}
use Rattle.counting.specs.Counting.{sum, count, most}

-- only the values below n count
pub sum_ext : (f g : ℕ → ℕ) (n : ℕ) → ((k : ℕ) → k < n → f k ≡ g k) → sum f n ≡ sum g n
unfolding sum
sum_ext f g zero h = refl
sum_ext f g (suc n) h = omega (arith, h n (omega arith), sum_ext f g n (λ k l. h k (omega arith)))

pub sum_more : (f : ℕ → ℕ) (n : ℕ) → sum f (n + 1) ≡ f n + sum f n
unfolding sum
sum_more f n = rw add-one

pub sum_split : (f : ℕ → ℕ) (a b : ℕ) → sum f (a + b) ≡ sum f a + sum (λ k. f (a + k)) b
unfolding sum
sum_split f a zero = rw add-zero (omega arith)
sum_split f a (suc b) = rw add-suc (omega (arith, sum_split f a b))

pub sum_le : (f : ℕ → ℕ) (m n : ℕ) → ((k : ℕ) → k < n → f k ≤ m) → sum f n ≤ m * n
unfolding sum
sum_le f m zero h = omega arith
sum_le f m (suc n) h = omega (arith, h n (omega arith), sum_le f m n (λ k l. h k (omega arith)), mul-suc m n)

pub sum_mono : (f : ℕ → ℕ) (a b : ℕ) → a ≤ b → sum f a ≤ sum f b
unfolding sum
sum_mono f a zero h = let e : a ≡ 0 = omega arith in rw e (omega arith)
sum_mono f a (suc b) h = elim (cases_eq a (suc b)) [ inl e ↦ rw e (omega arith) | inr n ↦ omega (arith, sum_mono f a b (omega arith)) ]

-- a sum grows with its values
pub sum_below : (f g : ℕ → ℕ) (n : ℕ) → ((k : ℕ) → k < n → f k ≤ g k) → sum f n ≤ sum g n
unfolding sum
sum_below f g zero h = omega arith
sum_below f g (suc n) h = omega (arith, h n (omega arith), sum_below f g n (λ k l. h k (omega arith)))

pub count_le : (t : ℕ → Bool) (n : ℕ) → count t n ≤ n
count_le t n = omega (arith, sum_le (λ k. cond (t k) 1 0) 1 n (λ k l. grind arith))

-- each value below n is at most the largest
pub most_above : (f : ℕ → ℕ) (n k : ℕ) → k < n → f k ≤ most f n
unfolding most
most_above f zero k h = absurd (omega arith)
most_above f (suc n) k h =
    elim (cases_eq k n) [ inl e ↦ rw e (omega arith) | inr ne ↦ omega (arith, most_above f n k (omega arith)) ]

-- the largest value is attained, or 0
pub most_attained : (f : ℕ → ℕ) (n : ℕ) → (most f n ≡ 0) ⊎ ((k : ℕ) × (k < n) × (f k ≡ most f n))
unfolding most
most_attained f zero = inl refl
most_attained f (suc n) =
    elim (cases_lt (most f n) (f n)) [
      | inl l ↦ inr (n, omega arith, omega arith)
      | inr l ↦ elim (most_attained f n) [
        | inl z ↦ inl (omega arith)
        | inr (k, lt, e) ↦ inr (k, omega arith, omega arith)
      ]
    ]

-- one class more: a sum by class from the count of the class
pub class_more : (nb : ℕ → Bool) (cls : ℕ → ℕ) (q : ℕ → ℕ) (c n : ℕ) →
    sum (λ m. cond (nb m && ltb (cls m) (c + 1)) (q (cls m)) 0) n
    ≡ sum (λ m. cond (nb m && ltb (cls m) c) (q (cls m)) 0) n + q c * count (λ m. nb m && eqb (cls m) c) n
unfolding sum
class_more nb cls q c zero = omega arith
class_more nb cls q c (suc n) =
    let ih = class_more nb cls q c n in
    elim (cases_Bool (nb n)) [
      | inl e ↦ elim (cases_eq (cls n) c) [
        | inl f ↦ rw (e, f, eq-eqb c c refl, lt-ltb c (c + 1) (omega arith), le-ltb c c (omega arith)) (omega (arith, ih, mul-add (q c) 1 (count (λ m. nb m && eqb (cls m) c) n)))
        | inr f ↦ elim (cases_lt (cls n) c) [
          | inl l ↦ rw (e, ne_eqb (cls n) c f, lt-ltb (cls n) (c + 1) (omega arith), lt-ltb (cls n) c l) (omega (arith, ih))
          | inr l ↦ rw (e, ne_eqb (cls n) c f, le-ltb (cls n) (c + 1) (omega arith), le-ltb (cls n) c l) (omega (arith, ih))
        ]
      ]
      | inr e ↦ rw e (omega (arith, ih))
    ]

pub none_below : (nb : ℕ → Bool) (cls q : ℕ → ℕ) (n : ℕ) → sum (λ m. cond (nb m && ltb (cls m) 0) (q (cls m)) 0) n ≡ 0
unfolding sum
none_below nb cls q zero = refl
none_below nb cls q (suc n) =
    elim (cases_Bool (nb n)) [
      | inl e ↦ rw (e, le-ltb (cls n) 0 (omega arith)) (omega (arith, none_below nb cls q n))
      | inr e ↦ rw e (omega (arith, none_below nb cls q n))
    ]

-- none passes
pub count_none : (t : ℕ → Bool) (n : ℕ) → ((k : ℕ) → k < n → t k ≡ false) → count t n ≡ 0
unfolding sum
count_none t zero h = refl
count_none t (suc n) h = rw (h n (omega arith)) (omega (arith, count_none t n (λ k l. h k (omega arith))))

pub most_none : (f : ℕ → ℕ) (n : ℕ) → ((k : ℕ) → k < n → f k ≡ 0) → most f n ≡ 0
unfolding most
most_none f zero h = refl
most_none f (suc n) h = rw (h n (omega arith), most_none f n (λ k l. h k (omega arith)))

-- the step of a loop that counts
pub count_yes : (t : ℕ → Bool) (n a b : ℕ) → a ≡ count t n → t n ≡ true → b ≡ a + 1 → b ≡ count t (n + 1)
unfolding sum
count_yes t n a b e h next = rw (add-one, h) (omega arith)

pub count_no : (t : ℕ → Bool) (n a b : ℕ) → a ≡ count t n → t n ≡ false → b ≡ a → b ≡ count t (n + 1)
unfolding sum
count_no t n a b e h next = rw (add-one, h) (omega arith)
