-- Counts of numbers that pass one of two tests, and of all but one.
use Rattle.std.proofs.Common.{◌≡◌, ℕ, zero, suc, ◌+◌, ◌<◌, ◌≤◌, Bool, true, false, cond, ◌||◌, refl, ap, inl, inr, arith}
use Rattle.std.proofs.lemmas.Bool.{cases_Bool, cases_eq, both_ways}
use Rattle.counting.specs.Counting.{sum, count, any}
use Rattle.counting.proofs.Sums.{sum_ext}
use Rattle.counting.proofs.Searches.{any_is}

pub any_false : (t : ℕ → Bool) (n k : ℕ) → any t n ≡ false → k < n → t k ≡ false
any_false t n k h l = elim (cases_Bool (t k)) [ inl e ↦ absurd (both_ways _ h (any_is t n k l e)) | inr e ↦ e ]

bit : (s t u : Bool) → (s ≡ true → (t || u) ≡ true) → cond s 1 0 ≤ cond t 1 0 + cond u 1 0
bit s t u h = grind arith

pub count_or : (s t u : ℕ → Bool) (n : ℕ) → ((r : ℕ) → r < n → s r ≡ true → (t r || u r) ≡ true) → count s n ≤ count t n + count u n
unfolding sum
count_or s t u zero h = omega arith
count_or s t u (suc n) h = omega (arith, count_or s t u n (λ r k. h r (omega arith)), bit (s n) (t n) (u n) (h n (omega arith)))

pub count_up : (s t : ℕ → Bool) (n : ℕ) → ((k : ℕ) → k < n → s k ≡ true → t k ≡ true) → count s n ≤ count t n
unfolding sum
count_up s t zero h = omega arith
count_up s t (suc n) h =
    let rest = count_up s t n (λ k lt. h k (omega arith)) in
    elim (cases_Bool (s n)) [ inl e ↦ rw (e, h n (omega arith) e) (omega arith) | inr e ↦ rw e (omega arith) ]

-- where more pass t than s, one passes t and not s
pub more_found : (s t : ℕ → Bool) (n : ℕ) → count s n < count t n → (k : ℕ) × (k < n) × (t k ≡ true) × (s k ≡ false)
unfolding sum
more_found s t zero h = absurd (omega arith)
more_found s t (suc n) h =
    elim (cases_Bool (t n)) [
      | inl e ↦ elim (cases_Bool (s n)) [
        | inl f ↦ (let less : suc (1 + count s n) ≤ 1 + count t n = rw (e, f) at h in on (more_found s t n (omega arith)))
        | inr f ↦ (n, omega arith, e, f)
      ]
      | inr e ↦ (let less : suc (cond (s n) 1 0 + count s n) ≤ 0 + count t n = rw e at h in on (more_found s t n (omega arith)))
    ]
  where
    on : (k : ℕ) × (k < n) × (t k ≡ true) × (s k ≡ false) → (k : ℕ) × (k < suc n) × (t k ≡ true) × (s k ≡ false)
    on (k, l, e, f) = (k, omega arith, e, f)

-- where some pass, one does
pub some_found : (t : ℕ → Bool) (n : ℕ) → 0 < count t n → (k : ℕ) × (k < n) × (t k ≡ true)
unfolding sum
some_found t zero h = absurd (omega arith)
some_found t (suc n) h =
    elim (cases_Bool (t n)) [
      | inl e ↦ (n, omega arith, e)
      | inr e ↦ (let more : 0 < 0 + count t n = rw e at h in on (some_found t n (omega arith)))
    ]
  where
    on : (k : ℕ) × (k < n) × (t k ≡ true) → (k : ℕ) × (k < suc n) × (t k ≡ true)
    on (k, l, e) = (k, omega arith, e)

-- all that pass t but one
pub count_without : (s t : ℕ → Bool) (v n : ℕ) → v < n → t v ≡ true → s v ≡ false → ((k : ℕ) → (k ≡ v → ⊥) → s k ≡ t k) → count t n ≡ suc (count s n)
unfolding sum
count_without s t v zero l e f h = absurd (omega arith)
count_without s t v (suc n) l e f h =
    elim (cases_eq v n) [
      | inl p ↦ (let et : t n ≡ true = rw p at e in let fs : s n ≡ false = rw p at f in rw (et, fs) (omega (arith, same n (λ k b. h k (λ q. omega arith)))))
      | inr p ↦ rw (h n (λ q. omega arith)) (omega (arith, count_without s t v n (omega arith) e f h))
    ]
  where
    same : (n : ℕ) → ((k : ℕ) → k < n → s k ≡ t k) → count s n ≡ count t n
    same n h = sum_ext (λ k. cond (s k) 1 0) (λ k. cond (t k) 1 0) n (λ k b. ap (λ (x : Bool). cond x 1 0) (h k b))

pub none_counted : (t : ℕ → Bool) (n k : ℕ) → count t n ≡ 0 → k < n → t k ≡ false
unfolding sum
none_counted t zero k e l = absurd (omega arith)
none_counted t (suc n) k e l =
    elim (cases_Bool (t n)) [
      | inl f ↦ absurd (let z : 1 + count t n ≡ 0 = rw f at e in omega arith)
      | inr f ↦ (let rest : 0 + count t n ≡ 0 = rw f at e in elim (cases_eq k n) [ inl p ↦ rw p f | inr p ↦ none_counted t n k (omega arith) (omega arith) ])
    ]

-- a sum in which at most one number counts
pub sum_one : (t : ℕ → Bool) (f : ℕ → ℕ) (b n : ℕ) → 0 < b → ((k : ℕ) → f k < b) → ((x y : ℕ) → t x ≡ true → t y ≡ true → x ≡ y) →
    sum (λ k. cond (t k) (f k) 0) n < b
unfolding sum
sum_one t f b zero pos small one = pos
sum_one t f b (suc n) pos small one =
    elim (cases_Bool (t n)) [
      | inl e ↦ rw e (omega (arith, small n, rest n (λ k l. elim (cases_Bool (t k)) [ inl g ↦ absurd (omega (arith, one k n g e)) | inr g ↦ g ])))
      | inr e ↦ rw e (omega (arith, sum_one t f b n pos small one))
    ]
  where
    rest : (j : ℕ) → ((k : ℕ) → k < j → t k ≡ false) → sum (λ k. cond (t k) (f k) 0) j ≡ 0
    rest zero h = refl
    rest (suc j) h = rw (h j (omega arith)) (omega (arith, rest j (λ k l. h k (omega arith))))
