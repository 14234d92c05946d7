-- Laws of any, all and least.
use Rattle.std.proofs.Common.{◌≡◌, ℕ, zero, suc, ◌+◌, ◌<◌, ◌≤◌, Bool, true, false, ◌&&◌, ◌||◌, sym, refl, ◌∙◌, inl, inr, add-one, arith}
use Rattle.std.proofs.lemmas.Bool.{cases_Bool, cases_lt, cases_eq, cases_order, both_ways, or_right, and_parts}
use Rattle.std.proofs.lemmas.Bool.Decides.{nat_tests}
use Rattle.counting.specs.Counting.{any, all, least}

pub any_more : (t : ℕ → Bool) (n : ℕ) → any t (n + 1) ≡ (t n || any t n)
unfolding any
any_more t n = rw add-one

pub any_ext : (s t : ℕ → Bool) (n : ℕ) → ((k : ℕ) → k < n → s k ≡ t k) → any s n ≡ any t n
unfolding any
any_ext s t zero h = refl
any_ext s t (suc n) h = rw (h n (omega arith), any_ext s t n (λ k l. h k (omega arith)))

-- one that passes is enough
pub any_is : (t : ℕ → Bool) (n k : ℕ) → k < n → t k ≡ true → any t n ≡ true
unfolding any
any_is t zero k l h = absurd (omega arith)
any_is t (suc n) k l h =
    elim (cases_eq k n) [
      | inl e ↦ (let g : t n ≡ true = rw e at h in rw g)
      | inr e ↦ or_right (t n) (any t n) (any_is t n k (omega arith) h)
    ]

pub any_none : (t : ℕ → Bool) (n : ℕ) → ((k : ℕ) → k < n → t k ≡ false) → any t n ≡ false
unfolding any
any_none t zero h = refl
any_none t (suc n) h = rw (h n (omega arith)) (any_none t n (λ k l. h k (omega arith)))

-- what any found
pub any_found : (t : ℕ → Bool) (n : ℕ) → any t n ≡ true → (k : ℕ) × (k < n) × (t k ≡ true)
unfolding any
any_found t zero h = absurd (both_ways false refl h)
any_found t (suc n) h =
    elim (cases_Bool (t n)) [
      | inl e ↦ (n, omega arith, e)
      | inr e ↦ let (k, l, f) = any_found t n (rw e at h) in (k, omega arith, f)
    ]

pub all_more : (t : ℕ → Bool) (n : ℕ) → all t (n + 1) ≡ (t n && all t n)
unfolding all
all_more t n = rw add-one

pub all_at : (t : ℕ → Bool) (n k : ℕ) → all t n ≡ true → k < n → t k ≡ true
unfolding all
all_at t zero k h l = absurd (omega arith)
all_at t (suc n) k h l =
    let both = and_parts (t n) (all t n) h in
    elim (cases_eq k n) [ inl e ↦ rw e both.0 | inr e ↦ all_at t n k both.1 (omega arith) ]

pub all_from : (t : ℕ → Bool) (n : ℕ) → ((k : ℕ) → k < n → t k ≡ true) → all t n ≡ true
unfolding all
all_from t zero h = refl
all_from t (suc n) h = rw (h n (omega arith)) (all_from t n (λ k l. h k (omega arith)))

pub least_le : (t : ℕ → Bool) (n : ℕ) → least t n ≤ n
unfolding least
least_le t zero = omega arith
least_le t (suc n) = grind (arith, nat_tests, least_le t n)

pub least_below : (t : ℕ → Bool) (n r : ℕ) → r < least t n → t r ≡ false
unfolding least
least_below t zero r h = absurd (omega arith)
least_below t (suc n) r h = grind (arith, nat_tests, least_below t n r, least_le t n)

pub least_found : (t : ℕ → Bool) (n : ℕ) → least t n < n → t (least t n) ≡ true
unfolding least
least_found t zero h = absurd (omega arith)
least_found t (suc n) h = grind (arith, nat_tests, least_below t n, least_found t n, least_le t n)

-- what a scan knows is the least
pub least_is : (t : ℕ → Bool) (n r : ℕ) → r < n → ((k : ℕ) → k < r → t k ≡ false) → t r ≡ true → r ≡ least t n
least_is t n r l below here =
    elim (cases_order r (least t n)) [
      | inl e ↦ e
      | inr (inl k) ↦ absurd (both_ways (t r) (least_below t n r k) here)
      | inr (inr k) ↦ absurd (both_ways (t (least t n)) (below _ k) (least_found t n (omega arith)))
    ]

pub least_none : (t : ℕ → Bool) (n : ℕ) → ((k : ℕ) → k < n → t k ≡ false) → n ≡ least t n
least_none t n h =
    elim (cases_lt (least t n) n) [
      | inl l ↦ absurd (both_ways (t (least t n)) (h _ l) (least_found t n l))
      | inr l ↦ omega (arith, least_le t n)
    ]

-- only what the test says below n counts
pub least_ext : (s t : ℕ → Bool) (n : ℕ) → ((k : ℕ) → k < n → s k ≡ t k) → least s n ≡ least t n
least_ext s t n h =
    elim (cases_lt (least s n) n) [
      | inl l ↦ least_is t n (least s n) l (λ k b. sym (h k (omega arith)) ∙ least_below s n k b) (sym (h _ l) ∙ least_found s n l)
      | inr l ↦ (let e : n ≡ least s n = omega (arith, least_le s n) in sym e ∙ least_none t n (λ k b. sym (h k b) ∙ least_below s n k (omega arith)))
    ]
