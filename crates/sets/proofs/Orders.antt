-- The order of sets by their members below n, and how size follows it. What a number says of n and above does not count.
use Rattle.std.proofs.Common.{◌≡◌, ℕ, zero, suc, ◌+◌, ◌^◌, ◌<◌, ◌≤◌, Bool, true, false, cond, not, ◌&&◌, ◌||◌, sym, refl, ◌∙◌, inl, inr, arith}
use Rattle.std.proofs.lemmas.Bool.{cases_Bool, and_cases, or_left, or_right, or_cases, and_parts}
use Rattle.counting.specs.Counting.{all, sum, count}
use Rattle.counting.proofs.Sums.{count_le}
use Rattle.counting.proofs.Searches.{all_at, all_from}
use Rattle.sets.specs.Sets.{has, union, meet, within, size}
use Rattle.sets.proofs.Members.{has_union, has_meet, same_members}

implied : (a b : Bool) → (not a || b) ≡ true → a ≡ true → b ≡ true
implied true b t e = t
implied false b t e = cc

implies : (a b : Bool) → (a ≡ true → b ≡ true) → (not a || b) ≡ true
implies true b h = h refl
implies false b h = refl

pub within_at : (n x y : ℕ) → within n x y ≡ true → (k : ℕ) → k < n → has x k ≡ true → has y k ≡ true
unfolding within
within_at n x y t k h = implied (has x k) (has y k) (all_at (λ k. not (has x k) || has y k) n k t h)

pub within_from : (n x y : ℕ) → ((k : ℕ) → k < n → has x k ≡ true → has y k ≡ true) → within n x y ≡ true
unfolding within
within_from n x y h = all_from (λ k. not (has x k) || has y k) n (λ k lt. implies (has x k) (has y k) (h k lt))

pub within_same : (n x : ℕ) → within n x x ≡ true
within_same n x = within_from n x x (λ k h e. e)

pub within_chain : (n x y z : ℕ) → within n x y ≡ true → within n y z ≡ true → within n x z ≡ true
within_chain n x y z a b = within_from n x z (λ k h e. within_at n y z b k h (within_at n x y a k h e))

pub union_left : (n x y : ℕ) → within n x (union x y) ≡ true
union_left n x y = within_from n x (union x y) (λ k h e. has_union x y k ∙ or_left _ _ e)

pub union_right : (n x y : ℕ) → within n y (union x y) ≡ true
union_right n x y = within_from n y (union x y) (λ k h e. has_union x y k ∙ or_right _ _ e)

pub union_lowest : (n x y z : ℕ) → within n x z ≡ true → within n y z ≡ true → within n (union x y) z ≡ true
union_lowest n x y z a b = within_from n (union x y) z (λ k h e.
    elim (or_cases (has x k) (has y k) (sym (has_union x y k) ∙ e)) [ inl p ↦ within_at n x z a k h p | inr p ↦ within_at n y z b k h p ])

pub meet_left : (n x y : ℕ) → within n (meet x y) x ≡ true
meet_left n x y = within_from n (meet x y) x (λ k h e. let f : (has x k && has y k) ≡ true = sym (has_meet x y k) ∙ e in (and_parts (has x k) (has y k) f).0)

pub meet_right : (n x y : ℕ) → within n (meet x y) y ≡ true
meet_right n x y = within_from n (meet x y) y (λ k h e. let f : (has x k && has y k) ≡ true = sym (has_meet x y k) ∙ e in (and_parts (has x k) (has y k) f).1)

pub meet_greatest : (n x y z : ℕ) → within n z x ≡ true → within n z y ≡ true → within n z (meet x y) ≡ true
meet_greatest n x y z a b = within_from n z (meet x y) (λ k h e.
    has_meet x y k ∙ (let p = within_at n z x a k h e in let q = within_at n z y b k h e in rw (p, q)))

-- within one another, and of numbers below n only: equal
pub within_both : (n x y : ℕ) → x < 2 ^ n → y < 2 ^ n → within n x y ≡ true → within n y x ≡ true → x ≡ y
within_both n x y hx hy a b = same_members n x y hx hy (λ k l.
    elim (cases_Bool (has x k)) [
      | inl e ↦ e ∙ sym (within_at n x y a k l e)
      | inr e ↦ elim (cases_Bool (has y k)) [ inl f ↦ within_at n y x b k l f ∙ sym f | inr f ↦ e ∙ sym f ]
    ])

count_up : (f g : ℕ → Bool) (n : ℕ) → ((k : ℕ) → k < n → f k ≡ true → g k ≡ true) → count f n ≤ count g n
unfolding sum
count_up f g zero h = omega arith
count_up f g (suc n) h =
    let rest = count_up f g n (λ k lt. h k (omega arith)) in
    elim (cases_Bool (f n)) [ inl e ↦ rw (e, h n (omega arith) e) (omega arith) | inr e ↦ rw e (omega arith) ]

count_more : (f g : ℕ → Bool) (n : ℕ) → ((k : ℕ) → k < n → f k ≡ true → g k ≡ true) → all (λ k. not (g k) || f k) n ≡ false → count f n < count g n
unfolding sum all
count_more f g zero h t = absurd (let z : ◌≡◌ {A = ℕ} 0 1 = cc in omega arith)
count_more f g (suc n) h t =
    let up = count_up f g n (λ k lt. h k (omega arith)) in
    elim (and_cases (not (g n) || f n) (all (λ k. not (g k) || f k) n) t) [
      | inl e ↦ here (f n) (g n) e up
      | inr e ↦ (let more = count_more f g n (λ k lt. h k (omega arith)) e in
          elim (cases_Bool (f n)) [ inl p ↦ rw (p, h n (omega arith) p) (omega arith) | inr p ↦ rw p (omega arith) ])
    ]
  where
    here : (a b : Bool) → (not b || a) ≡ false → count f n ≤ count g n → cond a 1 0 + count f n < cond b 1 0 + count g n
    here a true e up = rw e (omega arith)
    here a false e up = absurd (let z : ◌≡◌ {A = ℕ} 0 1 = cc in omega arith)

pub size_level : (n x y : ℕ) → within n x y ≡ true → size n x ≤ size n y
size_level n x y a = count_up (has x) (has y) n (within_at n x y a)

pub size_rises : (n x y : ℕ) → within n x y ≡ true → within n y x ≡ false → size n x < size n y
unfolding within
size_rises n x y a b = count_more (has x) (has y) n (within_at n x y a) b

pub size_capped : (n x : ℕ) → size n x ≤ n
size_capped n x = count_le (has x) n
