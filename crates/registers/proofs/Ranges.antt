-- Counts over a range as a list.
use Rattle.std.proofs.Common.{◌≡◌, ℕ, zero, suc, ◌+◌, Bool, cond, refl, ap, sym, ◌∙◌, add-zero, zero-add, arith}
use Rattle.std.specs.List.{range_with_len, count_by}
use Rattle.std.proofs.lemmas.List.Sums.{sum_by-cons}
use Rattle.counting.specs.Counting.{sum, count as count_of}
use Rattle.counting.proofs.Sums.{sum_ext, sum_split}

counts_from : (t : ℕ → Bool) (n a : ℕ) → count_by t (range_with_len a n) ≡ sum (λ k. cond (t (a + k)) 1 0) n
unfolding sum
counts_from t zero a = refl
counts_from t (suc n) a =
    let f : ℕ → ℕ = λ k. cond (t (a + k)) 1 0 in
    let rest = counts_from t n (a + 1) in
    let same = sum_ext (λ k. cond (t (a + 1 + k)) 1 0) (λ k. f (1 + k)) n (λ k l. let e : a + 1 + k ≡ a + (1 + k) = omega arith in ap (λ i. cond (t i) 1 0) e) in
    let next : 1 + n ≡ suc n = omega arith in
    let split : sum f (suc n) ≡ f 0 + 0 + sum (λ k. f (1 + k)) n = ap (sum f) (sym next) ∙ sum_split f 1 n in
    let first : f 0 ≡ cond (t a) 1 0 = ap (λ i. cond (t i) 1 0) (add-zero a) in
    omega (arith, sum_by-cons (λ i. cond (t i) 1 0) a (range_with_len (a + 1) n), same, rest, split, first)

pub counts : (t : ℕ → Bool) (n : ℕ) → count_by t (range_with_len 0 n) ≡ count_of t n
counts t n = counts_from t n 0 ∙ sum_ext (λ k. cond (t (0 + k)) 1 0) (λ k. cond (t k) 1 0) n (λ k l. ap (λ i. cond (t i) 1 0) (zero-add k))
