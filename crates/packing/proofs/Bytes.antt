-- A number as bytes, and bytes as a number.
use Rattle.std.proofs.Common.{◌≡◌, ℕ, zero, suc, ◌+◌, ◌*◌, ◌/◌, ◌%◌, ◌^◌, ◌<◌, ◌≤◌, List, [], ◌∷◌, ◌++◌, length, get_or, take, sym, refl, ap, ◌∙◌, inl, inr, mod-lt, mod-eq_of_lt, zero-add, arith, lit<, take-suc, pow-add}
use lib.Seq.{take-length}
use lib.Pow.{high, low}
use Rattle.std.proofs.lemmas.Bool.{cases_lt}
use Rattle.std.proofs.lemmas.List.{get_or_append_left, get_or_push, length_push}
use Rattle.source.specs.Bits.{number}
use Rattle.packing.specs.Packing.{bytes}
use Rattle.packing.specs.Inverse.{AreBytes}

-- the first n bytes come back from their number
bytes_front : (bs : List ℕ) → AreBytes bs → (n : ℕ) → n ≤ length bs → bytes n (number bs 0 n) ≡ take n bs
unfolding bytes number
bytes_front bs ok zero h = refl
bytes_front bs ok (suc n) h =
    let lt = ok n (omega arith) in
    let z : get_or bs (0 + n) 0 % 256 ≡ get_or bs n 0 = rw zero-add (mod-eq_of_lt lt) in
    rw (z, high (number bs 0 n) 8 lt, low (number bs 0 n) 8 lt, bytes_front bs ok n (omega arith)) (sym (take-suc bs n 0 (omega arith)))

pub bytes_number : (bs : List ℕ) → AreBytes bs → bytes (length bs) (number bs 0 (length bs)) ≡ bs
bytes_number bs ok = bytes_front bs ok (length bs) (omega arith) ∙ take-length bs

pub length_bytes : (n x : ℕ) → length (bytes n x) ≡ n
unfolding bytes
length_bytes zero x = refl
length_bytes (suc n) x = omega (arith, length_push (bytes n (x / 256)) (x % 256), length_bytes n (x / 256))

pub bytes_are : (n x : ℕ) → AreBytes (bytes n x)
unfolding bytes
bytes_are zero x k h = absurd (omega arith)
bytes_are (suc n) x k h =
    let l = length_bytes n (x / 256) in
    elim (cases_lt k n) [
      | inl e ↦ rw (get_or_append_left (bytes n (x / 256)) (x % 256 ∷ []) 0 k (omega arith)) (bytes_are n (x / 256) k (omega arith))
      | inr e ↦ (let f : length (bytes n (x / 256)) ≡ k = omega (arith, length_push (bytes n (x / 256)) (x % 256)) in rw (get_or_push (bytes n (x / 256)) (x % 256) 0 k f) (mod-lt x {m = 256} (lit< tt)))
    ]

-- bytes further on do not count
number_front : (xs ys : List ℕ) (n : ℕ) → n ≤ length xs → number (xs ++ ys) 0 n ≡ number xs 0 n
unfolding number
number_front xs ys zero h = refl
number_front xs ys (suc n) h = let l : 0 + n < length xs = omega arith in rw (number_front xs ys n (omega arith), get_or_append_left xs ys 0 (0 + n) l)

pub number_bytes : (n x : ℕ) → x < 2 ^ (8 * n) → number (bytes n x) 0 n ≡ x
unfolding number bytes
number_bytes zero x h = omega arith
number_bytes (suc n) x h =
    let up : 2 ^ (8 * suc n) ≡ 2 ^ (8 * n) * 256 = (let e : 8 * suc n ≡ 8 * n + 8 = omega arith in ap (λ (m : ℕ). 2 ^ m) e ∙ pow-add 2 (8 * n) 8) in
    let l : length (bytes n (x / 256)) ≡ 0 + n = omega (arith, length_bytes n (x / 256)) in
    rw (number_front (bytes n (x / 256)) (x % 256 ∷ []) n (omega arith), number_bytes n (x / 256) (omega arith), get_or_push (bytes n (x / 256)) (x % 256) 0 (0 + n) l) (omega arith)
