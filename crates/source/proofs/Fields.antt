-- Laws of the numbers in a row of bytes and of the fields in a row of bits.
use Rattle.std.proofs.Common.{◌≡◌, ℕ, zero, suc, ◌+◌, ◌-◌, ◌*◌, ◌/◌, ◌%◌, ◌^◌, ◌<◌, ◌≤◌, List, length, get_or, take, drop, sym, refl, ap, ◌∙◌, add-zero, add_assoc, add-suc, mod-lt, mul_assoc, arith, lit<, pow-add}
use native.Mathlib.Nat.{mul-add-div_right, mul-add-mod_self_right}
use lib.Pow.{high, mod-mod-pow, field as field_of}
use Rattle.std.proofs.lemmas.Nat.{pow_pos, shr-shr}
use Rattle.std.specs.List.{slice_range}
use Rattle.std.proofs.lemmas.List.{get_or-take, get_or-drop}
use Rattle.source.specs.Bits.{number, field}
use Rattle.source.specs.Reading.{part}

pub number_none : (bs : List ℕ) (i : ℕ) → 0 ≡ number bs i 0
unfolding number
number_none bs i = refl

pub number_more : (bs : List ℕ) (i n : ℕ) → number bs i (suc n) ≡ number bs i n * 256 + get_or bs (i + n) 0 % 256
unfolding number
number_more bs i n = refl

pow_byte : (n : ℕ) → 2 ^ (8 * suc n) ≡ 2 ^ (8 * n) * 256
pow_byte n = let e : 8 * suc n ≡ 8 * n + 8 = omega arith in ap (λ (m : ℕ). 2 ^ m) e ∙ pow-add 2 (8 * n) 8

pub number_lt : (bs : List ℕ) (i n : ℕ) → number bs i n < 2 ^ (8 * n)
unfolding number
number_lt bs i zero = omega arith
number_lt bs i (suc n) = omega (arith, number_lt bs i n, pow_byte n, mod-lt (get_or bs (i + n) 0) {m = 256} (lit< tt))

-- a row of bytes in two parts
pub number_split : (bs : List ℕ) (i m n : ℕ) → number bs i (m + n) ≡ number bs i m * 2 ^ (8 * n) + number bs (i + m) n
unfolding number
number_split bs i m zero = rw add-zero (omega arith)
number_split bs i m (suc n) =
    rw (add-suc, number_split bs i m n, add_assoc i m n)
    (omega (arith, pow_byte n, ap (λ (x : ℕ). number bs i m * x) (pow_byte n), mul_assoc (number bs i m) (2 ^ (8 * n)) 256))

-- what stands above a part of m + n bits, and below its lowest s, does not count in its n bits
window : (a b m n s : ℕ) → (a * 2 ^ (m + n + s) + b) / 2 ^ s % 2 ^ n ≡ b / 2 ^ s % 2 ^ n
window a b m n s =
    let up : a * 2 ^ (m + n + s) ≡ a * 2 ^ m * 2 ^ n * 2 ^ s = ap (λ (x : ℕ). a * x) (pow-add 2 (m + n) s ∙ ap (λ (x : ℕ). x * 2 ^ s) (pow-add 2 m n)) ∙ sym (mul_assoc a (2 ^ m * 2 ^ n) (2 ^ s)) ∙ ap (λ (x : ℕ). x * 2 ^ s) (sym (mul_assoc a (2 ^ m) (2 ^ n))) in
    ap (λ (x : ℕ). (x + b) / 2 ^ s % 2 ^ n) up ∙ ap (λ (x : ℕ). x % 2 ^ n) (mul-add-div_right (pow_pos s) (a * 2 ^ m * 2 ^ n) b) ∙ mul-add-mod_self_right (a * 2 ^ m) (2 ^ n) (b / 2 ^ s)

-- a field lies in the k bytes that hold its bits
pub field_window : (bs : List ℕ) (byte bit n k : ℕ) → bit < 8 → k ≡ (bit + n + 7) / 8 → byte + k ≤ length bs →
    field bs (8 * byte + bit) n ≡ number bs byte k / 2 ^ (8 * k - (bit + n)) % 2 ^ n
unfolding field
field_window bs byte bit n k small kk inside =
    let c : ℕ = length bs - (byte + k) in
    let r : ℕ = 8 * k - (bit + n) in
    let whole : length bs ≡ byte + k + c = omega arith in
    let below : 8 * length bs - (8 * byte + bit + n) ≡ 8 * c + r = omega arith in
    let eight : 8 * k ≡ bit + n + r = omega arith in
    ap (λ (x : ℕ). number bs 0 (length bs) / 2 ^ x % 2 ^ n) below
    ∙ ap (λ (x : ℕ). x % 2 ^ n) (sym (shr-shr (number bs 0 (length bs)) (8 * c) r))
    ∙ ap (λ (x : ℕ). x / 2 ^ r % 2 ^ n)
    (ap (λ (x : ℕ). number bs 0 x / 2 ^ (8 * c)) whole ∙ ap (λ (x : ℕ). x / 2 ^ (8 * c)) (number_split bs 0 (byte + k) c) ∙ high (number bs 0 (byte + k)) (8 * c) (number_lt bs (0 + (byte + k)) c)
    ∙ number_split bs 0 byte k ∙ zero_first byte)
    ∙ ap (λ (x : ℕ). (number bs 0 byte * 2 ^ x + number bs byte k) / 2 ^ r % 2 ^ n) eight
    ∙ window (number bs 0 byte) (number bs byte k) bit n r
  where
    zero_first : (m : ℕ) → number bs 0 byte * 2 ^ (8 * k) + number bs (0 + m) k ≡ number bs 0 byte * 2 ^ (8 * k) + number bs m k
    zero_first m = let e : 0 + m ≡ m = omega arith in ap (λ (x : ℕ). number bs 0 byte * 2 ^ (8 * k) + number bs x k) e

-- a part of a word of 32 bits is a field of its own
pub part_field : (bs : List ℕ) (p q n : ℕ) → q + n ≤ 32 → p + 32 ≤ 8 * length bs → part (field bs p 32) q n ≡ field bs (p + q) n
unfolding field
part_field bs p q n h l =
    let x : ℕ = number bs 0 (length bs) in
    let s : ℕ = 8 * length bs - (p + 32) in
    let t : ℕ = 32 - (q + n) in
    let wide : 32 ≡ q + n + t = omega arith in
    let at : s + t ≡ 8 * length bs - (p + q + n) = omega arith in
    ap (λ (m : ℕ). x / 2 ^ s % 2 ^ m / 2 ^ t % 2 ^ n) wide
    ∙ ap (λ (m : ℕ). m % 2 ^ n) (field_of (x / 2 ^ s) (q + n) t)
    ∙ mod-mod-pow (x / 2 ^ s / 2 ^ t) q n
    ∙ ap (λ (m : ℕ). m % 2 ^ n) (shr-shr x s t)
    ∙ ap (λ (m : ℕ). x / 2 ^ m % 2 ^ n) at

pub field_lt : (bs : List ℕ) (p n : ℕ) → field bs p n < 2 ^ n
unfolding field
field_lt bs p n = mod-lt _ (pow_pos n)

-- two rows of bytes that agree have the same number
number_same : (xs bs : List ℕ) (i n : ℕ) → ((k : ℕ) → k < n → get_or xs (0 + k) 0 ≡ get_or bs (i + k) 0) → number xs 0 n ≡ number bs i n
unfolding number
number_same xs bs i zero h = refl
number_same xs bs i (suc n) h = rw (number_same xs bs i n (λ k l. h k (omega arith)), h n (omega arith)) refl

-- the number in a part of a row of bytes
pub number_part : (xs bs : List ℕ) (i n : ℕ) → xs ≡ slice_range bs i (i + n) → length xs ≡ n → number xs 0 (length xs) ≡ number bs i n
number_part xs bs i n e l =
    rw l (number_same xs bs i n (λ k h. rw e (at k h)))
  where
    at : (k : ℕ) → k < n → get_or (take (i + n - i) (drop i bs)) (0 + k) 0 ≡ get_or bs (i + k) 0
    at k h = let z : 0 + k ≡ k = omega arith in rw z (get_or-take (i + n - i) (drop i bs) k 0 (omega arith) ∙ get_or-drop i bs k 0)
