-- A number, digit by digit.
use Rattle.std.proofs.Common.{◌≡◌, ℕ, ◌+◌, ◌-◌, ◌*◌, ◌^◌, ◌<◌, ◌≤◌, Bool, true, false, cond, ◌&&◌, ltb, ◌⊎◌, List, [], ◌∷◌, length, Some, None, Option, sym, refl, ap, ◌∙◌, inl, inr, arith}
use Rattle.std.proofs.lemmas.Bool.{and_right, cond-true, cond-false, ltb-true, ltb-false, lt-ltb, le-ltb}
use Rattle.numerals.specs.Numerals.{is_digit, all_digits, value_from, number_from, number_in}

-- more digits make no number smaller
value_ge : (n : ℕ) (bs : List ℕ) → n ≤ value_from n bs
unfolding value_from
value_ge n [] = omega arith
value_ge n (b ∷ bs) = omega (arith, value_ge (10 * n + (b - 48)) bs)

-- the number n with the digit b
abbrev pub with_digit : ℕ → ℕ → Option ℕ
with_digit n b = cond (is_digit b && ltb (10 * n + (b - 48)) (2 ^ 32)) (Some (10 * n + (b - 48))) None

some_parts : (d l : Bool) (v m : ℕ) → Some m ≡ cond (d && l) (Some v) None → (d ≡ true) × (l ≡ true) × (m ≡ v)
some_parts true true v m e = (refl, refl, cc)
some_parts true false v m e = let z : ◌≡◌ {A = ℕ} 0 1 = cc in absurd (omega arith)
some_parts false l v m e = let z : ◌≡◌ {A = ℕ} 0 1 = cc in absurd (omega arith)

-- a digit more
pub digit_more : (n b m : ℕ) (bs : List ℕ) → Some m ≡ with_digit n b → number_from n (b ∷ bs) ≡ number_from m bs
unfolding all_digits value_from
digit_more n b m bs e =
    let v = 10 * n + (b - 48) in
    let parts = some_parts (is_digit b) (ltb v (2 ^ 32)) v m e in
    ap (λ (t : Bool). cond ((t && all_digits bs) && ltb (value_from v bs) (2 ^ 32)) (Some (value_from v bs)) None) parts.0
    ∙ ap (λ (k : ℕ). number_from k bs) (sym parts.2)

pub digit_small : (n b m : ℕ) → Some m ≡ with_digit n b → m < 2 ^ 32
digit_small n b m e =
    let v = 10 * n + (b - 48) in
    let parts = some_parts (is_digit b) (ltb v (2 ^ 32)) v m e in
    omega (arith, ltb-true v (2 ^ 32) parts.1)

none_parts : (d l : Bool) (v : ℕ) → None ≡ cond (d && l) (Some v) None → (d ≡ false) ⊎ (l ≡ false)
none_parts true true v e = let z : ◌≡◌ {A = ℕ} 0 1 = cc in absurd (omega arith)
none_parts true false v e = inr refl
none_parts false l v e = inl refl

-- a byte that is no digit, or a number that is too large
pub digit_stop : (n b : ℕ) (bs : List ℕ) → None ≡ with_digit n b → number_from n (b ∷ bs) ≡ None
unfolding all_digits value_from
digit_stop n b bs e =
    let v = 10 * n + (b - 48) in
    elim (none_parts (is_digit b) (ltb v (2 ^ 32)) v e) [
      | inl other ↦
          ap (λ (t : Bool). cond ((t && all_digits bs) && ltb (value_from v bs) (2 ^ 32)) (Some (value_from v bs)) None) other
      | inr large ↦
          cond-false _ _ None (and_right (all_digits (b ∷ bs)) _ (le-ltb (value_from v bs) (2 ^ 32) (omega (arith, ltb-false v (2 ^ 32) large, value_ge v bs))))
    ]

pub digits_end : (n : ℕ) → n < 2 ^ 32 → number_from n [] ≡ Some n
unfolding all_digits value_from
digits_end n l = cond-true _ (Some n) None (lt-ltb n (2 ^ 32) l)

pub number_none : (w : List ℕ) → length w ≡ 0 → number_in w ≡ None
unfolding number_in
number_none [] e = refl
number_none (b ∷ bs) e = absurd (omega arith)

pub number_some : (w : List ℕ) → 0 < length w → number_in w ≡ number_from 0 w
unfolding number_in all_digits value_from
number_some [] l = absurd (omega arith)
number_some (b ∷ bs) l = refl
