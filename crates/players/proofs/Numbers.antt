-- Lists of numbers behind variables, slots, inputs and outputs.
use Rattle.std.proofs.Common.{◌≡◌, ℕ, ◌+◌, ◌-◌, ◌%◌, ◌^◌, ◌<◌, ◌≤◌, List, length, set, replicate, ap, subst, inl, inr, mod-eq_of_lt, arith, pow_mono}
use mathlib.Core.Path.{fun_ext}
use lib.Pow.{mod-mod-pow}
use Rattle.std.proofs.lemmas.List.{get_or-set_same, get_or-set_other, get_or_past, get_or-replicate, length-replicate, set_past}
use Rattle.std.proofs.lemmas.Bool.{cases_eq, cases_lt, eq-eqb, ne_eqb, lt-ltb, le-ltb}
use Rattle.rows.specs.Rows.{bits}
use Rattle.machine.specs.Machine.{put, stored}
use Rattle.players.specs.Playing.{numbers_in}

-- a number put at a place of the list
pub put_set : (xs : List ℕ) (i x : ℕ) → i < length xs → numbers_in (set xs i x) ≡ put (numbers_in xs) i x
put_set xs i x h = fun_ext (λ j. elim (cases_eq j i) [
  | inl e ↦ rw (eq-eqb j i e, e) (get_or-set_same xs i x 0 h)
  | inr n ↦ rw (ne_eqb j i n) (get_or-set_other xs i j x 0 n)
])

pub stored_set : (xs : List ℕ) (s x : ℕ) → length xs ≡ 64 → numbers_in (set xs s x) ≡ stored (numbers_in xs) s x
stored_set xs s x h = elim (cases_lt s 64) [
  | inl l ↦ rw (lt-ltb s 64 l) (put_set xs s x (omega arith))
  | inr l ↦ let g : length xs ≤ s = omega arith in rw (le-ltb s 64 l) (ap numbers_in (set_past xs s x g))
]

pub zeros : numbers_in (replicate {A = ℕ} 64 0) ≡ λ _. 0
zeros = fun_ext (λ j. elim (cases_lt j 64) [
  | inl l ↦ get_or-replicate 64 j 0 0 l
  | inr l ↦ get_or_past (replicate {A = ℕ} 64 0) j 0 (rw (length-replicate {A = ℕ} 64 0) l)
])

-- a number of 32 bits is whole in a class of word or above
pub whole : (x class : ℕ) → x < 2 ^ 32 → 2 ≤ class → x % 2 ^ bits class ≡ x
whole x class h l =
    let four : 2 ^ 2 ≤ 2 ^ class = pow_mono l in
    let wide : 32 ≤ bits class = omega arith in
    let up : 2 ^ 32 ≤ 2 ^ bits class = pow_mono wide in
    mod-eq_of_lt (omega arith)

-- modulo 2 ^ 32 and then to a class is to the class at once
pub twice : (x class : ℕ) → class ≤ 2 → x % 2 ^ 32 % 2 ^ bits class ≡ x % 2 ^ bits class
twice x class h =
    let four : 2 ^ class ≤ 2 ^ 2 = pow_mono h in
    let b : bits class ≤ 32 = omega arith in
    let e : (32 - bits class) + bits class ≡ 32 = omega arith in
    subst (λ (k : ℕ). x % 2 ^ k % 2 ^ bits class ≡ x % 2 ^ bits class) e (mod-mod-pow x (32 - bits class) (bits class))
