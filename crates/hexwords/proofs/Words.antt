-- A line from its first word on, and up to its first space, by the places that a search finds.
use Rattle.std.proofs.Common.{◌≡◌, ℕ, ◌+◌, Bool, true, false, cond, not, eqb, ltb, List, [], ◌∷◌, length, take, drop, Option, unwrap_or, suc, refl, ap, ◌∙◌, inl, inr, arith}
use Rattle.std.specs.List.{position, position_or_len}
use Rattle.std.proofs.lemmas.Bool.{cases_Bool, cond-true, cond-false, ltb-false}
use Rattle.std.proofs.lemmas.List.Sums.{prefix_len-le-length}
use Rattle.hexwords.specs.Hex.{unspaced, up_to_space, from_space}

abbrev pub is_space : ℕ → Bool
is_space b = eqb b 32

abbrev pub is_other : ℕ → Bool
is_other b = not (eqb b 32)

or_length : (p : ℕ → Bool) (xs : List ℕ) → unwrap_or (position p xs) (length xs) ≡ position_or_len p xs
or_length p xs =
    let n = position_or_len p xs in
    elim (cases_Bool (ltb n (length xs))) [
      | inl e ↦ ap (λ (o : Option ℕ). unwrap_or o (length xs)) (cond-true _ _ _ e)
      | inr e ↦ ap (λ (o : Option ℕ). unwrap_or o (length xs)) (cond-false _ _ _ e) ∙ omega (arith, ltb-false _ _ e, prefix_len-le-length (λ x. not (p x)) xs)
    ]

one_more : (n : ℕ) → 1 + n ≡ suc n
one_more n = omega arith

unspaced_step : (t : Bool) (n b : ℕ) (bs rest : List ℕ) → drop n bs ≡ rest → drop (cond (not (not t)) (1 + n) 0) (b ∷ bs) ≡ cond t rest (b ∷ bs)
unspaced_step true n b bs rest e = ap (λ (k : ℕ). drop k (b ∷ bs)) (one_more n) ∙ e
unspaced_step false n b bs rest e = refl

unspaced_rest : (xs : List ℕ) → drop (position_or_len is_other xs) xs ≡ unspaced xs
unfolding unspaced
unspaced_rest [] = refl
unspaced_rest (b ∷ bs) = unspaced_step (eqb b 32) (position_or_len is_other bs) b bs (unspaced bs) (unspaced_rest bs)

up_to_step : (t : Bool) (n b : ℕ) (bs rest : List ℕ) → take n bs ≡ rest → take (cond (not t) (1 + n) 0) (b ∷ bs) ≡ cond t [] (b ∷ rest)
up_to_step true n b bs rest e = refl
up_to_step false n b bs rest e = ap (λ (k : ℕ). take k (b ∷ bs)) (one_more n) ∙ ap (λ (ys : List ℕ). b ∷ ys) e

up_to_front : (xs : List ℕ) → take (position_or_len is_space xs) xs ≡ up_to_space xs
unfolding up_to_space
up_to_front [] = refl
up_to_front (b ∷ bs) = up_to_step (eqb b 32) (position_or_len is_space bs) b bs (up_to_space bs) (up_to_front bs)

from_step : (t : Bool) (n b : ℕ) (bs rest : List ℕ) → drop n bs ≡ rest → drop (cond (not t) (1 + n) 0) (b ∷ bs) ≡ cond t (b ∷ bs) rest
from_step true n b bs rest e = refl
from_step false n b bs rest e = ap (λ (k : ℕ). drop k (b ∷ bs)) (one_more n) ∙ e

from_rest : (xs : List ℕ) → drop (position_or_len is_space xs) xs ≡ from_space xs
unfolding from_space
from_rest [] = refl
from_rest (b ∷ bs) = from_step (eqb b 32) (position_or_len is_space bs) b bs (from_space bs) (from_rest bs)

pub unspaced_found : (xs : List ℕ) → drop (unwrap_or (position is_other xs) (length xs)) xs ≡ unspaced xs
unspaced_found xs = ap (λ (n : ℕ). drop n xs) (or_length is_other xs) ∙ unspaced_rest xs

pub up_to_found : (xs : List ℕ) → take (unwrap_or (position is_space xs) (length xs)) xs ≡ up_to_space xs
up_to_found xs = ap (λ (n : ℕ). take n xs) (or_length is_space xs) ∙ up_to_front xs

pub from_found : (xs : List ℕ) → drop (unwrap_or (position is_space xs) (length xs)) xs ≡ from_space xs
from_found xs = ap (λ (n : ℕ). drop n xs) (or_length is_space xs) ∙ from_rest xs
