-- Lists that keep no more than 512 of their elements.
use Rattle.std.proofs.Common.{◌≡◌, ℕ, zero, suc, ◌+◌, ◌<◌, ◌≤◌, List, [], ◌∷◌, ◌++◌, map, length, get_or, take, set, sym, refl, ap, ◌∙◌, inl, inr, add-zero, zero-add, add-one, arith, length-take}
use lib.ListN.{length-map}
use Rattle.std.proofs.lemmas.List.{take_more_set, take_all, take_at, length_push, take-append-le, length-take-le, map_more, map_push}
use Rattle.std.proofs.lemmas.Bool.{cases_lt}
use Rattle.counting.specs.Counting.{range}

-- what was cut off stays off
pub front_append : {A : Type 0} (m : ℕ) (xs ys : List A) → take m (take m xs ++ ys) ≡ take m (xs ++ ys)
front_append m xs ys =
    elim (cases_lt (length xs) m) [
      | inl l ↦ rw (take_all m xs (omega arith))
      | inr l ↦ take_at (take m xs) ys m (length-take-le m xs l) ∙ sym (take-append-le m xs ys l)
    ]

-- a list of the results of a function, one more of them pushed where there is room
pub mapped_push : {A B : Type 0} (m : ℕ) (f : A → B) (ys : List A) (i : ℕ) (d : A) → length ys ≤ m → i < length ys → {xs xs' : List B} {y : B} → xs ≡ map f (take i ys) → y ≡ f (get_or ys i d) → xs' ≡ take m (xs ++ y ∷ []) → xs' ≡ map f (take (i + 1) ys)
mapped_push m f ys i d few l e h g =
    let all : length (take (i + 1) ys) ≤ m = simp length-take (omega arith) in
    g ∙ rw (e, h, ← (map_more f ys i d l)) (take_all m (map f (take (i + 1) ys)) (rw (length-map (take (i + 1) ys) f) all))

-- the numbers below n + 1
range_more : (n j : ℕ) → range (suc n) j ≡ range n j ++ (j + n) ∷ []
unfolding range
range_more zero j = rw add-zero
range_more (suc n) j = ap (λ l. j ∷ l) (range_more n (suc j) ∙ ap (λ k. range n (suc j) ++ k ∷ []) (omega arith))

-- an array filled by a function of the place, one element more
pub filled_more : {B : Type 0} (f : ℕ → B) (xs : List B) (i : ℕ) (y : B) → i < length xs → take i xs ≡ map f (range i 0) → y ≡ f i → take (i + 1) (set xs i y) ≡ map f (range (i + 1) 0)
filled_more f xs i y l e h = rw (take_more_set xs i y l, e, h, add-one, range_more, zero-add) (sym (map_push f (range i 0) i))

-- there are n numbers below n
range_length : (n j : ℕ) → length (range n j) ≡ n
unfolding range
range_length zero j = refl
range_length (suc n) j = ap suc (range_length n (suc j))

-- as many results of a function of the place as there are places
pub filled_length : {B : Type 0} (f : ℕ → B) (n : ℕ) → {xs : List B} → xs ≡ map f (range n 0) → length xs ≡ n
filled_length f n e = rw (e, length-map (range n 0) f, range_length n 0)

-- a list of the results of a function of the place, one more of them pushed where there is room
pub filled_push : {B : Type 0} (m : ℕ) (f : ℕ → B) (i : ℕ) → i < m → {xs xs' : List B} {y : B} → xs ≡ map f (range i 0) → y ≡ f i → xs' ≡ take m (xs ++ y ∷ []) → xs' ≡ map f (range (i + 1) 0)
filled_push m f i l e h g =
    let room : length (map f (range i 0) ++ f i ∷ []) ≤ m = rw (length_push, length-map (range i 0) f, range_length i 0) (omega arith) in
    g ∙ rw (e, h, add-one, range_more, zero-add) (take_all m (map f (range i 0) ++ f i ∷ []) room ∙ sym (map_push f (range i 0) i))

-- functions that agree on the numbers of a range
pub range_ext : {B : Type 0} (f g : ℕ → B) (n j : ℕ) → ((k : ℕ) → k < j + n → f k ≡ g k) → map f (range n j) ≡ map g (range n j)
unfolding range
range_ext f g zero j h = refl
range_ext f g (suc n) j h = rw (h j (omega arith), range_ext f g n (suc j) (λ k l. h k (omega arith)))
