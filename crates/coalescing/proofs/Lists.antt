-- Lists that a loop maps in place, and the list of the numbers below a bound.
use Rattle.std.proofs.Common.{◌≡◌, ℕ, zero, suc, ◌+◌, ◌<◌, ◌≤◌, eqb, List, [], ◌∷◌, ◌++◌, map, length, get_or, take, drop, set, sym, refl, ap, ◌∙◌, inl, inr, arith}
use Rattle.std.proofs.lemmas.List.{append-nil, append_assoc, drop_more, drop_all, take_all, map_more, get_or_at, get_or-map, get_or_past, set_at, length-map, length-take-le}
use Rattle.std.proofs.lemmas.Bool.{cases_lt, cond_both}
use Rattle.counting.specs.Counting.{range}
use Rattle.coalescing.specs.Facts.{Placed}
use Rattle.coalescing.specs.Pairs.{moved}

-- a list whose first i elements were mapped
abbrev pub mapped : {X : Type 0} → (X → X) → ℕ → List X → List X
mapped f i xs = map f (take i xs) ++ drop i xs

front : {X : Type 0} (f : X → X) (xs : List X) (i : ℕ) → i < length xs → length (map f (take i xs)) ≡ i
front f xs i l = length-map (take i xs) f ∙ length-take-le i xs (omega arith)

pub mapped_at : {X : Type 0} (f : X → X) (xs : List X) (i : ℕ) (d : X) → i < length xs → get_or (mapped f i xs) i d ≡ get_or xs i d
mapped_at f xs i d l =
    ap (λ (ys : List _). get_or (map f (take i xs) ++ ys) i d) (drop_more xs i d l) ∙ get_or_at (map f (take i xs)) (get_or xs i d) (drop (i + 1) xs) d i (front f xs i l)

pub mapped_more : {X : Type 0} (f : X → X) (xs : List X) (i : ℕ) (d : X) → i < length xs → set (mapped f i xs) i (f (get_or xs i d)) ≡ mapped f (i + 1) xs
mapped_more f xs i d l =
    ap (λ (ys : List _). set (map f (take i xs) ++ ys) i (f (get_or xs i d))) (drop_more xs i d l)
    ∙ set_at (map f (take i xs)) (get_or xs i d) (drop (i + 1) xs) (f (get_or xs i d)) i (front f xs i l)
    ∙ sym (ap (λ (ys : List _). ys ++ drop (i + 1) xs) (map_more f xs i d l) ∙ append_assoc (map f (take i xs)) (f (get_or xs i d) ∷ []) (drop (i + 1) xs))

pub mapped_all : {X : Type 0} (f : X → X) (xs : List X) (i : ℕ) → length xs ≤ i → mapped f i xs ≡ map f xs
mapped_all f xs i l = rw (take_all i xs l, drop_all i xs l) (append-nil (map f xs))

-- ---- the numbers below a bound

pub range_length : (n j : ℕ) → length (range n j) ≡ n
unfolding range
range_length zero j = refl
range_length (suc n) j = ap suc (range_length n (suc j))

pub range_at : (n j i : ℕ) → i < n → get_or (range n j) i 0 ≡ j + i
unfolding range
range_at zero j i l = absurd (omega arith)
range_at (suc n) j zero l = omega arith
range_at (suc n) j (suc i) l = omega (arith, range_at n (suc j) i (omega arith))

pub take_range : (n m j : ℕ) → n ≤ m → take n (range m j) ≡ range n j
unfolding range
take_range zero m j l = refl
take_range (suc n) zero j l = absurd (omega arith)
take_range (suc n) (suc m) j l = ap (λ (xs : List ℕ). j ∷ xs) (take_range n m (suc j) (omega arith))

pub range_placed : (n j : ℕ) → j + n ≤ 448 → Placed (range n j)
unfolding range
range_placed zero j l v = omega arith
range_placed (suc n) j l zero = omega arith
range_placed (suc n) j l (suc v) = range_placed n (suc j) (omega arith) v

pub placed_moved : (low high : ℕ) (ns : List ℕ) → low < 448 → Placed ns → Placed (map (moved low high) ns)
placed_moved low high ns l h v = elim (cases_lt v (length ns)) [
  | inl k ↦ rw (get_or-map (moved low high) ns v 0 0 k) (cond_both (eqb (get_or ns v 0) high) low (get_or ns v 0) (λ n. n < 448) (λ e. l) (λ e. h v))
  | inr k ↦ rw (get_or_past (map (moved low high) ns) v 0 (rw (length-map ns (moved low high)) k)) (omega arith)
]
