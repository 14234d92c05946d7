-- A list of numbers, item by item.
use Rattle.std.proofs.Common.{◌≡◌, ℕ, ◌+◌, ◌<◌, Bool, cond, eqb, List, [], ◌∷◌, ◌++◌, length, get_or, drop, Some, None, Option, sym, refl, ap, ◌∙◌, append-nil, arith}
use Rattle.std.specs.List.{slice_split, onto_first}
use Rattle.std.proofs.lemmas.List.{at_drop_more}
use Rattle.std.proofs.lemmas.List.Splits.{length-slice_split}
use Rattle.hexwords.specs.Hex.{before}
use Rattle.hexwords.proofs.Spelling.{onto, onto_byte}
use Rattle.numerals.specs.Numerals.{number_in, longer, items_in, numbers_of}

abbrev pub is_comma : ℕ → Bool
is_comma b = eqb b 44

longer_first : (b : ℕ) (items : List (List ℕ)) → 0 < length items → longer b items ≡ onto_first b items
longer_first b [] l = absurd (omega arith)
longer_first b (item ∷ items) l = refl

-- the items are the parts between commas
pub items_parts : (w : List ℕ) → items_in w ≡ slice_split is_comma w
unfolding items_in
items_parts [] = refl
items_parts (b ∷ bs) =
    let rest = items_parts bs in
    let some : 0 < length (slice_split is_comma bs) = omega (arith, length-slice_split is_comma bs) in
    (λ k. cond (eqb b 44) ([] ∷ rest k) (longer b (rest k)))
    ∙ ap (λ (items : List (List ℕ)). cond (eqb b 44) ([] ∷ slice_split is_comma bs) items) (longer_first b (slice_split is_comma bs) some)

-- the numbers of the items from k on
next_numbers : (items : List (List ℕ)) (k : ℕ) (item : List ℕ) → k < length items → item ≡ get_or items k item → numbers_of (drop k items) ≡ before (number_in item) (numbers_of (drop (k + 1) items))
unfolding numbers_of
next_numbers items k item l e =
    at_drop_more numbers_of items k item l ∙ ap (λ (i : List ℕ). before (number_in i) (numbers_of (drop (k + 1) items))) (sym e)

-- an item that is a number
pub numbers_more : (xs : List ℕ) (items : List (List ℕ)) (k : ℕ) (item : List ℕ) (n : ℕ) → (k < length items) × (item ≡ get_or items k item) → number_in item ≡ Some n → onto xs (numbers_of (drop k items)) ≡ onto (xs ++ n ∷ []) (numbers_of (drop (k + 1) items))
numbers_more xs items k item n h e =
    ap (onto xs) (next_numbers items k item h.0 h.1 ∙ ap (λ (o : Option ℕ). before o (numbers_of (drop (k + 1) items))) e)
    ∙ onto_byte xs n (numbers_of (drop (k + 1) items))

-- an item that is none
pub numbers_stop : (xs : List ℕ) (items : List (List ℕ)) (k : ℕ) (item : List ℕ) → (k < length items) × (item ≡ get_or items k item) → number_in item ≡ None → onto xs (numbers_of (drop k items)) ≡ None
numbers_stop xs items k item h e =
    ap (onto xs) (next_numbers items k item h.0 h.1 ∙ ap (λ (o : Option ℕ). before o (numbers_of (drop (k + 1) items))) e)

pub numbers_end : (xs : List ℕ) → onto xs (numbers_of []) ≡ Some xs
unfolding numbers_of
numbers_end xs = ap (λ (ys : List ℕ). Some ys) (append-nil xs)
