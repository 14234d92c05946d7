-- The file that digits spell is what the library decodes.
use Rattle.std.proofs.Common.{◌≡◌, ℕ, ◌+◌, ◌*◌, ◌%◌, ◌/◌, ◌<◌, Bool, false, cond, eqb, List, [], get_or, ◌∷◌, ◌++◌, length, Some, None, Ok, Err, Option, Result, drop, sym, refl, ap, ◌∙◌, append_assoc, append-nil, inl, inr, arith}
use Rattle.std.specs.Result.{result_ok, MatchResult}
use Rattle.std.proofs.lemmas.Bool.{cases_eq}
use Rattle.std.proofs.lemmas.List.{drop_more, drop_all}
use Rattle.hex.specs.Hex.{◌>>=◌, hex_digit_value, digit_or_error, pair_value, decode_pairs, decode_sized}
use Rattle.hex.specs.declared.error.FromHexError.{FromHexError}
use Rattle.hex.proofs.HexLemmas.{decode_of-even, decode_sized-twice, decode_sized-odd}
use Rattle.hexwords.specs.Hex.{digit, pair_of, before, spelled, file_of}

-- what is spelled so far in front of the rest
abbrev pub onto : List ℕ → Option (List ℕ) → Option (List ℕ)
onto xs None = None
onto xs (Some ys) = Some (xs ++ ys)

pub onto_none : (rest : Option (List ℕ)) → onto [] rest ≡ rest
onto_none None = refl
onto_none (Some ys) = refl

pub onto_byte : (xs : List ℕ) (b : ℕ) (rest : Option (List ℕ)) → onto xs (before (Some b) rest) ≡ onto (xs ++ b ∷ []) rest
onto_byte xs b None = refl
onto_byte xs b (Some ys) = ap (λ (zs : List ℕ). Some zs) (sym (append_assoc xs (b ∷ []) ys))

-- the rest from a pair on
pair : (ds : List ℕ) (k : ℕ) → k + 1 < length ds → drop k ds ≡ get_or ds k 0 ∷ (get_or ds (k + 1) 0 ∷ drop (k + 1 + 1) ds)
pair ds k l =
    let first : k < length ds = omega arith in
    drop_more ds k 0 first ∙ ap (λ (ys : List ℕ). get_or ds k 0 ∷ ys) (drop_more ds (k + 1) 0 l)

spelled_pair : (ds : List ℕ) (k : ℕ) → k + 1 < length ds → spelled (drop k ds) ≡ before (pair_of (digit (get_or ds k 0)) (digit (get_or ds (k + 1) 0))) (spelled (drop (k + 1 + 1) ds))
unfolding spelled
spelled_pair ds k l = ap spelled (pair ds k l)

-- a byte more
pub spelled_more : (ds xs : List ℕ) (k b : ℕ) → k + 1 < length ds → pair_of (digit (get_or ds k 0)) (digit (get_or ds (k + 1) 0)) ≡ Some b → onto xs (spelled (drop k ds)) ≡ onto (xs ++ b ∷ []) (spelled (drop (k + 1 + 1) ds))
spelled_more ds xs k b inside e =
    ap (onto xs) (spelled_pair ds k inside ∙ ap (λ (o : Option ℕ). before o (spelled (drop (k + 1 + 1) ds))) e)
    ∙ onto_byte xs b (spelled (drop (k + 1 + 1) ds))

-- a pair that is no byte
pub spelled_stop : (ds xs : List ℕ) (k : ℕ) → k + 1 < length ds → pair_of (digit (get_or ds k 0)) (digit (get_or ds (k + 1) 0)) ≡ None → onto xs (spelled (drop k ds)) ≡ None
spelled_stop ds xs k inside e =
    ap (onto xs) (spelled_pair ds k inside ∙ ap (λ (o : Option ℕ). before o (spelled (drop (k + 1 + 1) ds))) e)

-- no digit left
pub spelled_all : (ds xs : List ℕ) (k : ℕ) → length ds ≡ k → onto xs (spelled (drop k ds)) ≡ Some xs
unfolding spelled
spelled_all ds xs k e =
    ap (λ (ys : List ℕ). onto xs (spelled ys)) (drop_all k ds (omega arith)) ∙ ap (λ (ys : List ℕ). Some ys) (append-nil xs)

-- one digit left
pub spelled_odd : (ds xs : List ℕ) (k : ℕ) → length ds ≡ k + 1 → onto xs (spelled (drop k ds)) ≡ None
unfolding spelled
spelled_odd ds xs k e =
    let inside : k < length ds = omega arith in
    ap (λ (ys : List ℕ). onto xs (spelled ys)) (drop_more ds k 0 inside ∙ ap (λ (ys : List ℕ). get_or ds k 0 ∷ ys) (drop_all (k + 1) ds (omega arith)))

same_digit : (b : ℕ) → hex_digit_value b ≡ digit b
same_digit b = grind (arith)

decoded_pair : (h l : Option ℕ) (a b i : ℕ) → result_ok (digit_or_error a i h >>= λ x. digit_or_error b (i + 1) l >>= λ y. Ok (x * 16 + y)) ≡ pair_of h l
decoded_pair None l a b i = refl
decoded_pair (Some h) None a b i = refl
decoded_pair (Some h) (Some l) a b i = ap (λ (n : ℕ). Some n) (omega arith)

decoded_before : (p : Result ℕ FromHexError) (r : Result (List ℕ) FromHexError) → result_ok (p >>= λ x. r >>= λ xs. Ok (x ∷ xs)) ≡ before (result_ok p) (result_ok r)
decoded_before (Err e) r = refl
decoded_before (Ok x) (Err e) = refl
decoded_before (Ok x) (Ok xs) = refl

decoded : (i : ℕ) (ds : List ℕ) → result_ok (decode_pairs i ds) ≡ spelled ds
unfolding decode_pairs spelled
decoded i [] = refl
decoded i (h ∷ []) = refl
decoded i (h ∷ (l ∷ rest)) =
    let byte = decoded_pair (hex_digit_value h) (hex_digit_value l) h l i ∙ (λ k. pair_of (same_digit h k) (same_digit l k)) in
    decoded_before (pair_value h l i) (decode_pairs (i + 2) rest) ∙ (λ k. before (byte k) (decoded (i + 2) rest k))

no_bytes : (b : Option ℕ) → before b None ≡ None
no_bytes None = refl
no_bytes (Some b) = refl

odd_spells_none : (ds : List ℕ) → length ds % 2 ≡ 1 → None ≡ spelled ds
unfolding spelled
odd_spells_none [] e = absurd (omega arith)
odd_spells_none (h ∷ []) e = refl
odd_spells_none (h ∷ (l ∷ rest)) e =
    sym (no_bytes (pair_of (digit h) (digit l))) ∙ ap (before (pair_of (digit h) (digit l))) (odd_spells_none rest (omega arith))

pub decoded_half : (ds : List ℕ) (n : ℕ) → n ≡ length ds / 2 → result_ok (decode_sized ds n) ≡ spelled ds
decoded_half ds n half =
    elim (cases_eq (length ds % 2) 1) [
      | inl odd ↦ ap (λ (r : Result (List ℕ) FromHexError). result_ok r) (decode_sized-odd ds n odd) ∙ odd_spells_none ds odd
      | inr even ↦
          ap (λ (r : Result (List ℕ) FromHexError). result_ok r) (decode_sized-twice ds n (omega arith) ∙ decode_of-even ds (omega arith)) ∙ decoded 0 ds
    ]

pub spelled_ok : (d : Result (List ℕ) FromHexError) (r : Result (Unit {0}) FromHexError) (out : List ℕ) → MatchResult d (λ bytes. (r ≡ Ok tt) × (out ≡ bytes)) (λ e. r ≡ Err e) → r ≡ Ok tt → Some out ≡ result_ok d
spelled_ok (Ok bytes) r out h e = ap (λ (xs : List ℕ). Some xs) h.1
spelled_ok (Err x) r out h e = cc (sym h ∙ e)

pub spelled_err : (d : Result (List ℕ) FromHexError) (r : Result (Unit {0}) FromHexError) (out : List ℕ) (f : FromHexError) → MatchResult d (λ bytes. (r ≡ Ok tt) × (out ≡ bytes)) (λ e. r ≡ Err e) → r ≡ Err f → None ≡ result_ok d
spelled_err (Ok bytes) r out f h e = cc (sym h.0 ∙ e)
spelled_err (Err x) r out f h e = refl

pub file_empty : (w : List ℕ) → length w ≡ 0 → None ≡ file_of w
unfolding file_of
file_empty [] e = refl
file_empty (b ∷ bs) e = absurd (omega arith)

pub file_dash : (w : List ℕ) → length w ≡ 1 → get_or w 0 0 ≡ 45 → Some [] ≡ file_of w
unfolding file_of
file_dash [] e f = absurd (omega arith)
file_dash (b ∷ []) e f = ap (λ (n : ℕ). cond (eqb n 45) (Some []) None) (sym f)
file_dash (b ∷ (d ∷ bs)) e f = absurd (omega arith)

pub file_spelled : (w : List ℕ) → 0 < length w → (length w ≡ 1 → eqb (get_or w 0 0) 45 ≡ false) → spelled w ≡ file_of w
unfolding file_of spelled
file_spelled [] l e = absurd (omega arith)
file_spelled (b ∷ []) l e = ap (λ (t : Bool). cond t (Some []) None) (sym (e refl))
file_spelled (b ∷ (d ∷ bs)) l e = refl

pub file_none : (w : List ℕ) → length w ≡ 0 → file_of w ≡ None
unfolding file_of
file_none [] e = refl
file_none (b ∷ bs) e = absurd (omega arith)

pub file_one : (w : List ℕ) → length w ≡ 1 → file_of w ≡ cond (eqb (get_or w 0 0) 45) (Some []) None
unfolding file_of
file_one [] e = absurd (omega arith)
file_one (b ∷ []) e = refl
file_one (b ∷ (d ∷ bs)) e = absurd (omega arith)

pub file_more : (w : List ℕ) → 1 < length w → file_of w ≡ spelled w
unfolding file_of
file_more [] l = absurd (omega arith)
file_more (b ∷ []) l = absurd (omega arith)
file_more (b ∷ (d ∷ bs)) l = refl

-- a word of two digits
pub file_pair : (w : List ℕ) → length w ≡ 2 → spelled (get_or w 0 0 ∷ (get_or w 1 0 ∷ [])) ≡ file_of w
unfolding file_of
file_pair [] e = absurd (omega arith)
file_pair (b ∷ []) e = absurd (omega arith)
file_pair (b ∷ (d ∷ [])) e = refl
file_pair (b ∷ (d ∷ (x ∷ bs))) e = absurd (omega arith)

-- a word of three digits
pub file_triple : (w : List ℕ) → length w ≡ 3 → spelled (get_or w 0 0 ∷ (get_or w 1 0 ∷ (get_or w 2 0 ∷ []))) ≡ file_of w
unfolding file_of
file_triple [] e = absurd (omega arith)
file_triple (b ∷ []) e = absurd (omega arith)
file_triple (b ∷ (d ∷ [])) e = absurd (omega arith)
file_triple (b ∷ (d ∷ (x ∷ []))) e = refl
file_triple (b ∷ (d ∷ (x ∷ (y ∷ bs)))) e = absurd (omega arith)
