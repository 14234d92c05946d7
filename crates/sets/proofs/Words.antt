-- From the words of a node set to the set that they hold.
use Rattle.std.proofs.Common.{◌≡◌, ℕ, zero, suc, ◌+◌, ◌-◌, ◌*◌, ◌/◌, ◌%◌, ◌^◌, ◌<◌, ◌≤◌, min, Bool, false, ◌&&◌, eqb, leb, List, [], ◌∷◌, ◌++◌, length, get_or, drop, set, replicate, sym, refl, ap, ◌∙◌, inl, inr, arith, length-set, get_or-set_other, get_or-set_same, pow-add}
use lib.Bits.{bit_and, bit_or, bit_xor, or_mod, and_mod, xor_mod, or_block, and_block, xor_block, or_lt, and_lt}
use lib.Count.{count_trailing_zeros}
use lib.Pow.{high, low, field, mod-mod-pow}
use Rattle.std.proofs.lemmas.Nat.{pow_pos, pow_below, mod_below, shr_high, and_comm, and_assoc, and-not}
use Rattle.std.specs.Int.Bits.{and_self, xor_add_and}
use Rattle.std.proofs.lemmas.List.{get_or_past}
use Rattle.std.proofs.lemmas.Bool.{cases_lt, cases_eq, eq-eqb, ne_eqb, lt-ltb, le-ltb, le-leb, lt-leb, and_right, and_from}
use Rattle.counting.specs.Counting.{least}
use Rattle.counting.proofs.Searches.{least_is}
use Rattle.sets.specs.Sets.{has, up_to}
use Rattle.sets.specs.Words.{joined, IsWords}
use Rattle.sets.proofs.Members.{has_none, has_shr, has_union, has_single, has_up_to, same_members, lowest_below, lowest_is}

-- an operation that goes word by word
pub record Wordly (f : ℕ → ℕ → ℕ) : Type 0 where
  pub none : f 0 0 ≡ 0
  pub cut : (a b : ℕ) → f a b % 2 ^ 64 ≡ f (a % 2 ^ 64) (b % 2 ^ 64)
  pub glued : (a b r s : ℕ) → r < 2 ^ 64 → s < 2 ^ 64 → f (a * 2 ^ 64 + r) (b * 2 ^ 64 + s) ≡ f a b * 2 ^ 64 + f r s

pub or_wordly : Wordly bit_or
or_wordly = record { none = refl; cut = λ a b. or_mod a b 64; glued = or_block 64 }

pub and_wordly : Wordly bit_and
and_wordly = record { none = refl; cut = λ a b. and_mod a b 64; glued = and_block 64 }

pub minus_wordly : Wordly (λ a b. bit_xor a (bit_and a b))
minus_wordly = record {
  none = refl;
  cut = λ a b. xor_mod a (bit_and a b) 64 ∙ ap (bit_xor (a % 2 ^ 64)) (and_mod a b 64);
  glued = λ a b r s hr hs. ap (bit_xor (a * 2 ^ 64 + r)) (and_block 64 a b r s hr hs) ∙ xor_block 64 a (bit_and a b) r (bit_and r s) hr (and_lt 64 r s hr hs);
}

low_word : (w : ℕ) → w % 2 ^ 64 < 2 ^ 64
low_word w = mod_below w (2 ^ 64) (pow_pos 64)

-- what is done word by word is done to the sets
pub joined_by_lem : (f : ℕ → ℕ → ℕ) → Wordly f → (xs ys zs : List ℕ) → length xs ≡ length ys → length zs ≡ length xs →
    ((k : ℕ) → k < length xs → get_or zs k 0 ≡ f (get_or xs k 0) (get_or ys k 0)) → joined zs ≡ f (joined xs) (joined ys)
unfolding joined
joined_by_lem f w [] [] [] ly lz h = sym w.none
joined_by_lem f w [] [] (z ∷ zs) ly lz h = absurd (omega arith)
joined_by_lem f w [] (y ∷ ys) zs ly lz h = absurd (omega arith)
joined_by_lem f w (x ∷ xs) [] zs ly lz h = absurd (omega arith)
joined_by_lem f w (x ∷ xs) (y ∷ ys) [] ly lz h = absurd (omega arith)
joined_by_lem f w (x ∷ xs) (y ∷ ys) (z ∷ zs) ly lz h =
    let rest = joined_by_lem f w xs ys zs (omega arith) (omega arith) (λ k l. h (suc k) (omega arith)) in
    let here : z ≡ f x y = h 0 (omega arith) in
    rw (rest, here, w.cut x y) (sym (w.glued (joined xs) (joined ys) (x % 2 ^ 64) (y % 2 ^ 64) (low_word x) (low_word y)))

pub joined_lt : (ws : List ℕ) → joined ws < 2 ^ (64 * length ws)
unfolding joined
joined_lt [] = omega arith
joined_lt (w ∷ ws) =
    let e : 64 * suc (length ws) ≡ 64 * length ws + 64 = omega arith in
    let p : 2 ^ (64 * suc (length ws)) ≡ 2 ^ (64 * length ws) * 2 ^ 64 = ap (λ (n : ℕ). 2 ^ n) e ∙ pow-add 2 (64 * length ws) 64 in
    omega (arith, joined_lt ws, low_word w, p)

-- the lowest 64 digits of a number are those of its remainder
pub has_word : (x v : ℕ) → v < 64 → has (x % 2 ^ 64) v ≡ has x v
unfolding has
has_word x v l =
    let e : 64 ≡ (63 - v + 1) + v = omega arith in
    ap (λ (n : ℕ). eqb (n % 2) 1) (ap (λ (n : ℕ). x % 2 ^ n / 2 ^ v) e ∙ field x (63 - v + 1) v)
    ∙ ap (λ (n : ℕ). eqb n 1) (mod-mod-pow (x / 2 ^ v) (63 - v) 1)

-- digit v of the set is digit v % 64 of word v / 64
pub has_joined : (ws : List ℕ) (v : ℕ) → has (joined ws) v ≡ has (get_or ws (v / 64) 0) (v % 64)
unfolding joined
has_joined [] v = has_none v ∙ sym (has_none (v % 64))
has_joined (w ∷ ws) v =
    elim (cases_lt v 64) [
      | inl l ↦
          let d : v / 64 ≡ 0 = omega arith in let m : v % 64 ≡ v = omega arith in
          rw (d, m) (low_digit (joined ws) w v l)
      | inr l ↦
          let d : v / 64 ≡ suc ((v - 64) / 64) = omega arith in let m : v % 64 ≡ (v - 64) % 64 = omega arith in
          let e : v ≡ 64 + (v - 64) = omega arith in
          rw (d, m) (ap (has (joined ws * 2 ^ 64 + w % 2 ^ 64)) e ∙ sym (has_shr (joined ws * 2 ^ 64 + w % 2 ^ 64) 64 (v - 64))
          ∙ ap (λ (n : ℕ). has n (v - 64)) (shr_high (joined ws) 64 (w % 2 ^ 64) (low_word w)) ∙ has_joined ws (v - 64))
    ]
  where
    low_digit : (a w v : ℕ) → v < 64 → has (a * 2 ^ 64 + w % 2 ^ 64) v ≡ has w v
    low_digit a w v l = sym (has_word (a * 2 ^ 64 + w % 2 ^ 64) v l) ∙ ap (λ (n : ℕ). has n v) (low a 64 (low_word w)) ∙ has_word w v l

-- the words of two sets, word by word
pub wordwise : (f : ℕ → ℕ → ℕ) → Wordly f → (xs ys zs : List ℕ) → IsWords xs → IsWords ys → IsWords zs →
    ((k : ℕ) → k < 7 → get_or zs k 0 ≡ f (get_or xs k 0) (get_or ys k 0)) → joined zs ≡ f (joined xs) (joined ys)
wordwise f w xs ys zs hx hy hz h =
    joined_by_lem f w xs ys zs (omega (arith, hx.0, hy.0)) (omega (arith, hx.0, hz.0)) (λ k l. h k (omega (arith, hx.0)))

-- what is in a word and not in another, as code writes it
pub and_not_word : (a b : ℕ) → a < 2 ^ 64 → b < 2 ^ 64 → bit_and a (2 ^ 64 - 1 - b) ≡ bit_xor a (bit_and a b)
and_not_word a b ha hb =
    let twice : bit_and a (bit_and a b) ≡ bit_and a b = sym (and_assoc b a a) ∙ ap (λ (x : ℕ). bit_and x b) (and_self a) in
    let both = and-not 64 b a hb ha in
    let parts = rw twice at (xor_add_and a (bit_and a b)) in
    let l : bit_and (2 ^ 64 - 1 - b) a ≡ bit_and a (2 ^ 64 - 1 - b) = and_comm (2 ^ 64 - 1 - b) a in
    let r : bit_and b a ≡ bit_and a b = and_comm b a in
    omega (arith, parts, both, l, r)

-- one word written
pub words_set : (ws : List ℕ) (i w : ℕ) → IsWords ws → w < 2 ^ 64 → IsWords (set ws i w)
words_set ws i w h b = (
  length-set ws i w ∙ h.0,
  λ k. elim (cases_eq k i) [
    | inl e ↦ rw e (elim (cases_lt i (length ws)) [
      | inl l ↦ let s = get_or-set_same ws i w 0 l in omega (arith, s)
      | inr l ↦ let s = get_or_past (set ws i w) i 0 (let n = length-set ws i w in omega (arith, n)) in omega (arith, s)
    ])
    | inr n ↦ let s = get_or-set_other ws i k w 0 n in omega (arith, s, h.1 k)
  ],
)

-- a node set has no member of 448 or more
pub joined_small : (ws : List ℕ) → IsWords ws → joined ws < 2 ^ 448
joined_small ws h = let e : 64 * length ws ≡ 448 = omega (arith, h.0) in rw e at (joined_lt ws)

-- a word list with one bit more in one word
pub joined_with : (ws : List ℕ) (v : ℕ) → length ws ≡ 7 → v < 448 →
    joined (set ws (v / 64) (bit_or (get_or ws (v / 64) 0) (2 ^ (v % 64)))) ≡ bit_or (joined ws) (2 ^ v)
joined_with ws v seven lt = same_members 448 _ _ below_l below_r each
  where
    le : v / 64 < length ws
    le = omega arith

    below_l : joined (set ws (v / 64) (bit_or (get_or ws (v / 64) 0) (2 ^ (v % 64)))) < 2 ^ 448
    below_l = let e : 64 * length (set ws (v / 64) (bit_or (get_or ws (v / 64) 0) (2 ^ (v % 64)))) ≡ 448 = simp length-set (omega arith) in rw e at (joined_lt (set ws (v / 64) (bit_or (get_or ws (v / 64) 0) (2 ^ (v % 64)))))

    below_r : bit_or (joined ws) (2 ^ v) < 2 ^ 448
    below_r = let e : 64 * length ws ≡ 448 = omega arith in or_lt 448 (joined ws) (2 ^ v) (rw e at (joined_lt ws)) (pow_below v 448 lt)

    each : (k : ℕ) → k < 448 → has (joined (set ws (v / 64) (bit_or (get_or ws (v / 64) 0) (2 ^ (v % 64))))) k ≡ has (bit_or (joined ws) (2 ^ v)) k
    each k h =
        has_joined (set ws (v / 64) (bit_or (get_or ws (v / 64) 0) (2 ^ (v % 64)))) k
        ∙ elim (cases_eq (k / 64) (v / 64)) [
          | inl e ↦ (let f : eqb (k % 64) (v % 64) ≡ eqb k v = same_rest k v e in
              rw (e, get_or-set_same ws (v / 64) (bit_or (get_or ws (v / 64) 0) (2 ^ (v % 64))) 0 le, has_union (get_or ws (v / 64) 0) (2 ^ (v % 64)) (k % 64), has_single (v % 64) (k % 64), has_union (joined ws) (2 ^ v) k, has_single v k, f, has_joined ws k, e))
          | inr n ↦ (let f : eqb k v ≡ false = ne_eqb k v (λ e. n (ap (λ (x : ℕ). x / 64) e)) in
              rw (get_or-set_other, has_union (joined ws) (2 ^ v) k, has_single v k, f, has_joined ws k) (grind arith))
        ]
      where
        same_rest : (k v : ℕ) → k / 64 ≡ v / 64 → eqb (k % 64) (v % 64) ≡ eqb k v
        same_rest k v e =
            elim (cases_eq (k % 64) (v % 64)) [
              | inl f ↦ eq-eqb _ _ f ∙ sym (eq-eqb k v (omega arith))
              | inr n ↦ ne_eqb _ _ n ∙ sym (ne_eqb k v (λ g. n (ap (λ (x : ℕ). x % 64) g)))
            ]

-- equal words hold one set
pub joined_ext : (xs ys : List ℕ) → length xs ≡ length ys → ((k : ℕ) → k < length xs → get_or xs k 0 ≡ get_or ys k 0) → joined xs ≡ joined ys
unfolding joined
joined_ext [] [] l h = refl
joined_ext [] (y ∷ ys) l h = absurd (omega arith)
joined_ext (x ∷ xs) [] l h = absurd (omega arith)
joined_ext (x ∷ xs) (y ∷ ys) l h =
    let here : x ≡ y = h 0 (omega arith) in rw (here, joined_ext xs ys (omega arith) (λ k b. h (suc k) (omega arith)))

-- what holds one set has the same words
pub joined_words : (xs ys : List ℕ) → length xs ≡ length ys → joined xs ≡ joined ys → (k : ℕ) → k < length xs → get_or xs k 0 % 2 ^ 64 ≡ get_or ys k 0 % 2 ^ 64
unfolding joined
joined_words [] ys l e k h = absurd (omega arith)
joined_words (x ∷ xs) [] l e k h = absurd (omega arith)
joined_words (x ∷ xs) (y ∷ ys) l e zero h = sym (low (joined xs) 64 (low_word x)) ∙ ap (λ (n : ℕ). n % 2 ^ 64) e ∙ low (joined ys) 64 (low_word y)
joined_words (x ∷ xs) (y ∷ ys) l e (suc k) h =
    let highs : joined xs ≡ joined ys = sym (high (joined xs) 64 (low_word x)) ∙ ap (λ (n : ℕ). n / 2 ^ 64) e ∙ high (joined ys) 64 (low_word y) in
    joined_words xs ys (omega arith) highs k (omega arith)

pub up_to_word : (n : ℕ) → up_to (min n 64) < 2 ^ 64
up_to_word n = elim (cases_lt n 64) [
  | inl l ↦ (let e : min n 64 ≡ n = omega arith in rw e (omega (arith, pow_below n 64 l, pow_pos n)))
  | inr l ↦ (let e : min n 64 ≡ 64 = omega arith in rw e (omega arith))
]

-- the words of the numbers below n
pub joined_up_to : (ws : List ℕ) (n : ℕ) → length ws ≡ 7 → ((k : ℕ) → k < 7 → get_or ws k 0 ≡ up_to (min (n - 64 * k) 64)) → joined ws ≡ up_to (min n 448)
joined_up_to ws n seven h = same_members 448 (joined ws) (up_to (min n 448)) below_l below_r each
  where
    below_l : joined ws < 2 ^ 448
    below_l = let e : 64 * length ws ≡ 448 = omega arith in rw e at (joined_lt ws)

    below_r : up_to (min n 448) < 2 ^ 448
    below_r = elim (cases_lt n 448) [
      | inl l ↦ omega (arith, pow_below n 448 l, (let e : min n 448 ≡ n = omega arith in ap up_to e), pow_pos n)
      | inr l ↦ (let e : min n 448 ≡ 448 = omega arith in rw e (omega arith))
    ]

    each : (k : ℕ) → k < 448 → has (joined ws) k ≡ has (up_to (min n 448)) k
    each k l =
        has_joined ws k ∙ ap (λ (w : ℕ). has w (k % 64)) (h (k / 64) (omega arith)) ∙ has_up_to (min (n - 64 * (k / 64)) 64) (k % 64)
        ∙ elim (cases_lt k n) [
          | inl a ↦ lt-ltb (k % 64) (min (n - 64 * (k / 64)) 64) (omega arith) ∙ sym (has_up_to (min n 448) k ∙ lt-ltb k (min n 448) (omega arith))
          | inr a ↦ le-ltb (k % 64) (min (n - 64 * (k / 64)) 64) (omega arith) ∙ sym (has_up_to (min n 448) k ∙ le-ltb k (min n 448) (omega arith))
        ]

-- the members of x from a number on
abbrev pub after : ℕ → ℕ → ℕ → Bool
after x from k = leb from k && has x k

pub lowest_lt : (m n : ℕ) → (n ≡ 0 → ⊥) → n < 2 ^ m → m ≤ 64 → count_trailing_zeros 64 n < m
lowest_lt m n ne lt le =
    elim (cases_lt (count_trailing_zeros 64 n) m) [
      | inl l ↦ l
      | inr l ↦ absurd (ne (same_members m n 0 lt (pow_pos m) (λ k h. lowest_below 64 n k (omega arith) ∙ sym (has_none k))))
    ]

-- a piece of m numbers from base on with a member: its lowest is the lowest of all
pub piece_found : (x from base m piece : ℕ) → (piece ≡ 0 → ⊥) → piece < 2 ^ m → m ≤ 64 → base + m ≤ 448 → from ≤ base →
    ((k : ℕ) → k < base → after x from k ≡ false) → ((j : ℕ) → j < m → has x (base + j) ≡ has piece j) → base + count_trailing_zeros 64 piece ≡ least (after x from) 448
piece_found x from base m piece ne lt le fits low below here =
    let t = lowest_lt m piece ne lt le in
    least_is (after x from) 448 (base + count_trailing_zeros 64 piece) (omega arith)
    (λ k h. elim (cases_lt k base) [
      | inl l ↦ below k l
      | inr l ↦ (let e : base + (k - base) ≡ k = omega arith in and_right (leb from k) (has x k) (ap (has x) (sym e) ∙ here (k - base) (omega arith) ∙ lowest_below 64 piece (k - base) (omega arith)))
    ])
    (and_from (leb from (base + count_trailing_zeros 64 piece)) (has x (base + count_trailing_zeros 64 piece)) (le-leb from (base + count_trailing_zeros 64 piece) (omega arith)) (here (count_trailing_zeros 64 piece) t ∙ lowest_is 64 piece (omega arith)))

-- a piece without a member
pub piece_passed : (x from base m piece : ℕ) → piece ≡ 0 → ((k : ℕ) → k < base → after x from k ≡ false) → ((j : ℕ) → j < m → has x (base + j) ≡ has piece j) →
    (k : ℕ) → k < base + m → after x from k ≡ false
piece_passed x from base m piece z below here k h =
    elim (cases_lt k base) [
      | inl l ↦ below k l
      | inr l ↦ (let e : base + (k - base) ≡ k = omega arith in and_right (leb from k) (has x k) (ap (has x) (sym e) ∙ here (k - base) (omega arith) ∙ ap (λ (n : ℕ). has n (k - base)) z ∙ has_none (k - base)))
    ]

-- the piece that a word is
pub word_piece : (ws : List ℕ) (i j : ℕ) → j < 64 → has (joined ws) (64 * i + j) ≡ has (get_or ws i 0) j
word_piece ws i j h = let d : (64 * i + j) / 64 ≡ i = omega arith in let m : (64 * i + j) % 64 ≡ j = omega arith in has_joined ws (64 * i + j) ∙ rw (d, m)

-- the rest of a word from a number on
pub rest_piece : (ws : List ℕ) (from j : ℕ) → j < 64 - from % 64 → has (joined ws) (from + j) ≡ has (get_or ws (from / 64) 0 / 2 ^ (from % 64)) j
rest_piece ws from j h =
    let d : (from + j) / 64 ≡ from / 64 = omega arith in let m : (from + j) % 64 ≡ from % 64 + j = omega arith in
    has_joined ws (from + j) ∙ rw (d, m) (sym (has_shr (get_or ws (from / 64) 0) (from % 64) j))

-- the members below a number do not count
pub below_from : (x from k : ℕ) → k < from → after x from k ≡ false
below_from x from k h = rw (lt-leb from k h)

-- one set more is emptied
pub cleared_more : {A : Type 0} (e : A) (ss : List A) (i : ℕ) → i < length ss → set (replicate i e ++ drop i ss) i e ≡ replicate (suc i) e ++ drop (suc i) ss
cleared_more e [] i h = absurd (omega arith)
cleared_more e (s ∷ ss) zero h = refl
cleared_more e (s ∷ ss) (suc i) h = ap (λ xs. e ∷ xs) (cleared_more e ss i (omega arith))
