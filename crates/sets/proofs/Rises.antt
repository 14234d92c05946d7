-- The members of a set in rising order, and the walk over the words that gives them.
use Rattle.std.proofs.Common.{◌≡◌, ℕ, zero, suc, ◌+◌, ◌-◌, ◌*◌, ◌/◌, ◌%◌, ◌<◌, ◌≤◌, min, Bool, true, false, not, ◌&&◌, ltb, ◌==◌, ◌≢◌, List, [], ◌∷◌, length, get_or, set, Some, None, Option, sym, refl, ap, ◌∙◌, ap₂, inl, inr, ◌⊎◌, arith, get_or-set_other, get_or-set_same}
use Rattle.std.specs.Option.{MatchOption, unwrap_or}
use Rattle.std.proofs.Math.Bool.{and_self}
use Rattle.std.proofs.lemmas.Bool.{cases_lt, lt-ltb, le-ltb, lt-leb, le-leb, and_right}
use lib.Bits.{bit_and}
use lib.Count.{count_trailing_zeros}
use Rattle.counting.specs.Counting.{least}
use Rattle.counting.proofs.Searches.{least_le, least_below, least_found, least_ext}
use Rattle.sets.specs.Sets.{has, minus, up_to}
use Rattle.sets.specs.Words.{joined, IsWords}
use Rattle.sets.specs.Rising.{passing, rising, lowest}
use Rattle.sets.proofs.Members.{has_none, has_half, has_meet, has_minus, has_up_to, digit, lowest_below, lowest_is}
use Rattle.sets.proofs.Words.{word_piece, has_joined, lowest_lt, after as after_from}

-- what none passes may be left out
pub passing_skip : (t : ℕ → Bool) (d n b : ℕ) → ((k : ℕ) → b ≤ k → k < b + d → t k ≡ false) → passing t (d + n) b ≡ passing t n (b + d)
unfolding passing
passing_skip t zero n b h = let z : 0 + n ≡ n = omega arith in let y : b + 0 ≡ b = omega arith in rw (z, y)
passing_skip t (suc d) n b h =
    let s : suc d + n ≡ suc (d + n) = omega arith in
    let y : b + suc d ≡ suc b + d = omega arith in
    rw (s, h b (omega arith) (omega arith), y) (passing_skip t d n (suc b) (λ k l u. h k (omega arith) (omega arith)))

pub passing_here : (t : ℕ → Bool) (n j : ℕ) → j < n → t j ≡ true → passing t (n - j) j ≡ j ∷ passing t (n - (j + 1)) (j + 1)
unfolding passing
passing_here t n j l h =
    let e : n - j ≡ suc (n - (j + 1)) = omega arith in
    let s : suc j ≡ j + 1 = omega arith in
    rw (e, h, s)

-- from a number to a later one, if none between passes
pub passing_on : (t : ℕ → Bool) (n b j : ℕ) → b ≤ j → j ≤ n → ((k : ℕ) → b ≤ k → k < j → t k ≡ false) → passing t (n - b) b ≡ passing t (n - j) j
passing_on t n b j l u h =
    let p : (j - b) + (n - j) ≡ n - b = omega arith in
    let q : b + (j - b) ≡ j = omega arith in
    let s = passing_skip t (j - b) (n - j) b (λ k x y. h k x (omega arith)) in
    rw (p, q) at s

pub passing_ext : (s t : ℕ → Bool) (n b : ℕ) → ((k : ℕ) → b ≤ k → s k ≡ t k) → passing s n b ≡ passing t n b
unfolding passing
passing_ext s t zero b h = refl
passing_ext s t (suc n) b h = rw (h b (omega arith), passing_ext s t n (suc b) (λ k l. h k (omega arith)))

-- the first that is left and the lowest that passes are one
pub passing_least : (t : ℕ → Bool) (n : ℕ) → ((least t n ≡ n) × (passing t n 0 ≡ [])) ⊎ ((least t n < n) × (passing t n 0 ≡ least t n ∷ passing t (n - (least t n + 1)) (least t n + 1)))
unfolding passing
passing_least t n =
    let le = least_le t n in
    let whole : n - 0 ≡ n = omega arith in
    let on = rw whole at (passing_on t n 0 (least t n) (omega arith) le (λ k l u. least_below t n k u)) in
    elim (cases_lt (least t n) n) [
      | inl l ↦ inr (l, on ∙ passing_here t n (least t n) l (least_found t n l))
      | inr l ↦ (let e : least t n ≡ n = omega arith in let z : n - least t n ≡ 0 = omega arith in inl (e, on ∙ rw z))
    ]

-- the lowest member is the first in rising order
pub lowest_first : (x : ℕ) (xs rest : List ℕ) (r : Option ℕ) → xs ≡ rising x → MatchOption r ((xs ≡ []) × (rest ≡ [])) (λ v. xs ≡ v ∷ rest) → r ≡ lowest x
lowest_first x xs rest None e h = elim (passing_least (has x) 448) [
  | inl p ↦ rw (p.0)
  | inr p ↦ (let z : ◌≡◌ {A = List ℕ} (least (has x) 448 ∷ passing (has x) (448 - (least (has x) 448 + 1)) (least (has x) 448 + 1)) [] = sym p.1 ∙ sym e ∙ h.0 in cc)
]
lowest_first x xs rest (Some v) e h = elim (passing_least (has x) 448) [
  | inl p ↦ (let z : ◌≡◌ {A = List ℕ} [] (v ∷ rest) = sym p.1 ∙ sym e ∙ h in cc)
  | inr p ↦ (let f : least (has x) 448 ≡ v = ap (λ (ys : List ℕ). get_or ys 0 0) (sym p.1 ∙ sym e ∙ h) in rw (lt-ltb (least (has x) 448) 448 p.0) (ap Some (sym f)))
]

-- without the numbers below `from`, the lowest member is the lowest from there on
pub lowest_from : (x from : ℕ) → least (has (minus x (up_to (min from 448)))) 448 ≡ least (after_from x from) 448
lowest_from x from = least_ext (has (minus x (up_to (min from 448)))) (after_from x from) 448 (λ k l.
    has_minus x (up_to (min from 448)) k ∙ ap (λ (b : Bool). has x k && not b) (has_up_to (min from 448) k) ∙ elim (cases_lt k from) [
      | inl u ↦ rw (lt-ltb k (min from 448) (omega arith), lt-leb from k u) (grind arith)
      | inr u ↦ rw (le-ltb k (min from 448) (omega arith), le-leb from k u) (grind arith)
    ])

-- the lowest member, or 448 where there is none
pub lowest_or : (x : ℕ) → unwrap_or (lowest x) 448 ≡ least (has x) 448
lowest_or x = elim (cases_lt (least (has x) 448) 448) [
  | inl l ↦ rw (lt-ltb (least (has x) 448) 448 l)
  | inr l ↦ rw (le-ltb (least (has x) 448) 448 l) (omega (arith, least_le (has x) 448))
]

even_none : (m : ℕ) → m % 2 ≡ 0 → has m 0 ≡ false
unfolding has
even_none m e = let f : m / 1 % 2 ≡ 0 = omega arith in ap (λ x. x == 1) f

later : (c i : ℕ) → ltb c i ≡ ltb (suc c) (suc i)
later c i = elim (cases_lt c i) [ inl l ↦ lt-ltb c i l ∙ sym (lt-ltb (suc c) (suc i) (omega arith)) | inr l ↦ le-ltb c i l ∙ sym (le-ltb (suc c) (suc i) (omega arith)) ]

odd_rest : (n i : ℕ) → n % 2 ≡ 1 → has (bit_and n (n - 1)) (suc i) ≡ has n (suc i)
odd_rest n i f =
    let e : (n - 1) / 2 ≡ n / 2 = omega arith in
    let same : has (n - 1) (suc i) ≡ has n (suc i) = sym (has_half (n - 1) i) ∙ ap (λ m. has m i) e ∙ has_half n i in
    has_meet n (n - 1) (suc i) ∙ rw same (and_self (has n (suc i)))

even_rest : (n i : ℕ) → n % 2 ≡ 0 → has (bit_and n (n - 1)) (suc i) ≡ has (bit_and (n / 2) (n / 2 - 1)) i
even_rest n i f =
    let e : (n - 1) / 2 ≡ n / 2 - 1 = omega arith in
    has_meet n (n - 1) (suc i) ∙ ap₂ ◌&&◌ (sym (has_half n i)) (sym (has_half (n - 1) i) ∙ ap (λ m. has m i) e) ∙ sym (has_meet (n / 2) (n / 2 - 1) i)

-- a word without its lowest member
pub has_cleared : (k n i : ℕ) → count_trailing_zeros k n < k → has (bit_and n (n - 1)) i ≡ (ltb (count_trailing_zeros k n) i && has n i)
unfolding count_trailing_zeros
has_cleared zero n i h = absurd (omega arith)
has_cleared (suc k) n zero h =
    elim (digit n 0) [
      | inl e ↦ (let f : n % 2 ≡ 0 = omega arith in has_meet n (n - 1) 0 ∙ rw (even_none n f) (sym (and_right (ltb (count_trailing_zeros (suc k) n) 0) false refl)))
      | inr e ↦ (let f : n % 2 ≡ 1 = omega arith in has_meet n (n - 1) 0 ∙ and_right (has n 0) (has (n - 1) 0) (even_none (n - 1) (omega arith)) ∙ rw f refl)
    ]
has_cleared (suc k) n (suc i) h =
    elim (digit n 0) [
      | inl e ↦ (let f : n % 2 ≡ 0 = omega arith in let g : suc (count_trailing_zeros k (n / 2)) < suc k = rw f at h in
          even_rest n i f ∙ has_cleared k (n / 2) i (omega arith) ∙ rw f (ap₂ ◌&&◌ (later (count_trailing_zeros k (n / 2)) i) (has_half n i)))
      | inr e ↦ (let f : n % 2 ≡ 1 = omega arith in odd_rest n i f ∙ rw (f, lt-ltb 0 (suc i) (omega arith)) refl)
    ]

-- a word without members is passed over
pub walk_skip : (ws : List ℕ) (a : ℕ) → a < 7 → get_or ws a 0 ≡ 0 → passing (has (joined ws)) (448 - 64 * a) (64 * a) ≡ passing (has (joined ws)) (448 - 64 * (a + 1)) (64 * (a + 1))
walk_skip ws a l z =
    passing_on (has (joined ws)) 448 (64 * a) (64 * (a + 1)) (omega arith) (omega arith)
    (λ j b u. let e : 64 * a + (j - 64 * a) ≡ j = omega arith in ap (has (joined ws)) (sym e) ∙ word_piece ws a (j - 64 * a) (omega arith) ∙ ap (λ (w : ℕ). has w (j - 64 * a)) z ∙ has_none (j - 64 * a))

pub walk_end : (t : ℕ → Bool) (a : ℕ) → 7 ≤ a → passing t (448 - 64 * a) (64 * a) ≡ []
unfolding passing
walk_end t a l = let z : 448 - 64 * a ≡ 0 = omega arith in rw z

-- the lowest member of a word is given and taken away
module _ (ws : List ℕ) (a : ℕ) (h : IsWords ws) (l : a < 7) (ne : get_or ws a 0 ≡ 0 → ⊥) where
  abbrev w : ℕ
  w = get_or ws a 0

  abbrev k : ℕ
  k = count_trailing_zeros 64 w

  abbrev after : List ℕ
  after = set ws a (bit_and w (w - 1))

  low : k < 64
  low = lowest_lt 64 w ne (h.1 a) (omega arith)

  none : (j : ℕ) → 64 * a ≤ j → j < 64 * a + k → has (joined ws) j ≡ false
  none j b u = let e : 64 * a + (j - 64 * a) ≡ j = omega arith in ap (has (joined ws)) (sym e) ∙ word_piece ws a (j - 64 * a) (omega (arith, low)) ∙ lowest_below 64 w (j - 64 * a) (omega arith)

  inside : (j : ℕ) → 64 * a ≤ j → j < 64 * a + 64 → has (joined after) j ≡ (ltb k (j - 64 * a) && has (joined ws) j)
  inside j b u =
      let e : 64 * a + (j - 64 * a) ≡ j = omega arith in
      let lt : j - 64 * a < 64 = omega arith in
      let here : a < length ws = omega (arith, h.0) in
      ap (has (joined after)) (sym e) ∙ word_piece after a (j - 64 * a) lt ∙ ap (λ (x : ℕ). has x (j - 64 * a)) (get_or-set_same ws a (bit_and w (w - 1)) 0 here)
      ∙ has_cleared 64 w (j - 64 * a) low ∙ ap (λ (b : Bool). ltb k (j - 64 * a) && b) (sym (word_piece ws a (j - 64 * a) lt) ∙ ap (has (joined ws)) e)

  gone : (j : ℕ) → 64 * a ≤ j → j < 64 * a + k + 1 → has (joined after) j ≡ false
  gone j b u = inside j b (omega (arith, low)) ∙ ap (λ (t : Bool). t && has (joined ws) j) (le-ltb k (j - 64 * a) (omega arith))

  kept : (j : ℕ) → 64 * a + k + 1 ≤ j → has (joined ws) j ≡ has (joined after) j
  kept j b = elim (cases_lt j (64 * a + 64)) [
    | inl u ↦ sym (inside j (omega arith) u ∙ ap (λ (t : Bool). t && has (joined ws) j) (lt-ltb k (j - 64 * a) (omega arith)))
    | inr u ↦ (let n : j / 64 ≢ a = omega arith in has_joined ws j ∙ ap (λ (x : ℕ). has x (j % 64)) (sym (get_or-set_other ws a (j / 64) (bit_and w (w - 1)) 0 n)) ∙ sym (has_joined after j))
  ]

  pub walk_step : passing (has (joined ws)) (448 - 64 * a) (64 * a) ≡ (64 * a + k) ∷ passing (has (joined after)) (448 - 64 * a) (64 * a)
  walk_step =
      let found : has (joined ws) (64 * a + k) ≡ true = word_piece ws a k low ∙ lowest_is 64 w low in
      let first = passing_on (has (joined ws)) 448 (64 * a) (64 * a + k) (omega arith) (omega (arith, low)) none ∙ passing_here (has (joined ws)) 448 (64 * a + k) (omega (arith, low)) found in
      let rest = passing_on (has (joined after)) 448 (64 * a) (64 * a + k + 1) (omega arith) (omega (arith, low)) gone in
      first ∙ ap (λ (xs : List ℕ). (64 * a + k) ∷ xs) (passing_ext (has (joined ws)) (has (joined after)) (448 - (64 * a + k + 1)) (64 * a + k + 1) kept ∙ sym rest)
