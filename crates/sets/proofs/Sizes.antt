-- How many members the words of a node set have.
use Rattle.std.proofs.Common.{◌≡◌, ℕ, zero, suc, ◌+◌, ◌*◌, ◌/◌, ◌%◌, ◌^◌, ◌<◌, cond, eqb, List, length, get_or, sym, refl, ap, ◌∙◌, mod-lt, mod-eq_of_lt, arith, lit<}
use lib.Count.{ones, ones_in, ones_cat, ones-le}
use Rattle.std.proofs.lemmas.Nat.{mod-pow-add, pow_pos, mod_below}
use Rattle.counting.specs.Counting.{sum}
use Rattle.counting.proofs.Sums.{sum_ext, sum_split}
use Rattle.sets.specs.Sets.{has, size}
use Rattle.sets.specs.Words.{joined}
use Rattle.sets.proofs.Orders.{size_capped}
use Rattle.sets.proofs.Words.{word_piece, joined_ext}

digit_ones : (x : ℕ) → x < 2 → ones x ≡ cond (eqb x 1) 1 0
unfolding ones ones_in
digit_ones zero h = refl
digit_ones (suc zero) h = refl
digit_ones (suc (suc x)) h = absurd (omega arith)

ones_low : (w n : ℕ) → ones (w % 2 ^ n) ≡ size n w
unfolding sum ones ones_in has
ones_low w zero = ap ones (let e : w % 1 ≡ 0 = omega arith in e)
ones_low w (suc n) =
    let e : suc n ≡ 1 + n = omega arith in
    let split : w % 2 ^ suc n ≡ w / 2 ^ n % 2 * 2 ^ n + w % 2 ^ n = ap (λ (x : ℕ). w % 2 ^ x) e ∙ mod-pow-add w 1 n in
    ap ones split ∙ ones_cat n (w / 2 ^ n % 2) (w % 2 ^ n) (mod_below w (2 ^ n) (pow_pos n)) ∙ rw (digit_ones (w / 2 ^ n % 2) (mod-lt (w / 2 ^ n) (lit< tt)), ones_low w n)

ones_word : (w : ℕ) → w < 2 ^ 64 → ones w ≡ size 64 w
ones_word w h = ap ones (sym (mod-eq_of_lt h)) ∙ ones_low w 64

-- one word more is counted
pub size_more : (ws : List ℕ) (i : ℕ) → get_or ws i 0 < 2 ^ 64 → size (64 * (i + 1)) (joined ws) ≡ size (64 * i) (joined ws) + ones (get_or ws i 0)
size_more ws i h =
    let e : 64 * (i + 1) ≡ 64 * i + 64 = omega arith in
    ap (λ (n : ℕ). size n (joined ws)) e ∙ sum_split (λ k. cond (has (joined ws) k) 1 0) (64 * i) 64
    ∙ ap (λ (n : ℕ). size (64 * i) (joined ws) + n)
    (sum_ext (λ k. cond (has (joined ws) (64 * i + k)) 1 0) (λ k. cond (has (get_or ws i 0) k) 1 0) 64 (λ k l. rw (word_piece ws i k l))
    ∙ sym (ones_word (get_or ws i 0) h))

-- what the loop over the words knows after i of them
pub record Counted (ws : List ℕ) (i n : ℕ) : Type 0 where
  pub so_far : n ≡ size (64 * i) (joined ws)

pub counted_fits : (ws : List ℕ) (i n : ℕ) → Counted ws i n → i < 7 → get_or ws i 0 < 2 ^ 64 → n + ones (get_or ws i 0) < 2 ^ 32
counted_fits ws i n c l word = omega (arith, c.so_far, size_capped (64 * i) (joined ws), ones-le 64 (get_or ws i 0) word)

pub counted_more : (ws : List ℕ) (i n : ℕ) → Counted ws i n → get_or ws i 0 < 2 ^ 64 → Counted ws (i + 1) (n + ones (get_or ws i 0))
counted_more ws i n c word = record { so_far = omega (arith, c.so_far, size_more ws i word) }

-- the members of seven words, by any list of the same words
pub counted_all : (ws xs : List ℕ) (i n : ℕ) → Counted ws i n → i ≡ 7 → length ws ≡ 7 → length xs ≡ 7 →
    get_or ws 0 0 ≡ get_or xs 0 0 → get_or ws 1 0 ≡ get_or xs 1 0 → get_or ws 2 0 ≡ get_or xs 2 0 → get_or ws 3 0 ≡ get_or xs 3 0 →
    get_or ws 4 0 ≡ get_or xs 4 0 → get_or ws 5 0 ≡ get_or xs 5 0 → get_or ws 6 0 ≡ get_or xs 6 0 → n ≡ size 448 (joined xs)
counted_all ws xs i n w seven lw lx a b c d e f g =
    w.so_far ∙ rw seven (ap (size 448) (joined_ext ws xs (omega arith) each))
  where
    each : (k : ℕ) → k < length ws → get_or ws k 0 ≡ get_or xs k 0
    each zero h = a
    each (suc zero) h = b
    each (suc (suc zero)) h = c
    each (suc (suc (suc zero))) h = d
    each (suc (suc (suc (suc zero)))) h = e
    each (suc (suc (suc (suc (suc zero))))) h = f
    each (suc (suc (suc (suc (suc (suc zero)))))) h = g
    each (suc (suc (suc (suc (suc (suc (suc k))))))) h = absurd (omega arith)
