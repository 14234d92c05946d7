-- Runs of bits: a store changes the bits of its run and no other, so it is a write.
use Rattle.std.proofs.Common.{◌≡◌, ℕ, zero, suc, ◌+◌, ◌-◌, ◌*◌, ◌/◌, ◌%◌, ◌^◌, ◌<◌, ◌≤◌, false, cond, ◌&&◌, ltb, leb, ◌⊎◌, sym, ap, ◌∙◌, inl, inr, mod-lt, arith}
use lib.Bits.{bit_or}
use lib.Pow.{mod-mod-pow}
use Rattle.std.proofs.lemmas.Nat.{pow_pos, pow-add, shr-shr, shr_below, shr_high, mod_low, or_shifted, shl_whole, one_shl, mul-add-lt, field_of, mod-pow-add}
use Rattle.std.proofs.lemmas.Bool.{cases_lt, lt-ltb, le-ltb, le-leb, lt-leb, and_right, cond-false}
use Rattle.registers.specs.Model.{Model, Written}
use Rattle.registers.specs.Runs.{bit, part, patched, held, Leaves}

-- what the shifts and masks of a store come to
pub stored : (x low w v : ℕ) → x < 2 ^ 128 → low < 128 → w < 128 → low + w ≤ 128 →
    bit_or (bit_or (x / 2 ^ low / 2 ^ w * 2 ^ w % 2 ^ 128) (v % (1 * 2 ^ w % 2 ^ 128)) * 2 ^ low % 2 ^ 128) (x % (1 * 2 ^ low % 2 ^ 128)) ≡ patched x low w v
stored x low w v h l w' i =
    let top = 128 - (low + w) in
    let a = x / 2 ^ (low + w) in
    let new = v % 2 ^ w in
    let whole : top + (low + w) ≡ 128 = omega arith in
    let high : a < 2 ^ top = shr_below x top (low + w) (rw whole h) in
    let small : new < 2 ^ w = mod-lt v (pow_pos w) in
    let mid : a * 2 ^ w + new < 2 ^ (top + w) = rw (pow-add 2 top w) (omega (arith, mul-add-lt a (2 ^ w) new (2 ^ top) high small)) in
    rw (
      shr-shr x low w,
      one_shl w 128 w',
      one_shl low 128 l,
      shl_whole a top w 128 high (omega arith),
      or_shifted a w new small,
      shl_whole (a * 2 ^ w + new) (top + w) low 128 mid (omega arith),
    )
    (or_shifted (a * 2 ^ w + new) low (x % 2 ^ low) (mod-lt x (pow_pos low)))

-- the lower k bits tell each bit below k
mod_bit : (x k i : ℕ) → i < k → bit (x % 2 ^ k) i ≡ bit x i
mod_bit x k i h =
    let d = k - suc i in
    let e : k ≡ (d + 1) + i = omega arith in
    rw e (ap (λ n. n % 2) (field_of x (d + 1) i) ∙ mod-mod-pow (x / 2 ^ i) d 1)

pub part_bit : (x low w i : ℕ) → i < w → bit (part x low w) i ≡ bit x (low + i)
part_bit x low w i h = mod_bit (x / 2 ^ low) w i h ∙ ap (λ n. n % 2) (shr-shr x low i)

-- the bits of a number that is put together of an upper part and k lower bits
joined_low : (hi k lo i : ℕ) → lo < 2 ^ k → i < k → bit (hi * 2 ^ k + lo) i ≡ bit lo i
joined_low hi k lo i small h = sym (mod_bit (hi * 2 ^ k + lo) k i h) ∙ ap (λ n. bit n i) (mod_low hi k lo small)

joined_high : (hi k lo i : ℕ) → lo < 2 ^ k → bit (hi * 2 ^ k + lo) (k + i) ≡ bit hi i
joined_high hi k lo i small = ap (λ n. n % 2) (sym (shr-shr (hi * 2 ^ k + lo) k i)) ∙ ap (λ n. n / 2 ^ i % 2) (shr_high hi k lo small)

module _ (x low w v : ℕ) where
  below_bit : (j : ℕ) → j < low → bit (patched x low w v) j ≡ bit x j
  below_bit j h = joined_low _ low (x % 2 ^ low) j (mod-lt x (pow_pos low)) h ∙ mod_bit x low j h

  in_bit : (i : ℕ) → i < w → bit (patched x low w v) (low + i) ≡ bit v i
  in_bit i h =
      joined_high _ low (x % 2 ^ low) i (mod-lt x (pow_pos low))
      ∙ joined_low (x / 2 ^ (low + w)) w (v % 2 ^ w) i (mod-lt v (pow_pos w)) h ∙ mod_bit v w i h

  above_bit : (k : ℕ) → bit (patched x low w v) (low + (w + k)) ≡ bit x (low + w + k)
  above_bit k =
      joined_high _ low (x % 2 ^ low) (w + k) (mod-lt x (pow_pos low))
      ∙ joined_high (x / 2 ^ (low + w)) w (v % 2 ^ w) k (mod-lt v (pow_pos w)) ∙ ap (λ n. n % 2) (shr-shr x (low + w) k)

  pub patched_bit : (j : ℕ) → bit (patched x low w v) j ≡ cond (leb low j && ltb j (low + w)) (bit v (j - low)) (bit x j)
  patched_bit j = elim (cases_lt j low) [
    | inl under ↦ rw (lt-leb low j under) (below_bit j under)
    | inr from ↦ elim (cases_lt j (low + w)) [
      | inl within ↦
          let e : j ≡ low + (j - low) = omega arith in
          rw (le-leb low j from, lt-ltb j (low + w) within) (ap (bit (patched x low w v)) e ∙ in_bit (j - low) (omega arith))
      | inr over ↦
          let k = j - low - w in
          let e : j ≡ low + (w + k) = omega arith in
          let f : low + w + k ≡ j = omega arith in
          rw (le-leb low j from, le-ltb j (low + w) over) (ap (bit (patched x low w v)) e ∙ above_bit k ∙ ap (bit x) f)
    ]
  ]

-- numbers of n bits that are equal bit by bit
pub same_bits : (n a b : ℕ) → a < 2 ^ n → b < 2 ^ n → ((i : ℕ) → i < n → bit a i ≡ bit b i) → a ≡ b
same_bits zero a b ha hb h = omega arith
same_bits (suc n) a b ha hb h =
    let wide : suc n ≡ n + 1 = omega arith in
    let up : (x i : ℕ) → bit (x / 2) i ≡ bit x (suc i) = λ x i. (let e : 1 + i ≡ suc i = omega arith in ap (λ n. n % 2) (shr-shr x 1 i ∙ ap (λ j. x / 2 ^ j) e)) in
    let rest = same_bits n (a / 2) (b / 2) (shr_below a n 1 (rw wide at ha)) (shr_below b n 1 (rw wide at hb)) (λ i l. up a i ∙ h (suc i) (omega arith) ∙ sym (up b i)) in
    omega (arith, rest, h 0 (omega arith))

-- what the runs of a file have to show: registers that do not overlap have no bit in common
pub record Wired (m : Model) (low : ℕ → ℕ) : Type 0 where
  pub apart : (r s : ℕ) → m.overlaps r s ≡ false → (m.width r ≡ 0) ⊎ ((low s + m.width s ≤ low r) ⊎ (low r + m.width r ≤ low s))

module _ (m : Model) (low : ℕ → ℕ) (x r v : ℕ) where
  pub leaves : Leaves m low r v (held m low x) (held m low (patched x (low r) (m.width r) v))
  leaves s i h =
      part_bit (patched x (low r) (m.width r) v) (low s) (m.width s) i h
      ∙ patched_bit x (low r) (m.width r) v (low s + i)
      ∙ ap (cond (leb (low r) (low s + i) && ltb (low s + i) (low r + m.width r)) (bit v (low s + i - low r))) (sym (part_bit x (low s) (m.width s) i h))

  pub written : Wired m low → Written m r v (held m low x) (held m low (patched x (low r) (m.width r) v))
  written wired = record {
    taken = λ _. same_bits (m.width r) _ _ (small r) (mod-lt v (pow_pos (m.width r))) (λ i h. new i h);
    kept = λ s e. same_bits (m.width s) _ _ (small s) (mod-lt _ (pow_pos (m.width s))) (λ i h. old s i h (wired.apart r s e));
    below = small;
  }
    where
      small : (s : ℕ) → held m low (patched x (low r) (m.width r) v) s < 2 ^ m.width s
      small s = mod-lt _ (pow_pos (m.width s))

      new : (i : ℕ) → i < m.width r → bit (held m low (patched x (low r) (m.width r) v) r) i ≡ bit (v % 2 ^ m.width r) i
      new i h =
          part_bit (patched x (low r) (m.width r) v) (low r) (m.width r) i h
          ∙ in_bit x (low r) (m.width r) v i h ∙ sym (mod_bit v (m.width r) i h)

      off : (j : ℕ) → (j < low r) ⊎ (low r + m.width r ≤ j) → (leb (low r) j && ltb j (low r + m.width r)) ≡ false
      off j (inl under) = rw (lt-leb (low r) j under)
      off j (inr over) = and_right _ _ (le-ltb j (low r + m.width r) over)

      old : (s i : ℕ) → i < m.width s → (m.width r ≡ 0) ⊎ ((low s + m.width s ≤ low r) ⊎ (low r + m.width r ≤ low s)) →
          bit (held m low (patched x (low r) (m.width r) v) s) i ≡ bit (held m low x s) i
      old s i h away = leaves s i h ∙ cond-false _ _ _ (off (low s + i) (elim away [
        | inl none ↦ elim (cases_lt (low s + i) (low r)) [ inl lt ↦ inl lt | inr ge ↦ inr (omega arith) ]
        | inr (inl under) ↦ inl (omega arith)
        | inr (inr over) ↦ inr (omega arith)
      ]))

-- a store to the run of r is a write to r, and leaves exactly v's bits in it
pub stores : (m : Model) (low : ℕ → ℕ) (wired : Wired m low) (x r v l w x' : ℕ) → l ≡ low r → w ≡ m.width r → x' ≡ patched x l w v →
    Written m r v (held m low x) (held m low x') × Leaves m low r v (held m low x) (held m low x')
stores m low wired x r v l w x' el ew e =
    let f : x' ≡ patched x (low r) (m.width r) v = e ∙ rw (el, ew) in
    rw f (written m low x r v wired, leaves m low x r v)

-- a run inside a run
pub part_within : (x a n b w : ℕ) → b + w ≤ n → part x (a + b) w ≡ part (part x a n) b w
part_within x a n b w h =
    let j = n - b in
    let d = j - w in
    let e : n ≡ j + b = omega arith in
    let f : j ≡ d + w = omega arith in
    let inner : part x a n / 2 ^ b ≡ x / 2 ^ a / 2 ^ b % 2 ^ j = ap (λ i. x / 2 ^ a % 2 ^ i / 2 ^ b) e ∙ field_of (x / 2 ^ a) j b in
    sym (ap (λ y. y % 2 ^ w) (inner ∙ ap (λ i. x / 2 ^ a / 2 ^ b % 2 ^ i) f) ∙ mod-mod-pow (x / 2 ^ a / 2 ^ b) d w ∙ ap (λ y. y % 2 ^ w) (shr-shr x a b))

-- a run is its upper part and its lower
pub part_joined : (x a j k : ℕ) → part x a (j + k) ≡ part x (a + k) j * 2 ^ k + part x a k
part_joined x a j k = mod-pow-add (x / 2 ^ a) j k ∙ ap (λ y. y % 2 ^ j * 2 ^ k + part x a k) (shr-shr x a k)

-- a fetch from the run of r reads r
pub fetches : (m : Model) (low : ℕ → ℕ) (x r l w n : ℕ) → l ≡ low r → w ≡ m.width r → n ≡ part x l w → (n ≡ held m low x r) × (n < 2 ^ m.width r)
fetches m low x r l w n el ew e =
    let f : n ≡ held m low x r = e ∙ rw (el, ew) in
    (f, rw f (mod-lt _ (pow_pos (m.width r))))
