-- Fields that stand in a file, one after another.
use Rattle.std.proofs.Common.{◌≡◌, ℕ, ◌+◌, ◌-◌, ◌*◌, ◌/◌, ◌%◌, ◌^◌, ◌<◌, List, [], ◌∷◌, ◌++◌, length, sym, ap, ◌∙◌, mod-eq_of_lt, arith, pow-add}
use native.Mathlib.Nat.{mod-one}
use lib.Arith.{digits_lt}
use lib.Pow.{high, low, mod-pow-add, field as field_of, mod-mod-pow}
use Rattle.source.specs.Bits.{number, field}
use Rattle.source.proofs.Fields.{number_lt}
use Rattle.packing.specs.Packing.{Field, width, packed}

-- each field has the value that the file has in its bits, from place p on
abbrev pub Stands : List ℕ → ℕ → List Field → Type 0
Stands bs p [] = Unit
Stands bs p (f ∷ fs) = (f.value ≡ field bs p f.bits) × Stands bs (p + f.bits) fs

pub width_append : (fs gs : List Field) → width (fs ++ gs) ≡ width fs + width gs
unfolding width
width_append [] gs = omega arith
width_append (f ∷ fs) gs = omega (arith, width_append fs gs)

pub stands_at : (bs : List ℕ) (p q : ℕ) (fs : List Field) → p ≡ q → Stands bs p fs → Stands bs q fs
stands_at bs p q fs e h = rw e at h

pub stands_append : (bs : List ℕ) (p : ℕ) (fs gs : List Field) → Stands bs p fs → Stands bs (p + width fs) gs → Stands bs p (fs ++ gs)
unfolding width
stands_append bs p [] gs h k = stands_at bs (p + 0) p gs (omega arith) k
stands_append bs p (f ∷ fs) gs (e, h) k = (e, stands_append bs (p + f.bits) fs gs h (stands_at bs (p + (f.bits + width fs)) (p + f.bits + width fs) gs (omega arith) k))

pub stands_parts : (bs : List ℕ) (p : ℕ) (fs gs : List Field) → Stands bs p (fs ++ gs) → Stands bs p fs × Stands bs (p + width fs) gs
unfolding width
stands_parts bs p [] gs h = (tt, stands_at bs p (p + 0) gs (omega arith) h)
stands_parts bs p (f ∷ fs) gs (e, h) =
    let (k, l) = stands_parts bs (p + f.bits) fs gs h in
    ((e, k), stands_at bs (p + f.bits + width fs) (p + (f.bits + width fs)) gs (omega arith) l)

-- the lowest bits of a file are the fields that stand at its end
packed_low : (bs : List ℕ) (p : ℕ) (fs : List Field) → Stands bs p fs → p + width fs ≡ 8 * length bs → packed fs ≡ number bs 0 (length bs) % 2 ^ width fs
unfolding width packed field
packed_low bs p [] h e = sym (mod-one (number bs 0 (length bs)))
packed_low bs p (f ∷ fs) (v, h) e =
    let at : 8 * length bs - (p + f.bits) ≡ width fs = omega arith in
    rw (mod-pow-add (number bs 0 (length bs)) f.bits (width fs), ← packed_low bs (p + f.bits) fs h (omega arith), v, at)

-- fields that fill a file are its number
pub packed_all : (bs : List ℕ) (fs : List Field) → Stands bs 0 fs → width fs ≡ 8 * length bs → packed fs ≡ number bs 0 (length bs)
packed_all bs fs h e = packed_low bs 0 fs h (omega arith) ∙ rw e (mod-eq_of_lt (number_lt bs 0 (length bs)))

-- each value fits its bits
abbrev pub Fit : List Field → Type 0
Fit [] = Unit
Fit (f ∷ fs) = (f.value < 2 ^ f.bits) × Fit fs

pub fit_append : (fs gs : List Field) → Fit fs → Fit gs → Fit (fs ++ gs)
fit_append [] gs h k = k
fit_append (f ∷ fs) gs (v, h) k = (v, fit_append fs gs h k)

pub packed_lt : (fs : List Field) → Fit fs → packed fs < 2 ^ width fs
unfolding width packed
packed_lt [] h = omega arith
packed_lt (f ∷ fs) (v, h) = rw (pow-add 2 f.bits (width fs)) (digits_lt v (packed_lt fs h))

-- a file whose lowest bits are the packed fields has them at its end
stands_low : (bs : List ℕ) (p : ℕ) (fs : List Field) → Fit fs → p + width fs ≡ 8 * length bs → number bs 0 (length bs) % 2 ^ width fs ≡ packed fs → Stands bs p fs
unfolding width packed field
stands_low bs p [] h e k = tt
stands_low bs p (f ∷ fs) (v, h) e k =
    let x : ℕ = number bs 0 (length bs) in
    let at : 8 * length bs - (p + f.bits) ≡ width fs = omega arith in
    let lt = packed_lt fs h in
    let top : x / 2 ^ width fs % 2 ^ f.bits ≡ f.value = sym (field_of x f.bits (width fs)) ∙ ap (λ (y : ℕ). y / 2 ^ width fs) k ∙ high f.value (width fs) lt in
    let rest : x % 2 ^ width fs ≡ packed fs = sym (mod-mod-pow x f.bits (width fs)) ∙ ap (λ (y : ℕ). y % 2 ^ width fs) k ∙ low f.value (width fs) lt in
    (rw at (sym top), stands_low bs (p + f.bits) fs h (omega arith) rest)

pub stands_all : (bs : List ℕ) (fs : List Field) → Fit fs → width fs ≡ 8 * length bs → number bs 0 (length bs) ≡ packed fs → Stands bs 0 fs
stands_all bs fs h e k = stands_low bs 0 fs h (omega arith) (rw k (mod-eq_of_lt (packed_lt fs h)))
