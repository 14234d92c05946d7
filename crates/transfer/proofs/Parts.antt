-- What a row reads and writes and where it goes on, field by field.
use Rattle.std.proofs.Common.{◌≡◌, ℕ, suc, Bool, true, false, cond, ◌&&◌, ◌||◌, eqb, ◌⊎◌, List, [], ◌∷◌, ◌++◌, sym, refl, ap, ◌∙◌, subst, inl, inr, arith}
use Rattle.std.proofs.lemmas.Bool.{cases_Bool, both_ways, or_cases, or_left, or_right, eq-eqb, eqb-true}
use Rattle.rows.specs.declared.Op.{Op}
use Rattle.rows.specs.declared.Op.TheVariants.{Copy}
use Rattle.rows.specs.declared.Row.{Row}
use Rattle.rows.specs.Rows.{shape, copies, only, reads, writes, next}
use Rattle.facts.specs.Flow.{holds}

-- a list of at most two
two_which : (s t : Bool) (x y v : ℕ) → holds (only s x ++ only t y) v ≡ true → ((s ≡ true) × (v ≡ x)) ⊎ ((t ≡ true) × (v ≡ y))
unfolding holds
two_which true true x y v h = elim (or_cases (eqb v x) _ h) [
  | inl e ↦ inl (refl, eqb-true v x e)
  | inr e ↦ elim (or_cases (eqb v y) false e) [ inl f ↦ inr (refl, eqb-true v y f) | inr f ↦ absurd (both_ways false refl f) ]
]
two_which true false x y v h = elim (or_cases (eqb v x) false h) [ inl e ↦ inl (refl, eqb-true v x e) | inr f ↦ absurd (both_ways false refl f) ]
two_which false true x y v h = elim (or_cases (eqb v y) false h) [ inl e ↦ inr (refl, eqb-true v y e) | inr f ↦ absurd (both_ways false refl f) ]
two_which false false x y v h = absurd (both_ways false refl h)

two_first : (s t : Bool) (x y : ℕ) → s ≡ true → holds (only s x ++ only t y) x ≡ true
unfolding holds
two_first s t x y e = rw (e, eq-eqb x x refl)

two_second : (s t : Bool) (x y : ℕ) → t ≡ true → holds (only s x ++ only t y) y ≡ true
unfolding holds
two_second true t x y e = rw (e, eq-eqb y y refl) (or_right (eqb y x) _ refl)
two_second false t x y e = rw (e, eq-eqb y y refl)

pub read_which : (r : Row) (v : ℕ) → holds (reads r) v ≡ true → (((shape r.op).a ≡ true) × (v ≡ r.a)) ⊎ (((shape r.op).b ≡ true) × (v ≡ r.b))
read_which r v h = two_which (shape r.op).a (shape r.op).b r.a r.b v h

pub read_a : (r : Row) → (shape r.op).a ≡ true → holds (reads r) r.a ≡ true
read_a r e = two_first (shape r.op).a (shape r.op).b r.a r.b e

pub read_b : (r : Row) → (shape r.op).b ≡ true → holds (reads r) r.b ≡ true
read_b r e = two_second (shape r.op).a (shape r.op).b r.a r.b e

pub goes_which : (i : ℕ) (r : Row) (j : ℕ) → holds (next i r) j ≡ true → (((shape r.op).target ≡ true) × (j ≡ r.target)) ⊎ (((shape r.op).falls ≡ true) × (j ≡ suc i))
goes_which i r j h = two_which (shape r.op).target (shape r.op).falls r.target (suc i) j h

pub goes_target : (i : ℕ) (r : Row) → (shape r.op).target ≡ true → holds (next i r) r.target ≡ true
goes_target i r e = two_first (shape r.op).target (shape r.op).falls r.target (suc i) e

pub goes_below : (i : ℕ) (r : Row) → (shape r.op).falls ≡ true → holds (next i r) (suc i) ≡ true
goes_below i r e = two_second (shape r.op).target (shape r.op).falls r.target (suc i) e

one_which : (s : Bool) (x v : ℕ) → holds (only s x) v ≡ true → (s ≡ true) × (v ≡ x)
unfolding holds
one_which true x v h = elim (or_cases (eqb v x) false h) [ inl e ↦ (refl, eqb-true v x e) | inr f ↦ absurd (both_ways false refl f) ]
one_which false x v h = absurd (both_ways false refl h)

one_first : (s : Bool) (x : ℕ) → s ≡ true → holds (only s x) x ≡ true
unfolding holds
one_first s x e = rw (e, eq-eqb x x refl)

pub write_which : (r : Row) (v : ℕ) → holds (writes r) v ≡ true → ((shape r.op).d ≡ true) × (v ≡ r.d)
write_which r v h = one_which (shape r.op).d r.d v h

pub write_d : (r : Row) → (shape r.op).d ≡ true → holds (writes r) r.d ≡ true
write_d r e = one_first (shape r.op).d r.d e

pub is_copy : (op : Op) → copies op ≡ true → op ≡ Copy
is_copy op h = grind arith

-- a row that writes goes on below, and nowhere else
pub writes_below : (op : Op) → (shape op).d ≡ true → ((shape op).target ≡ false) × ((shape op).falls ≡ true)
writes_below op h = (aim op h, falls op h)
  where
    aim : (op : Op) → (shape op).d ≡ true → (shape op).target ≡ false
    aim op h = grind arith

    falls : (op : Op) → (shape op).d ≡ true → (shape op).falls ≡ true
    falls op h = grind arith

pub writes_other : (r : Row) (v : ℕ) → ((shape r.op).d ≡ true → v ≡ r.d → ⊥) → holds (writes r) v ≡ false
writes_other r v h = elim (cases_Bool (holds (writes r) v)) [ inl e ↦ (let (x, z) = write_which r v e in absurd (h x z)) | inr e ↦ e ]
