-- What a file without a fault holds.
use Rattle.std.proofs.Common.{◌≡◌, ℕ, ◌+◌, ◌-◌, ◌*◌, ◌<◌, ◌≤◌, Bool, true, false, cond, not, ◌&&◌, ◌||◌, eqb, leb, List, length, is_some, Some, None, Ok, Option, sym, refl, ap, ◌∙◌, inl, inr, le_refl, lt_of_lt_of_le, arith}
use Rattle.std.proofs.lemmas.Bool.{cases_Bool, cases_lt, cases_eq, both_ways, ltb-false, lt-ltb, le-ltb, eqb-true, ne_eqb, eqb-false, or_parts, not-false, not_from_true, cond-false, and_parts}
use Rattle.counting.specs.Counting.{least}
use Rattle.counting.proofs.Searches.{least_none, least_below, least_found}
use Rattle.faults.specs.declared.BitFault.{BitFault}
use Rattle.faults.specs.declared.BitFault.TheVariants.{Short, Fill}
use Rattle.faults.specs.declared.RowFault.{RowFault}
use Rattle.rows.specs.declared.Row.{Row}
use Rattle.rows.specs.Rows.{shape, fits, Program}
use Rattle.source.specs.Reading.{vars_in, count_in, class_in, size_of, fill_in, part, row_of, spare, known, row_fault, counts_fault, header_fault, class_fault, rows_fault, last_fault, program_in, decided, reading, row_in, fault_in}
use Rattle.source.proofs.Fields.{field_lt}
use Rattle.source.proofs.Parts.{headed_by, headed_short, classes_none}

pub some_none : {A : Type 0} (x : A) → Some x ≡ None → ⊥
some_none x h = let z : ◌≡◌ {A = ℕ} 0 1 = cc in omega arith

-- no fault: the test did not pass, and nothing after it did
pub cond_none : {A : Type 0} (b : Bool) (x : A) (o : Option A) → cond b (Some x) o ≡ None → (b ≡ false) × (o ≡ None)
cond_none true x o h = absurd (some_none x h)
cond_none false x o h = (refl, h)

pub not_some : {A : Type 0} (o : Option A) → is_some o ≡ false → o ≡ None
not_some None h = refl
not_some (Some x) h = absurd (both_ways true h refl)

-- ---- a row

-- a word whose row has no fault
pub record FineRow (v n : ℕ) (class : ℕ → ℕ) (w : ℕ) (r : Row) : Type 0 where
  pub source : part w 0 4 ≤ 12
  pub spares : spare w r ≡ true
  pub knows : known v r ≡ true
  pub suits : fits r.op (class r.d) (class r.a) (class r.b) ≡ true
  pub goes : ((shape r.op).target && leb n r.target) ≡ false

pub row_fine : (v n : ℕ) (class : ℕ → ℕ) (i w : ℕ) → row_fault v n class i w ≡ None → FineRow v n class w (row_of class w)
unfolding row_fault
row_fine v n class i w h =
    let o = cond_none _ _ _ h in
    let s = cond_none _ _ _ o.1 in
    let k = cond_none _ _ _ s.1 in
    let f = cond_none _ _ _ k.1 in
    let t = cond_none _ _ _ f.1 in
    record { source = ltb-false 12 (part w 0 4) o.0; spares = not-false _ s.0; knows = not-false _ k.0; suits = not-false _ f.0; goes = t.0 }

pub fine_row : (v n : ℕ) (class : ℕ → ℕ) (i w : ℕ) → FineRow v n class w (row_of class w) → row_fault v n class i w ≡ None
unfolding row_fault
fine_row v n class i w f =
    cond-false _ _ _ (le-ltb 12 (part w 0 4) f.source) ∙ cond-false _ _ _ (not_from_true _ f.spares) ∙ cond-false _ _ _ (not_from_true _ f.knows)
    ∙ cond-false _ _ _ (not_from_true _ f.suits) ∙ cond-false _ _ _ f.goes

or_zero : (b : Bool) (x : ℕ) → (b || eqb x 0) ≡ true → b ≡ false → x ≡ 0
or_zero true x h e = absurd (both_ways true e refl)
or_zero false x h e = eqb-true x 0 h

-- the fields that a row does not use
pub record Spared (w : ℕ) (r : Row) : Type 0 where
  pub d : (shape r.op).d ≡ false → r.d ≡ 0
  pub a : (shape r.op).a ≡ false → r.a ≡ 0
  pub b : (shape r.op).b ≡ false → r.b ≡ 0
  pub target : (shape r.op).target ≡ false → r.target ≡ 0
  pub last : (shape r.op).constant ≡ true → part w 28 4 ≡ 0

pub spared : (w : ℕ) (r : Row) → spare w r ≡ true → Spared w r
spared w r h =
    let o = shape r.op in
    let d = and_parts (o.d || eqb r.d 0) _ h in
    let a = and_parts (o.a || eqb r.a 0) _ d.1 in
    let b = and_parts (o.b || eqb r.b 0) _ a.1 in
    let t = and_parts (o.target || eqb r.target 0) (not o.constant || eqb (part w 28 4) 0) b.1 in
    record {
      d = or_zero o.d r.d d.0;
      a = or_zero o.a r.a a.0;
      b = or_zero o.b r.b b.0;
      target = or_zero o.target r.target t.0;
      last = λ e. or_zero (not o.constant) (part w 28 4) t.1 (not_from_true _ e);
    }

-- ---- a file

pub record Fine (bs : List ℕ) : Type 0 where
  pub vars : vars_in bs ≤ 64
  pub some : 1 ≤ count_in bs
  pub most : count_in bs ≤ 128
  pub size : length bs ≡ size_of (vars_in bs) (count_in bs)
  pub classes : (k : ℕ) → k < vars_in bs → eqb (class_in bs k) 3 ≡ false
  pub fill : fill_in bs ≡ 0
  pub rows : (i : ℕ) → i < count_in bs → fault_in bs i ≡ None
  pub last : (shape (row_in bs (count_in bs - 1)).op).falls ≡ false

pub counts_none : (v n size : ℕ) → counts_fault v n size ≡ None → (v ≤ 64) × (1 ≤ n) × (n ≤ 128) × (size ≡ size_of v n)
counts_none v n size h =
    let a = cond_none _ _ _ h in
    let b = cond_none _ _ _ a.1 in
    let c = cond_none _ _ _ b.1 in
    let d = cond_none _ _ _ c.1 in
    let e = or_parts _ _ b.0 in
    let z : n ≡ 0 → ⊥ = eqb-false n 0 e.0 in
    (ltb-false 64 v a.0, (elim (cases_eq n 0) [ inl f ↦ absurd (z f) | inr f ↦ omega arith ]), ltb-false 128 n e.1, omega (arith, ltb-false size (size_of v n) c.0, ltb-false (size_of v n) size d.0))

pub header_none : (bs : List ℕ) → header_fault bs ≡ None → counts_fault (vars_in bs) (count_in bs) (length bs) ≡ None
header_none bs h = elim (cases_lt (length bs) 2) [ inl l ↦ absurd (some_none Short (sym (headed_short bs l) ∙ h)) | inr l ↦ sym (headed_by bs l) ∙ h ]

pub class_none : (bs : List ℕ) → class_fault bs ≡ None → ((k : ℕ) → k < vars_in bs → eqb (class_in bs k) 3 ≡ false) × (fill_in bs ≡ 0)
unfolding class_fault
class_none bs h =
    let a = cond_none _ _ _ h in
    let past : vars_in bs ≤ least (λ m. eqb (class_in bs m) 3) (vars_in bs) = ltb-false _ _ a.0 in (
      (λ k l. least_below (λ m. eqb (class_in bs m) 3) (vars_in bs) k (lt_of_lt_of_le l past)),
      (elim (cases_Bool (eqb (fill_in bs) 0)) [ inl e ↦ eqb-true (fill_in bs) 0 e | inr e ↦ absurd (some_none Fill (rw e at a.1)) ]),
    )

pub rows_none : (bs : List ℕ) → rows_fault bs ≡ None → (i : ℕ) → i < count_in bs → fault_in bs i ≡ None
unfolding rows_fault
rows_none bs h i l =
    let bad : ℕ = least (λ k. is_some (fault_in bs k)) (count_in bs) in
    elim (cases_lt bad (count_in bs)) [
      | inl e ↦ (let f : fault_in bs bad ≡ None = rw (lt-ltb bad (count_in bs) e) at h in absurd (both_ways _ (ap is_some f) (least_found (λ k. is_some (fault_in bs k)) (count_in bs) e)))
      | inr e ↦ not_some (fault_in bs i) (least_below (λ k. is_some (fault_in bs k)) (count_in bs) i (omega arith))
    ]

pub last_none : (bs : List ℕ) → last_fault bs ≡ None → (shape (row_in bs (count_in bs - 1)).op).falls ≡ false
unfolding last_fault
last_none bs h = (cond_none _ _ _ h).0

-- ---- a file read

decided_ok : (h c : Option BitFault) (r l : Option RowFault) (q p : Program) → decided h c r l q ≡ Ok p → (h ≡ None) × (c ≡ None) × (r ≡ None) × (l ≡ None) × (q ≡ p)
decided_ok (Some e) c r l q p eq = absurd (let z : ◌≡◌ {A = ℕ} 0 1 = cc in omega arith)
decided_ok None (Some e) r l q p eq = absurd (let z : ◌≡◌ {A = ℕ} 0 1 = cc in omega arith)
decided_ok None None (Some e) l q p eq = absurd (let z : ◌≡◌ {A = ℕ} 0 1 = cc in omega arith)
decided_ok None None None (Some e) q p eq = absurd (let z : ◌≡◌ {A = ℕ} 0 1 = cc in omega arith)
decided_ok None None None None q p eq = (refl, refl, refl, refl, (cc))

pub read_fine : (bs : List ℕ) (p : Program) → reading bs ≡ Ok p → Fine bs × (program_in bs ≡ p)
unfolding reading
read_fine bs p eq =
    let (h, c, r, l, is) = decided_ok (header_fault bs) (class_fault bs) (rows_fault bs) (last_fault bs) (program_in bs) p eq in
    let (vars, some, most, size) = counts_none (vars_in bs) (count_in bs) (length bs) (header_none bs h) in
    let (classes, fill) = class_none bs c in
    (record { vars = vars; some = some; most = most; size = size; classes = classes; fill = fill; rows = rows_none bs r; last = last_none bs l }, is)

-- ---- a file in which nothing is wrong

counts_fine : (v n size : ℕ) → v ≤ 64 → 1 ≤ n → n ≤ 128 → size ≡ size_of v n → counts_fault v n size ≡ None
counts_fine v n size a b c d = rw (le-ltb 64 v a, ne_eqb n 0 (λ e. omega arith), le-ltb 128 n c, le-ltb size (size_of v n) (omega arith), le-ltb (size_of v n) size (omega arith))

header_fine : (bs : List ℕ) → Fine bs → header_fault bs ≡ None
header_fine bs f = headed_by bs (omega (arith, f.size)) ∙ counts_fine (vars_in bs) (count_in bs) (length bs) f.vars f.some f.most f.size

class_fine : (bs : List ℕ) → Fine bs → class_fault bs ≡ None
class_fine bs f = classes_none bs (λ k l. let ne = eqb-false (class_in bs k) 3 (f.classes k l) in omega (arith, ne, field_lt bs (16 + 2 * k) 2)) f.fill

rows_fine : (bs : List ℕ) → Fine bs → rows_fault bs ≡ None
unfolding rows_fault
rows_fine bs f =
    let none : count_in bs ≡ least (λ k. is_some (fault_in bs k)) (count_in bs) = least_none _ (count_in bs) (λ k l. ap is_some (f.rows k l)) in
    rw (← none, le-ltb (count_in bs) (count_in bs) (le_refl (count_in bs)))

last_fine : (bs : List ℕ) → Fine bs → last_fault bs ≡ None
unfolding last_fault
last_fine bs f = cond-false _ _ _ f.last

pub fine_read : (bs : List ℕ) → Fine bs → reading bs ≡ Ok (program_in bs)
unfolding reading
fine_read bs f = rw (header_fine bs f, class_fine bs f, rows_fine bs f, last_fine bs f)
