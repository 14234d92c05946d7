-- Where the fields of a program stand in its file.
use Rattle.std.proofs.Common.{◌≡◌, ℕ, zero, suc, ◌+◌, ◌-◌, ◌*◌, ◌<◌, List, [], ◌∷◌, map, length, get_or, sym, refl, inl, inr, arith}
use Rattle.std.proofs.lemmas.Bool.{cases_Bool}
use Rattle.rows.specs.declared.Row.{Row}
use Rattle.rows.specs.Rows.{shape, Program, row_at}
use Rattle.source.specs.Bits.{field}
use Rattle.source.specs.Reading.{vars_in, count_in, class_bytes, size_of}
use Rattle.packing.specs.Packing.{Field, cell, width, row_fields, rows_fields, file_fields}
use Rattle.packing.proofs.Standing.{Stands, stands_at, stands_append, stands_parts, width_append}

-- ---- widths

pub width_classes : (cs : List ℕ) → width (map (cell 2) cs) ≡ 2 * length cs
unfolding width
width_classes [] = refl
width_classes (c ∷ cs) = omega (arith, width_classes cs)

pub width_row : (r : Row) → width (row_fields r) ≡ 32
unfolding width
width_row r = elim (cases_Bool (shape r.op).constant) [ inl e ↦ rw e | inr e ↦ rw e ]

pub width_rows : (rs : List Row) → width (rows_fields rs) ≡ 32 * length rs
unfolding width rows_fields
width_rows [] = refl
width_rows (r ∷ rs) = omega (arith, width_append (row_fields r) (rows_fields rs), width_row r, width_rows rs)

-- a file is as long as its counts say
pub width_file : (p : Program) → length p.classes ≡ p.vars → width (file_fields p) ≡ 8 * size_of p.vars (length p.rows)
unfolding width
width_file p e =
    let rest : List Field = cell (8 * class_bytes p.vars - 2 * p.vars) 0 ∷ rows_fields p.rows in
    omega (arith, width_append (map (cell 2) p.classes) rest, width_classes p.classes, width_rows p.rows)

-- ---- the classes and the rows, one by one

pub classes_stand : (bs : List ℕ) (p : ℕ) (cs : List ℕ) → ((k : ℕ) → k < length cs → get_or cs k 0 ≡ field bs (p + 2 * k) 2) → Stands bs p (map (cell 2) cs)
classes_stand bs p [] h = tt
classes_stand bs p (c ∷ cs) h =
    let at : p + 2 * 0 ≡ p = omega arith in
    (rw at at (h 0 (omega arith)), classes_stand bs (p + 2) cs (λ k l. let e : p + 2 * suc k ≡ p + 2 + 2 * k = omega arith in rw e at (h (suc k) (omega arith))))

pub classes_stood : (bs : List ℕ) (p : ℕ) (cs : List ℕ) → Stands bs p (map (cell 2) cs) → (k : ℕ) → k < length cs → get_or cs k 0 ≡ field bs (p + 2 * k) 2
classes_stood bs p [] h k l = absurd (omega arith)
classes_stood bs p (c ∷ cs) (e, h) zero l = let at : p + 2 * 0 ≡ p = omega arith in rw at e
classes_stood bs p (c ∷ cs) (e, h) (suc k) l = let at : p + 2 * suc k ≡ p + 2 + 2 * k = omega arith in rw at (classes_stood bs (p + 2) cs h k (omega arith))

pub rows_stand : (bs : List ℕ) (p : ℕ) (rs : List Row) → ((i : ℕ) → i < length rs → Stands bs (p + 32 * i) (row_fields (row_at rs i))) → Stands bs p (rows_fields rs)
unfolding rows_fields
rows_stand bs p [] h = tt
rows_stand bs p (r ∷ rs) h =
    stands_append bs p (row_fields r) (rows_fields rs)
    (stands_at bs (p + 32 * 0) p (row_fields r) (omega arith) (h 0 (omega arith)))
    (stands_at bs (p + 32) (p + width (row_fields r)) (rows_fields rs) (omega (arith, width_row r))
    (rows_stand bs (p + 32) rs (λ i l. stands_at bs (p + 32 * suc i) (p + 32 + 32 * i) (row_fields (row_at rs i)) (omega arith) (h (suc i) (omega arith)))))

pub rows_stood : (bs : List ℕ) (p : ℕ) (rs : List Row) → Stands bs p (rows_fields rs) → (i : ℕ) → i < length rs → Stands bs (p + 32 * i) (row_fields (row_at rs i))
unfolding rows_fields
rows_stood bs p [] h i l = absurd (omega arith)
rows_stood bs p (r ∷ rs) h zero l = stands_at bs p (p + 32 * 0) (row_fields r) (omega arith) (stands_parts bs p (row_fields r) (rows_fields rs) h).0
rows_stood bs p (r ∷ rs) h (suc i) l =
    let rest = stands_at bs (p + width (row_fields r)) (p + 32) (rows_fields rs) (omega (arith, width_row r)) (stands_parts bs p (row_fields r) (rows_fields rs) h).1 in
    stands_at bs (p + 32 + 32 * i) (p + 32 * suc i) (row_fields (row_at rs i)) (omega arith) (rows_stood bs (p + 32) rs rest i (omega arith))

-- ---- a whole file

-- a program whose fields stand in a file
pub record Laid (bs : List ℕ) (p : Program) : Type 0 where
  pub vars : p.vars ≡ vars_in bs
  pub count : length p.rows ≡ count_in bs
  pub classes : (k : ℕ) → k < length p.classes → get_or p.classes k 0 ≡ field bs (16 + 2 * k) 2
  pub fill : 0 ≡ field bs (16 + 2 * p.vars) (8 * class_bytes p.vars - 2 * p.vars)
  pub rows : (i : ℕ) → i < length p.rows → Stands bs (16 + 8 * class_bytes p.vars + 32 * i) (row_fields (row_at p.rows i))

-- the classes end, and the fill begins
fill_place : (p : Program) → length p.classes ≡ p.vars → 16 + 2 * p.vars ≡ 16 + width (map (cell 2) p.classes)
fill_place p e = omega (arith, width_classes p.classes)

-- the fill ends, and the rows begin
rows_place : (p : Program) → 16 + 2 * p.vars + (8 * class_bytes p.vars - 2 * p.vars) ≡ 16 + 8 * class_bytes p.vars
rows_place p = omega arith

pub laid_stands : (bs : List ℕ) (p : Program) → length p.classes ≡ p.vars → Laid bs p → Stands bs 0 (file_fields p)
laid_stands bs p e l =
    let rest : List Field = cell (8 * class_bytes p.vars - 2 * p.vars) 0 ∷ rows_fields p.rows in
    let rows = stands_at bs (16 + 8 * class_bytes p.vars) (16 + 2 * p.vars + (8 * class_bytes p.vars - 2 * p.vars)) (rows_fields p.rows) (sym (rows_place p)) (rows_stand bs (16 + 8 * class_bytes p.vars) p.rows l.rows) in (
      l.vars,
      (
        l.count,
        stands_append bs 16 (map (cell 2) p.classes) rest (classes_stand bs 16 p.classes l.classes)
            (stands_at bs (16 + 2 * p.vars) (16 + width (map (cell 2) p.classes)) rest (fill_place p e) (l.fill, rows)),
      ),
    )

pub stands_laid : (bs : List ℕ) (p : Program) → length p.classes ≡ p.vars → Stands bs 0 (file_fields p) → Laid bs p
stands_laid bs p e (v, (n, h)) =
    let rest : List Field = cell (8 * class_bytes p.vars - 2 * p.vars) 0 ∷ rows_fields p.rows in
    let both = stands_parts bs 16 (map (cell 2) p.classes) rest h in
    let tail = stands_at bs (16 + width (map (cell 2) p.classes)) (16 + 2 * p.vars) rest (sym (fill_place p e)) both.1 in
    let rows = stands_at bs (16 + 2 * p.vars + (8 * class_bytes p.vars - 2 * p.vars)) (16 + 8 * class_bytes p.vars) (rows_fields p.rows) (rows_place p) tail.1 in
    record {
      vars = v;
      count = n;
      classes = classes_stood bs 16 p.classes both.0;
      fill = tail.0;
      rows = rows_stood bs (16 + 8 * class_bytes p.vars) p.rows rows;
    }
