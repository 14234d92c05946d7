-- The file of a well-formed program is read as that program, and only a well-formed program is read.
use Rattle.std.proofs.Common.{◌≡◌, ℕ, suc, ◌+◌, ◌-◌, ◌*◌, ◌/◌, ◌<◌, ◌≤◌, false, List, [], ◌∷◌, map, length, get_or, None, Ok, sym, ap, ◌∙◌, subst, zero-add, arith}
use Rattle.std.specs.List.{range_with_len}
use Rattle.std.proofs.lemmas.Nat.{pow_pos}
use Rattle.std.proofs.lemmas.List.FromFn.{fill_by_all, get_or-map-range_with_len}
use Rattle.std.proofs.lemmas.Bool.{ne_eqb, eqb-false}
use Rattle.rows.specs.declared.Row.{Row}
use Rattle.rows.specs.Rows.{shape, end_row, Program, row_at}
use Rattle.source.specs.Bits.{number}
use Rattle.source.specs.Reading.{vars_in, count_in, class_in, classes_in, class_bytes, size_of, row_of, row_fault, row_place, word_in, row_in, class_of, fault_in, program_in}
use Rattle.source.proofs.Fields.{field_lt}
use Rattle.packing.specs.Packing.{cell, width, packed, row_fields, rows_fields, file_fields, pack}
use Rattle.packing.specs.Inverse.{WellRow, WellFormed, PacksBytes, ReadsBack, ReadsWell}
use Rattle.packing.proofs.Bytes.{length_bytes, bytes_are, number_bytes}
use Rattle.packing.proofs.Standing.{stands_at, stands_all, Fit, fit_append, packed_lt}
use Rattle.packing.proofs.Places.{Laid, stands_laid, width_file}
use Rattle.packing.proofs.Faultless.{Fine, row_fine, read_fine, fine_read}
use Rattle.packing.proofs.Forgets.{program_sizes}
use Rattle.packing.proofs.WellRows.{row_reads, fine_well, row_fit}

-- ---- the fields of a well-formed program fit their bits

classes_fit : (cs : List ℕ) → ((k : ℕ) → k < length cs → get_or cs k 0 ≤ 2) → Fit (map (cell 2) cs)
classes_fit [] h = tt
classes_fit (c ∷ cs) h = (omega (arith, h 0 (omega arith)), classes_fit cs (λ k l. h (suc k) (omega arith)))

rows_fit : (rs : List Row) → ((i : ℕ) → i < length rs → Fit (row_fields (row_at rs i))) → Fit (rows_fields rs)
unfolding rows_fields
rows_fit [] h = tt
rows_fit (r ∷ rs) h = fit_append (row_fields r) (rows_fields rs) (h 0 (omega arith)) (rows_fit rs (λ i l. h (suc i) (omega arith)))

file_fit : (p : Program) → WellFormed p → Fit (file_fields p)
file_fit p g =
    let fill : ℕ = 8 * class_bytes p.vars - 2 * p.vars in
    let rows = rows_fit p.rows (λ i l. row_fit p.vars (length p.rows) (λ k. get_or p.classes k 0) (row_at p.rows i) g.vars g.most (g.rows i l)) in
    (omega (arith, g.vars), (omega (arith, g.most), fit_append (map (cell 2) p.classes) (cell fill 0 ∷ rows_fields p.rows) (classes_fit p.classes (λ k l. g.classes k (omega (arith, g.each)))) (pow_pos fill, rows)))

-- ---- where they stand

pack_length : (p : Program) → WellFormed p → length (pack p) ≡ size_of p.vars (length p.rows)
unfolding pack
pack_length p g = omega (arith, length_bytes (width (file_fields p) / 8) (packed (file_fields p)), width_file p g.each)

pack_number : (p : Program) → WellFormed p → number (pack p) 0 (length (pack p)) ≡ packed (file_fields p)
unfolding pack
pack_number p g =
    let fs = file_fields p in
    let wide = width_file p g.each in
    let whole : 8 * (width fs / 8) ≡ width fs = omega arith in
    rw (length_bytes (width fs / 8) (packed fs)) (number_bytes (width fs / 8) (packed fs) (rw whole (packed_lt fs (file_fit p g))))

pack_laid : (p : Program) → WellFormed p → Laid (pack p) p
pack_laid p g = stands_laid (pack p) p g.each (stands_all (pack p) (file_fields p) (file_fit p g) (omega (arith, width_file p g.each, pack_length p g)) (pack_number p g))

-- ---- a file in which a well-formed program stands

module _ (bs : List ℕ) (p : Program) (g : WellFormed p) (l : Laid bs p) (size : length bs ≡ size_of p.vars (length p.rows)) where
  classes_are : classes_in bs ≡ p.classes
  unfolding classes_in
  classes_are = sym (fill_by_all (class_in bs) p.classes (vars_in bs) 0 (g.each ∙ l.vars) (λ k h. l.classes k (omega (arith, g.each, l.vars))))

  place_is : (i : ℕ) → 16 + 8 * class_bytes p.vars + 32 * i ≡ row_place bs i
  place_is i = ap (λ (v : ℕ). 16 + 8 * class_bytes v + 32 * i) l.vars

  reads : (i : ℕ) → i < length p.rows → (row_in bs i ≡ row_at p.rows i) × (fault_in bs i ≡ None)
  reads i h =
      let class : ℕ → ℕ = λ k. get_or p.classes k 0 in
      let same : class_of bs ≡ class = ap {B = ℕ → ℕ} (λ (cs : List ℕ) (k : ℕ). get_or cs k 0) classes_are in
      let stands = stands_at bs _ (row_place bs i) (row_fields (row_at p.rows i)) (place_is i) (l.rows i h) in
      let both = row_reads bs (row_place bs i) p.vars (length p.rows) class i (row_at p.rows i) (g.rows i h) stands (omega (arith, place_is i)) in (
        ap (λ (c : ℕ → ℕ). row_of c (word_in bs i)) same ∙ both.0,
        ap (λ (v : ℕ). row_fault v (count_in bs) (class_of bs) i (word_in bs i)) (sym l.vars) ∙ ap (λ (n : ℕ). row_fault p.vars n (class_of bs) i (word_in bs i)) (sym l.count)
            ∙ ap (λ (c : ℕ → ℕ). row_fault p.vars (length p.rows) c i (word_in bs i)) same ∙ both.1,
      )

  rows_are : map (row_in bs) (range_with_len 0 (count_in bs)) ≡ p.rows
  rows_are = sym (fill_by_all (row_in bs) p.rows (count_in bs) end_row l.count (λ i h. sym (reads i (omega (arith, l.count))).0))

  program_is : program_in bs ≡ p
  unfolding program_in
  program_is = same (vars_in bs) (classes_in bs) (map (row_in bs) (range_with_len 0 (count_in bs))) (sym l.vars) classes_are rows_are
    where
      same : (v : ℕ) (cs : List ℕ) (rs : List Row) → v ≡ p.vars → cs ≡ p.classes → rs ≡ p.rows → record { vars = v; classes = cs; rows = rs } ≡ p
      same v cs rs e f h = rw (e, f, h)

  file_fine : Fine bs
  file_fine = record {
    vars = omega (arith, l.vars, g.vars);
    some = omega (arith, l.count, g.some);
    most = omega (arith, l.count, g.most);
    size = rw (← l.vars, ← l.count) size;
    classes = λ k h. let c = l.classes k (omega (arith, g.each, l.vars)) in ne_eqb (class_in bs k) 3 (λ e. omega (arith, g.classes k (omega (arith, l.vars))));
    fill = rw (← l.vars) (sym l.fill);
    rows = λ i h. (reads i (omega (arith, l.count))).1;
    last = last (count_in bs) l.count;
  }
    where
      last : (n : ℕ) → length p.rows ≡ n → (shape (row_in bs (n - 1)).op).falls ≡ false
      last n e =
          let r = (reads (n - 1) (omega (arith, g.some))).0 in
          ap (λ (x : Row). (shape x.op).falls) (r ∙ ap (λ (m : ℕ). row_at p.rows (m - 1)) (sym e)) ∙ g.last

pub packs_bytes : PacksBytes
unfolding pack
packs_bytes p = bytes_are (width (file_fields p) / 8) (packed (file_fields p))

pub reads_back : ReadsBack
reads_back p g =
    let l = pack_laid p g in
    fine_read (pack p) (file_fine (pack p) p g l (pack_length p g)) ∙ ap (λ (q : Program). Ok q) (program_is (pack p) p g l (pack_length p g))

-- ---- a program that is read

row_at_lem : (bs : List ℕ) (i : ℕ) → i < count_in bs → row_at (program_in bs).rows i ≡ row_in bs i
unfolding program_in
row_at_lem bs i l = get_or-map-range_with_len (row_in bs) 0 (count_in bs) i i end_row l (zero-add i)

class_at_lem : (bs : List ℕ) (k : ℕ) → k < vars_in bs → get_or (program_in bs).classes k 0 ≡ class_in bs k
unfolding program_in classes_in
class_at_lem bs k l = get_or-map-range_with_len (class_in bs) 0 (vars_in bs) k k 0 l (zero-add k)

class_small : (bs : List ℕ) → Fine bs → (k : ℕ) → k < vars_in bs → class_in bs k ≤ 2
class_small bs f k l = let ne = eqb-false (class_in bs k) 3 (f.classes k l) in omega (arith, ne, field_lt bs (16 + 2 * k) 2)

row_well : (bs : List ℕ) → Fine bs → (i : ℕ) → i < count_in bs → WellRow (vars_in bs) (count_in bs) (class_of bs) (row_in bs i)
row_well bs f i l = fine_well (vars_in bs) (count_in bs) (class_of bs) (word_in bs i) (row_fine (vars_in bs) (count_in bs) (class_of bs) i (word_in bs i) (f.rows i l))

fine_well_formed : (bs : List ℕ) → Fine bs → WellFormed (program_in bs)
unfolding program_in
fine_well_formed bs f =
    let rows : List Row = (program_in bs).rows in
    let (v, c, n) = program_sizes bs in
    record {
      vars = f.vars;
      each = c;
      classes = λ k l. subst (λ (x : ℕ). x ≤ 2) (sym (class_at_lem bs k l)) (class_small bs f k l);
      some = subst (λ (x : ℕ). 1 ≤ x) (sym n) f.some;
      most = subst (λ (x : ℕ). x ≤ 128) (sym n) f.most;
      rows = λ i l.
          let lt = subst (λ (m : ℕ). i < m) n l in
          subst (λ (m : ℕ). WellRow (vars_in bs) m (class_of bs) (row_at rows i)) (sym n) (subst (WellRow (vars_in bs) (count_in bs) (class_of bs)) (sym (row_at_lem bs i lt)) (row_well bs f i lt));
      last = ap (λ (m : ℕ). (shape (row_at rows (m - 1)).op).falls) n ∙ ap (λ (r : Row). (shape r.op).falls) (row_at_lem bs (count_in bs - 1) (last_lt (count_in bs) f.some)) ∙ f.last;
    }
  where
    last_lt : (n : ℕ) → 1 ≤ n → n - 1 < n
    last_lt n h = omega arith

pub reads_well : ReadsWell
reads_well bs p h = let (f, is) = read_fine bs p h in subst WellFormed is (fine_well_formed bs f)
