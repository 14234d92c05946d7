-- The program of a file packs to that file.
use Rattle.std.proofs.Common.{◌≡◌, ℕ, ◌+◌, ◌*◌, ◌/◌, ◌<◌, ◌≤◌, Bool, true, eqb, List, map, length, sym, refl, ap, ◌∙◌, subst, inl, inr, arith}
use Rattle.std.specs.List.{range_with_len}
use Rattle.std.proofs.lemmas.List.FromFn.{get_or-map-range_with_len, length-map-range_with_len}
use Rattle.std.proofs.lemmas.Bool.{cases_Bool, eqb-true}
use Rattle.counting.specs.Counting.{all}
use Rattle.counting.proofs.Searches.{all_at}
use Rattle.rows.specs.declared.Op.{Op}
use Rattle.rows.specs.declared.Row.{Row}
use Rattle.rows.specs.Rows.{shape, opcode, op_of, end_row, Program, row_at}
use Rattle.source.specs.Bits.{field}
use Rattle.source.specs.Reading.{vars_in, count_in, class_in, classes_in, size_of, part, row_by, row_place, word_in, row_in, class_of, program_in}
use Rattle.source.proofs.Fields.{part_field}
use Rattle.packing.specs.Packing.{width, row_fields, file_fields, pack}
use Rattle.packing.specs.Inverse.{AreBytes, ForgetsNothing, OneFileOneProgram}
use Rattle.packing.proofs.Bytes.{bytes_number}
use Rattle.packing.proofs.Standing.{Stands, packed_all}
use Rattle.packing.proofs.Places.{Laid, laid_stands, width_file}
use Rattle.packing.proofs.Faultless.{Fine, row_fine, read_fine, spared}

-- ---- a row

-- a part of a word of 32 bits is a field of its own, whose place is q
pub part_at : (bs : List ℕ) (p q k n : ℕ) → p + k ≡ q → k + n ≤ 32 → p + 32 ≤ 8 * length bs → part (field bs p 32) k n ≡ field bs q n
part_at bs p q k n e h l = part_field bs p k n h l ∙ ap (λ (m : ℕ). field bs m n) e

-- the number of the opcode of a number
pub opcode_op_of : (n : ℕ) → n ≤ 12 → opcode (op_of n) ≡ n
unfolding all
opcode_op_of n h = eqb-true (opcode (op_of n)) n (all_at numbered 13 n done (omega arith))
  where
    numbered : ℕ → Bool
    numbered n = eqb (opcode (op_of n)) n

    done : all numbered 13 ≡ true
    done = refl

-- the fields of the row in a word stand where the word stands
pub row_stands : (bs : List ℕ) (p : ℕ) (o : Op) (class : ℕ → ℕ) → p + 32 ≤ 8 * length bs → opcode o ≡ part (field bs p 32) 0 4 → ((shape o).constant ≡ true → part (field bs p 32) 28 4 ≡ 0) →
    Stands bs p (row_fields (row_by o class (field bs p 32)))
row_stands bs p o class l num last =
    let at = part_at bs p in
    elim (cases_Bool (shape o).constant) [
      | inl e ↦ rw e (
        num ∙ at p 0 4 (omega arith) (omega arith) l,
        (
          at (p + 4) 4 2 refl (omega arith) l,
          (
            at (p + 4 + 2) 6 6 (omega arith) (omega arith) l,
            (at (p + 4 + 2 + 6) 12 16 (omega arith) (omega arith) l, (sym (last e) ∙ at (p + 4 + 2 + 6 + 16) 28 4 (omega arith) (omega arith) l, tt)),
          ),
        ),
      )
      | inr e ↦ rw e (
        num ∙ at p 0 4 (omega arith) (omega arith) l,
        (
          at (p + 4) 4 2 refl (omega arith) l,
          (
            at (p + 4 + 2) 6 6 (omega arith) (omega arith) l,
            (at (p + 4 + 2 + 6) 12 6 (omega arith) (omega arith) l, (at (p + 4 + 2 + 6 + 6) 18 6 (omega arith) (omega arith) l, (at (p + 4 + 2 + 6 + 6 + 6) 24 8 (omega arith) (omega arith) l, tt))),
          ),
        ),
      )
    ]

-- ---- a file

fine_stands : (bs : List ℕ) (i : ℕ) → Fine bs → i < count_in bs → Stands bs (row_place bs i) (row_fields (row_in bs i))
fine_stands bs i f l =
    let r = row_fine (vars_in bs) (count_in bs) (class_of bs) i (word_in bs i) (f.rows i l) in
    row_stands bs (row_place bs i) (op_of (part (word_in bs i) 0 4)) (class_of bs) (omega (arith, f.size)) (opcode_op_of (part (word_in bs i) 0 4) r.source) (spared (word_in bs i) (row_in bs i) r.spares).last

pub program_laid : (bs : List ℕ) → Fine bs → Laid bs (program_in bs)
unfolding program_in classes_in
program_laid bs f = record {
  vars = refl;
  count = length-map-range_with_len (row_in bs) 0 (count_in bs);
  classes = λ k l. get_or-map-range_with_len (class_in bs) 0 (vars_in bs) k k 0 (rw (length-map-range_with_len (class_in bs) 0 (vars_in bs)) at l) (omega arith);
  fill = sym f.fill;
  rows = λ i l.
      let lt = rw (length-map-range_with_len (row_in bs) 0 (count_in bs)) at l in
      let e : row_at (map (row_in bs) (range_with_len 0 (count_in bs))) i ≡ row_in bs i = get_or-map-range_with_len (row_in bs) 0 (count_in bs) i i end_row lt (omega arith) in
      subst (λ (r : Row). Stands bs (row_place bs i) (row_fields r)) (sym e) (fine_stands bs i f lt);
}

pub program_sizes : (bs : List ℕ) → ((program_in bs).vars ≡ vars_in bs) × (length (program_in bs).classes ≡ vars_in bs) × (length (program_in bs).rows ≡ count_in bs)
unfolding program_in classes_in
program_sizes bs = (refl, length-map-range_with_len (class_in bs) 0 (vars_in bs), length-map-range_with_len (row_in bs) 0 (count_in bs))

-- a file in which a program's fields stand, and nothing else, is the program's
laid_pack : (bs : List ℕ) (p : Program) → AreBytes bs → length p.classes ≡ p.vars → length bs ≡ size_of p.vars (length p.rows) → Laid bs p → pack p ≡ bs
unfolding pack
laid_pack bs p ok e size l =
    let wide = width_file p e in
    let long : width (file_fields p) / 8 ≡ length bs = omega arith in
    let whole : width (file_fields p) ≡ 8 * length bs = omega arith in
    rw (long, packed_all bs (file_fields p) (laid_stands bs p e l) whole) (bytes_number bs ok)

pub forgets : ForgetsNothing
forgets bs p ok h =
    let (f, is) = read_fine bs p h in
    let (v, c, n) = program_sizes bs in
    ap pack (sym is) ∙ laid_pack bs (program_in bs) ok (c ∙ sym v) (rw (v, n) f.size) (program_laid bs f)

pub one_file : OneFileOneProgram
one_file bs cs p b c g h = sym (forgets bs p b g) ∙ forgets cs p c h
