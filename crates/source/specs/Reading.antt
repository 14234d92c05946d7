-- Source files: what stands in one, and the first fault of one.
use Rattle.std.specs.Prelude.{ℕ, ◌+◌, ◌-◌, ◌*◌, ◌/◌, ◌%◌, ◌^◌, Bool, cond, not, ◌&&◌, ◌||◌, List, map, length, is_some, Some, None, Ok, Err, Option, Result, ◌==◌, nat_eq, nat_le, nat_lt, slice_index}
use Rattle.std.specs.List.{range_with_len}
use Rattle.counting.specs.Counting.{least}
use Rattle.faults.specs.declared.BitFault.{BitFault}
use Rattle.faults.specs.declared.BitFault.TheVariants.{Short, Long, Variables, RowCount, Class, Fill}
use Rattle.faults.specs.declared.RowFault.{RowFault}
use Rattle.faults.specs.declared.RowFault.TheVariants.{Bits, Opcode, Unused, Variable, Classes, Target, Last}
use Rattle.rows.specs.declared.Op.{Op}
use Rattle.rows.specs.declared.Row.{Row}
use Rattle.rows.specs.Rows.{shape, op_of, fits, Program}
use Rattle.source.specs.Bits.{field}

-- ---- what stands in a file

-- the first byte: how many variables
abbrev pub vars_in : List ℕ → ℕ
vars_in bs = field bs 0 8

-- the second byte: how many rows
abbrev pub count_in : List ℕ → ℕ
count_in bs = field bs 8 8

-- two bits a variable: its class
abbrev pub class_in : List ℕ → ℕ → ℕ
class_in bs v = field bs (16 + 2 * v) 2

-- the classes of all variables
unfoldable pub classes_in : List ℕ → List ℕ
unfolding field
classes_in bs = map (class_in bs) (range_with_len 0 (vars_in bs))

-- how many bytes the classes of v variables take
abbrev pub class_bytes : ℕ → ℕ
class_bytes v = (2 * v + 7) / 8

-- the bits that fill the last byte of classes
abbrev pub fill_in : List ℕ → ℕ
fill_in bs = field bs (16 + 2 * vars_in bs) (8 * class_bytes (vars_in bs) - 2 * vars_in bs)

-- how many bytes a file of v variables and n rows has
abbrev pub size_of : ℕ → ℕ → ℕ
size_of v n = 2 + class_bytes v + 4 * n

-- where row i begins
abbrev pub row_place : List ℕ → ℕ → ℕ
row_place bs i = 16 + 8 * class_bytes (vars_in bs) + 32 * i

-- 32 bits a row
abbrev pub word_in : List ℕ → ℕ → ℕ
word_in bs i = field bs (row_place bs i) 32

-- ---- what stands in the word of a row

-- n of the 32 bits of a word from place p on
abbrev pub part : ℕ → ℕ → ℕ → ℕ
part w p n = w / 2 ^ (32 - (p + n)) % 2 ^ n

-- the row in a word, of a given opcode: const has a constant of 16 bits where others have a, b and target
abbrev pub row_by : Op → (ℕ → ℕ) → ℕ → Row
row_by o class w =
    let long = (shape o).constant in
    let d = part w 6 6 in
    let a = cond long 0 (part w 12 6) in
    record {
      op = o;
      weight = part w 4 2;
      dclass = cond (shape o).d (class d) 0;
      aclass = cond (shape o).a (class a) 0;
      d = d;
      a = a;
      b = cond long 0 (part w 18 6);
      target = cond long 0 (part w 24 8);
      constant = cond long (part w 12 16) 0;
      slot = 0;
    }

-- the row in a word
abbrev pub row_of : (ℕ → ℕ) → ℕ → Row
row_of class w = row_by (op_of (part w 0 4)) class w

-- whether the fields that a row does not use are zero, in const the last four bits among them
abbrev pub spare : ℕ → Row → Bool
spare w r =
    ((shape r.op).d || r.d == 0)
    && (((shape r.op).a || r.a == 0) && (((shape r.op).b || r.b == 0)
    && (((shape r.op).target || r.target == 0) && (not (shape r.op).constant || part w 28 4 == 0))))

-- whether the variables that a row uses are below v
abbrev pub known : ℕ → Row → Bool
known v r =
    (not (shape r.op).d || nat_lt r.d v) && ((not (shape r.op).a || nat_lt r.a v) && (not (shape r.op).b || nat_lt r.b v))

-- the first fault of row i, whose word is w, in a program of v variables and n rows
unfoldable pub row_fault : ℕ → ℕ → (ℕ → ℕ) → ℕ → ℕ → Option RowFault
row_fault v n class i w =
    let r = row_of class w in
    cond (nat_lt 12 (part w 0 4)) (Some (Opcode i))
    (cond (not (spare w r)) (Some (Unused i))
    (cond (not (known v r)) (Some (Variable i))
    (cond (not (fits r.op (class r.d) (class r.a) (class r.b))) (Some (Classes i))
    (cond ((shape r.op).target && nat_le n r.target) (Some (Target i))
    None))))

-- ---- a whole file

-- the first fault of v variables and n rows in a file of so many bytes
abbrev pub counts_fault : ℕ → ℕ → ℕ → Option BitFault
counts_fault v n size =
    cond (nat_lt 64 v) (Some Variables)
    (cond (n == 0 || nat_lt 128 n) (Some RowCount)
    (cond (nat_lt size (size_of v n)) (Some Short)
    (cond (nat_lt (size_of v n) size) (Some Long)
    None)))

-- the first fault of the header, the length of the file among it
unfoldable pub header_fault : List ℕ → Option BitFault
unfolding field
header_fault bs =
    let by-counts = counts_fault (vars_in bs) (count_in bs) (length bs) in
    cond (nat_lt (length bs) 2) (Some Short) by-counts

-- the first fault of the classes and of the bits that fill their last byte
unfoldable pub class_fault : List ℕ → Option BitFault
unfolding field least
class_fault bs =
    let bad = least (λ k. nat_eq (class_in bs k) 3) (vars_in bs) in
    let by-fill = cond (fill_in bs == 0) None (Some Fill) in
    cond (nat_lt bad (vars_in bs)) (Some (Class bad)) by-fill

-- the class of a variable of a file, 0 of any other number
abbrev pub class_of : List ℕ → ℕ → ℕ
class_of bs v = slice_index (classes_in bs) v

-- row i of a file
abbrev pub row_in : List ℕ → ℕ → Row
row_in bs i = row_of (class_of bs) (word_in bs i)

-- the first fault of row i of a file
abbrev pub fault_in : List ℕ → ℕ → Option RowFault
fault_in bs i = row_fault (vars_in bs) (count_in bs) (class_of bs) i (word_in bs i)

-- the first fault of the rows of a file, in their order
unfoldable pub rows_fault : List ℕ → Option RowFault
unfolding field least classes_in row_fault
rows_fault bs =
    let bad = least (λ i. is_some (fault_in bs i)) (count_in bs) in
    cond (nat_lt bad (count_in bs)) (fault_in bs bad) None

-- the fault of a last row that the row below would follow
unfoldable pub last_fault : List ℕ → Option RowFault
unfolding field classes_in
last_fault bs = let last = count_in bs - 1 in cond (shape (row_in bs last).op).falls (Some (Last last)) None

-- the program in a file
unfoldable pub program_in : List ℕ → Program
unfolding field classes_in
program_in bs = record { vars = vars_in bs; classes = classes_in bs; rows = map (row_in bs) (range_with_len 0 (count_in bs)) }

-- the first of the faults in the header, the classes, the rows and the last row, or the program
abbrev pub decided : Option BitFault → Option BitFault → Option RowFault → Option RowFault → Program → Result Program RowFault
decided (Some e) classes rows last p = Err (Bits e)
decided None (Some e) rows last p = Err (Bits e)
decided None None (Some e) last p = Err e
decided None None None (Some e) p = Err e
decided None None None None p = Ok p

-- a file read: its first fault, or its program
unfoldable pub reading : List ℕ → Result Program RowFault
unfolding header_fault class_fault rows_fault last_fault program_in
reading bs = decided (header_fault bs) (class_fault bs) (rows_fault bs) (last_fault bs) (program_in bs)
