-- What the parts of the reader answer, by case.
use Rattle.std.specs.Prelude.{◌≡◌, ℕ, ◌+◌, ◌*◌, ◌<◌, List, length, take, Some, None, Ok, Err, Result, slice_index, slice_index_or}
use Rattle.faults.specs.declared.BitFault.{BitFault}
use Rattle.faults.specs.declared.BitFault.TheVariants.{Class}
use Rattle.faults.specs.declared.RowFault.{RowFault}
use Rattle.rows.specs.declared.Row.{Row}
use Rattle.rows.specs.Rows.{Program, end_row}
use Rattle.source.specs.declared.header.Header.{Header}
use Rattle.source.specs.declared.program.Source.{Source}
use Rattle.source.specs.Reading.{vars_in, count_in, class_of, class_bytes, counts_fault, header_fault, class_fault, row_of, row_fault, size_of, row_in, rows_fault}

-- the counts of a header, if they have no fault
abbrev pub Counted : ℕ → ℕ → ℕ → Result Header BitFault → Type 0
Counted v n size (Ok h) = (counts_fault v n size ≡ None) × (h.vars ≡ v) × (h.count ≡ n)
Counted v n size (Err e) = counts_fault v n size ≡ Some e

-- a header that agrees with its file
pub record Heads (bs : List ℕ) (h : Header) : Type 0 where
  pub vars : h.vars ≡ vars_in bs
  pub count : h.count ≡ count_in bs
  pub size : length bs ≡ size_of (vars_in bs) (count_in bs)

-- the header of a file, and the place after it
abbrev pub Headed : List ℕ → Result Header BitFault → ℕ → Type 0
Headed bs (Ok h) q = (header_fault bs ≡ None) × Heads bs h × (q ≡ 16)
Headed bs (Err e) q = header_fault bs ≡ Some e

-- the class of variable v, by its two bits
abbrev pub ClassBy : ℕ → ℕ → Result ℕ BitFault → Type 0
ClassBy v bits (Ok c) = (c ≡ bits) × (c < 3)
ClassBy v bits (Err e) = (bits ≡ 3) × (e ≡ Class v)

-- the classes of a file, and the place after them and their fill
abbrev pub Classed : List ℕ → Result (List ℕ) BitFault → ℕ → Type 0
Classed bs (Ok cs) q = (class_fault bs ≡ None) × ((v : ℕ) → slice_index cs v ≡ class_of bs v) × (q ≡ 16 + 8 * class_bytes (vars_in bs)) × (length cs ≡ 64)
Classed bs (Err e) q = class_fault bs ≡ Some e

-- the row in a word, if it has no fault
abbrev pub Judged : ℕ → ℕ → (ℕ → ℕ) → ℕ → ℕ → Result Row RowFault → Type 0
Judged v n class i w (Ok r) = (row_fault v n class i w ≡ None) × (r ≡ row_of class w)
Judged v n class i w (Err e) = row_fault v n class i w ≡ Some e

-- the rows of a file
abbrev pub Rowed : List ℕ → Result (List Row) RowFault → Type 0
Rowed bs (Ok rs) = (rows_fault bs ≡ None) × ((k : ℕ) → k < count_in bs → slice_index_or rs k end_row ≡ row_in bs k) × (length rs ≡ 128)
Rowed bs (Err e) = rows_fault bs ≡ Some e

-- the program in the first v of an array of classes and the first n of an array of rows
abbrev pub program_by : ℕ → ℕ → List ℕ → List Row → Program
program_by v n classes rows = record { vars = v; classes = take v classes; rows = take n rows }

-- the program that a source holds
abbrev pub program_of : Source → Program
program_of s = program_by s.vars s.count s.classes s.rows

-- an answer with the program of its source
abbrev pub as_program : Result Source RowFault → Result Program RowFault
as_program (Ok s) = Ok (program_of s)
as_program (Err e) = Err e
