-- Where a fault lies, and what a file has there.
use Rattle.std.specs.Prelude.{ℕ, ◌+◌, ◌*◌, List, take, drop, slice_index}
use Rattle.faults.specs.declared.BitFault.{BitFault}
use Rattle.faults.specs.declared.BitFault.TheVariants.{Short, Long, Variables, RowCount, Class, Fill}
use Rattle.faults.specs.declared.RowFault.{RowFault}
use Rattle.faults.specs.declared.RowFault.TheVariants.{Bits, Opcode, Unused, Variable as Operand, Classes, Target, Last}
use Rattle.faults.specs.declared.ProgramFault.{ProgramFault}
use Rattle.faults.specs.declared.ProgramFault.TheVariants.{Rows, Unreached, Unwritten, Memory}
use Rattle.source.specs.Reading.{class_bytes}
use Rattle.reports.specs.declared.Place.{Place}
use Rattle.reports.specs.declared.Place.TheVariants.{File, Variable, Row, Part}

abbrev pub bit_place : BitFault → Place
bit_place Short = File
bit_place Long = File
bit_place Variables = File
bit_place RowCount = File
bit_place (Class v) = Variable v
bit_place Fill = File

abbrev pub row_place : RowFault → Place
row_place (Bits f) = bit_place f
row_place (Opcode i) = Row i
row_place (Unused i) = Row i
row_place (Operand i) = Row i
row_place (Classes i) = Row i
row_place (Target i) = Row i
row_place (Last i) = Row i

abbrev pub place_of : ProgramFault → Place
place_of (Rows f) = row_place f
place_of (Unreached i) = Row i
place_of (Unwritten i) = Row i
place_of (Memory part) = Part part

-- the number of a place, 0 for the file
abbrev pub place_number : Place → ℕ
place_number File = 0
place_number (Variable v) = v
place_number (Row i) = i
place_number (Part k) = k

-- the byte at which row i of a file begins
abbrev pub row_start : List ℕ → ℕ → ℕ
row_start file i = 2 + class_bytes (slice_index file 0) + 4 * i

-- the bytes of row i, as far as the file has them
abbrev pub row_bytes : List ℕ → ℕ → List ℕ
row_bytes file i = take 4 (drop (row_start file i) file)
