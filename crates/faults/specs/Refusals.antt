-- Every fault by its number, its place and its layer, and these in words.
use Rattle.std.specs.Prelude.{ℕ, List, ◌++◌, codes, decimal}
use Rattle.faults.specs.declared.Layer.{Layer}
use Rattle.faults.specs.declared.Layer.TheVariants.{Bits as BitLayer, Rows as RowLayer, Program as ProgramLayer, Player as PlayerLayer}
use Rattle.faults.specs.declared.Refusal.{Refusal}
use Rattle.faults.specs.declared.BitFault.{BitFault}
use Rattle.faults.specs.declared.BitFault.TheVariants.{Short, Long, Variables, RowCount, Class, Fill}
use Rattle.faults.specs.declared.RowFault.{RowFault}
use Rattle.faults.specs.declared.RowFault.TheVariants.{Bits, Opcode, Unused, Variable, Classes, Target, Last}
use Rattle.faults.specs.declared.ProgramFault.{ProgramFault}
use Rattle.faults.specs.declared.ProgramFault.TheVariants.{Rows, Unreached, Unwritten, Memory}
use Rattle.faults.specs.declared.PlayerFault.{PlayerFault}
use Rattle.faults.specs.declared.PlayerFault.TheVariants.{Input, Asked}

-- a refusal of a layer, with its number and place
abbrev pub told : Layer → ℕ → ℕ → Refusal
told l n p = record { number = n; place = p; layer = l }

-- the file as a row of bits: its length, its header, its classes
abbrev pub bit_refusal : BitFault → Refusal
bit_refusal Short = told BitLayer 1 0
bit_refusal Long = told BitLayer 2 0
bit_refusal Variables = told BitLayer 3 0
bit_refusal RowCount = told BitLayer 4 0
bit_refusal (Class v) = told BitLayer 5 v
bit_refusal Fill = told BitLayer 6 0

-- each row for itself, and the last one
abbrev pub row_refusal : RowFault → Refusal
row_refusal (Bits f) = bit_refusal f
row_refusal (Opcode i) = told RowLayer 7 i
row_refusal (Unused i) = told RowLayer 8 i
row_refusal (Variable i) = told RowLayer 9 i
row_refusal (Classes i) = told RowLayer 10 i
row_refusal (Target i) = told RowLayer 11 i
row_refusal (Last i) = told RowLayer 12 i

-- the rows together, and the memory to judge them in
abbrev pub program_refusal : ProgramFault → Refusal
program_refusal (Rows f) = row_refusal f
program_refusal (Unreached i) = told ProgramLayer 13 i
program_refusal (Unwritten i) = told ProgramLayer 14 i
program_refusal (Memory part) = told ProgramLayer 15 part

-- a call on a rehearsal: its input is too long, or it asks for too many rows
abbrev pub player_refusal : PlayerFault → Refusal
player_refusal Input = told PlayerLayer 16 0
player_refusal Asked = told PlayerLayer 17 0

-- the name of a layer
abbrev pub layer_name : Layer → List ℕ
layer_name BitLayer = codes "bits"
layer_name RowLayer = codes "rows"
layer_name ProgramLayer = codes "program"
layer_name PlayerLayer = codes "player"

-- a refusal in words: its number, its place, its layer
abbrev pub refusal_text : Refusal → List ℕ
refusal_text r = decimal r.number ++ (codes " " ++ (decimal r.place ++ (codes " " ++ layer_name r.layer)))
