-- What is answered to a file, as a line of words.
use Rattle.std.specs.Prelude.{ℕ, cond, List, [], ◌∷◌, ◌++◌, length, replicate, Some, None, Ok, Err, codes, decimal, Option, Result, ◌==◌}
use Rattle.sets.specs.Words.{empty_set}
use Rattle.faults.specs.declared.ProgramFault.{ProgramFault}
use Rattle.faults.specs.declared.Refusal.{Refusal}
use Rattle.faults.specs.Refusals.{program_refusal, refusal_text}
use Rattle.rows.specs.Rows.{Program}
use Rattle.admission.specs.Admission.{admitting}
use Rattle.registers.specs.Model.{Model}
use Rattle.chips.specs.NestedChip.{nested_file}
use Rattle.chips.specs.PairedChip.{paired_file}
use Rattle.compiling.specs.Working.{Compiled}
use Rattle.compiling.specs.Compile.{compile}
use Rattle.printing.specs.Texts.{compiled_text}
use Rattle.hexwords.specs.Hex.{first_word, after_word, file_of}
use Rattle.answers.specs.declared.Chip.{Chip}
use Rattle.answers.specs.declared.Chip.TheVariants.{Nested, Paired}
use Rattle.answers.specs.declared.Memory.{Memory}
use Rattle.answers.specs.declared.Size.{Size}

-- ---- admit lines

-- the numbers of variables and rows
abbrev pub size_text : Size → List ℕ
size_text s = decimal s.vars ++ (codes " " ++ decimal s.rows)

-- the words of a verdict
abbrev pub verdict_text : Result Size Refusal → List ℕ
verdict_text (Ok s) = codes "admitted " ++ size_text s
verdict_text (Err r) = codes "refused " ++ refusal_text r

-- the verdict on a file, from its program or its first fault
abbrev pub verdict_of : Result Program ProgramFault → Result Size Refusal
verdict_of (Ok p) = Ok (record { vars = p.vars; rows = length p.rows })
verdict_of (Err e) = Err (program_refusal e)

-- the line that answers the word of a file
abbrev pub answer_line : List ℕ → Result Size Refusal → List ℕ
answer_line word v = word ++ (codes " " ++ (verdict_text v ++ 10 ∷ []))

-- the line that answers the file of a word
abbrev pub answer_by : List ℕ → Option (List ℕ) → List ℕ
answer_by word None = codes "bad case" ++ 10 ∷ []
answer_by word (Some file) = answer_line word (verdict_of (admitting file))

-- the line that answers a line
abbrev pub answer_to : List ℕ → List ℕ
answer_to line = answer_by (first_word line) (file_of (first_word line))

-- ---- compile lines

-- the register file of a chip
abbrev pub chip_file : Chip → Model
chip_file Nested = nested_file
chip_file Paired = paired_file

-- the name of a chip
abbrev pub chip_name : Chip → List ℕ
chip_name Nested = codes "nested"
chip_name Paired = codes "paired"

-- the word of a chip
abbrev pub chip_word : Chip → List ℕ
chip_word Nested = codes "0"
chip_word Paired = codes "1"

-- the chip that a word names
abbrev pub chip_of : List ℕ → Option Chip
chip_of [] = None
chip_of (b ∷ []) = cond (b == 48) (Some Nested) (cond (b == 49) (Some Paired) None)
chip_of (b ∷ (c ∷ rest)) = None

-- the words on a compiled program
abbrev pub code_text : Compiled → List ℕ
code_text c = compiled_text c.rounds c.slots c.places c.rows

-- the words by which compile is answered
abbrev pub compile_text : Result Compiled ProgramFault → List ℕ
compile_text (Ok c) = code_text c
compile_text (Err e) = verdict_text (Err (program_refusal e))

-- the line that answers the word of a file and a chip
abbrev pub compile_line : List ℕ → Chip → Result Compiled ProgramFault → List ℕ
compile_line word chip r = word ++ (codes " " ++ (chip_word chip ++ (codes " " ++ (compile_text r ++ 10 ∷ []))))

-- ---- all lines

-- the line that answers a file, for a chip if one is named
abbrev pub file_line : List ℕ → Option Chip → List ℕ → List ℕ
file_line word None file = answer_line word (verdict_of (admitting file))
file_line word (Some chip) file = compile_line word chip (compile (chip_file chip) file)

-- the line that replies to a word that may spell a file
abbrev pub reply_by : List ℕ → Option Chip → Option (List ℕ) → List ℕ
reply_by word chip None = codes "bad case" ++ 10 ∷ []
reply_by word chip (Some file) = file_line word chip file

-- the line that replies to a line: by the file that its first word spells and the chip that its second word names
abbrev pub reply_to : List ℕ → List ℕ
reply_to line = reply_by (first_word line) (chip_of (first_word (after_word line))) (file_of (first_word line))

-- ---- memory

-- working memory whose sets are all empty
abbrev pub empty_memory : Memory
empty_memory = record { sets = replicate 512 empty_set; edges = replicate 448 empty_set; hard = replicate 448 empty_set }
