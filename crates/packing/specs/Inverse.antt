-- Reading and packing undo each other.
use Rattle.std.specs.Prelude.{◌≡◌, ℕ, ◌-◌, ◌^◌, ◌<◌, ◌≤◌, Bool, true, false, cond, List, length, Ok, slice_index}
use Rattle.rows.specs.declared.Row.{Row}
use Rattle.rows.specs.Rows.{shape, opcode, fits, Program, row_at}
use Rattle.source.specs.Reading.{reading}
use Rattle.packing.specs.Packing.{pack}

-- every number of a list is a byte
abbrev pub AreBytes : List ℕ → Type 0
AreBytes bs = (k : ℕ) → k < length bs → slice_index bs k < 256

-- ---- from a file to its program and back

-- the program of a file packs to that file
abbrev pub ForgetsNothing : Type 0
ForgetsNothing = (bs : List ℕ) (p : Program) → AreBytes bs → reading bs ≡ Ok p → pack p ≡ bs

-- two files of one program are the same
abbrev pub OneFileOneProgram : Type 0
OneFileOneProgram = (bs cs : List ℕ) (p : Program) → AreBytes bs → AreBytes cs → reading bs ≡ Ok p → reading cs ≡ Ok p → bs ≡ cs

-- ---- from a program to its file and back

-- a field is below a bound if it is used, else 0
pub record Held (used : Bool) (x bound : ℕ) : Type 0 where
  pub within : used ≡ true → x < bound
  pub zero : used ≡ false → x ≡ 0

-- a row that a source file may hold, of v variables with given classes, and of n rows
pub record WellRow (v n : ℕ) (class : ℕ → ℕ) (r : Row) : Type 0 where
  pub source : opcode r.op ≤ 12
  pub weight : r.weight ≤ 3
  pub d : Held (shape r.op).d r.d v
  pub a : Held (shape r.op).a r.a v
  pub b : Held (shape r.op).b r.b v
  pub target : Held (shape r.op).target r.target n
  pub constant : Held (shape r.op).constant r.constant (2 ^ 16)
  pub slot : r.slot ≡ 0
  pub dclass : r.dclass ≡ cond (shape r.op).d (class r.d) 0
  pub aclass : r.aclass ≡ cond (shape r.op).a (class r.a) 0
  pub suits : fits r.op (class r.d) (class r.a) (class r.b) ≡ true

-- a program that a source file may hold; the row below may not follow its last
pub record WellFormed (p : Program) : Type 0 where
  pub vars : p.vars ≤ 64
  pub each : length p.classes ≡ p.vars
  pub classes : (k : ℕ) → k < p.vars → slice_index p.classes k ≤ 2
  pub some : 1 ≤ length p.rows
  pub most : length p.rows ≤ 128
  pub rows : (i : ℕ) → i < length p.rows → WellRow p.vars (length p.rows) (λ k. slice_index p.classes k) (row_at p.rows i)
  pub last : (shape (row_at p.rows (length p.rows - 1)).op).falls ≡ false

-- every program packs to bytes
abbrev pub PacksBytes : Type 0
PacksBytes = (p : Program) → AreBytes (pack p)

-- the file of a well-formed program is read as that program
abbrev pub ReadsBack : Type 0
ReadsBack = (p : Program) → WellFormed p → reading (pack p) ≡ Ok p

-- only a well-formed program is read
abbrev pub ReadsWell : Type 0
ReadsWell = (bs : List ℕ) (p : Program) → reading bs ≡ Ok p → WellFormed p
