-- Rows: what each opcode uses, reads and writes, and where it goes on.
use Rattle.std.specs.Prelude.{ℕ, suc, ◌*◌, ◌^◌, Bool, true, false, cond, ◌&&◌, Some, None, Ok, Err, Option, Result, List, [], ◌∷◌, ◌++◌, ◌==◌, nat_lt, slice_index_or}
use Rattle.std.specs.Option.{option_to_list}
use Rattle.sets.specs.Sets.{union, single, when}
use Rattle.rows.specs.declared.Op.{Op}
use Rattle.rows.specs.declared.Op.TheVariants.{End, Const, Copy, Add, Sub, And, Xor, Widen, Narrow, Input, Output, Jump, Less, Load, Store}
use Rattle.rows.specs.declared.Shape.{Shape}
use Rattle.rows.specs.declared.Row.{Row}
use Rattle.rows.specs.declared.UnknownOpcode.{UnknownOpcode}
use Rattle.rows.specs.declared.Ways.{Ways}

-- which fields an opcode uses, and whether the row below may follow it
abbrev pub uses : (d a b constant target slot falls : Bool) → Shape
uses d a b constant target slot falls = record { d = d; a = a; b = b; constant = constant; target = target; slot = slot; falls = falls }

-- the table of opcodes, in the columns d, a, b, constant, target, slot, falls
abbrev pub shape : Op → Shape
shape End = uses false false false false false false false
shape Const = uses true false false true false false true
shape Copy = uses true true false false false false true
shape Add = uses true true true false false false true
shape Sub = uses true true true false false false true
shape And = uses true true true false false false true
shape Xor = uses true true true false false false true
shape Widen = uses true true false false false false true
shape Narrow = uses true true false false false false true
shape Input = uses true false false false false false true
shape Output = uses false true false false false false true
shape Jump = uses false false false false true false false
shape Less = uses false true true false true false true
shape Load = uses true false false false false true true
shape Store = uses false true false false false true true

-- whether a row only copies
abbrev pub copies : Op → Bool
copies End = false
copies Const = false
copies Copy = true
copies Add = false
copies Sub = false
copies And = false
copies Xor = false
copies Widen = false
copies Narrow = false
copies Input = false
copies Output = false
copies Jump = false
copies Less = false
copies Load = false
copies Store = false

-- the bits of a class: byte 0, half 1, word 2
abbrev pub bits : ℕ → ℕ
bits class = 8 * 2 ^ class

-- x alone if the test passes, else nothing
abbrev pub only : Bool → ℕ → List ℕ
only b x = cond b (x ∷ []) []

-- x if its field is in use
abbrev pub used : Bool → ℕ → Option ℕ
used b x = cond b (Some x) None

-- the variables that a row reads, a before b
abbrev pub reads : Row → List ℕ
reads r = only (shape r.op).a r.a ++ only (shape r.op).b r.b

-- the variables that a row writes
abbrev pub writes : Row → List ℕ
writes r = only (shape r.op).d r.d

-- the rows that row i may go on to, its target before the row below
abbrev pub next : ℕ → Row → List ℕ
next i r = only (shape r.op).target r.target ++ only (shape r.op).falls (suc i)

-- the rows that are left of the ways of a row
abbrev pub rows_left : Ways → List ℕ
rows_left w = option_to_list w.target ++ option_to_list w.below

-- the set of the numbers of a list; a number of 448 or more finds no place in a node set
unfoldable pub set_of : List ℕ → ℕ
set_of [] = 0
set_of (v ∷ vs) = union (set_of vs) (when (nat_lt v 448) (single v))

-- the row that ends a run
abbrev pub end_row : Row
end_row = record { op = End; weight = 0; dclass = 0; aclass = 0; d = 0; a = 0; b = 0; target = 0; constant = 0; slot = 0 }

-- the number of each opcode
abbrev pub opcode : Op → ℕ
opcode End = 0
opcode Const = 1
opcode Copy = 2
opcode Add = 3
opcode Sub = 4
opcode And = 5
opcode Xor = 6
opcode Widen = 7
opcode Narrow = 8
opcode Input = 9
opcode Output = 10
opcode Jump = 11
opcode Less = 12
opcode Load = 14
opcode Store = 15

-- the opcode of a number in a source file, where those above 12 have no place
abbrev pub op_of : ℕ → Op
op_of n = slice_index_or (End ∷ Const ∷ Copy ∷ Add ∷ Sub ∷ And ∷ Xor ∷ Widen ∷ Narrow ∷ Input ∷ Output ∷ Jump ∷ Less ∷ []) n End

-- the opcode that a source file writes as a number; none above 12, for loads and stores stand in no file
abbrev pub op_in_source : ℕ → Result Op UnknownOpcode
op_in_source n = cond (nat_lt 12 n) (Err (record { 0 = n })) (Ok (op_of n))

-- whether the classes of d, a and b suit an opcode
abbrev pub fits : Op → ℕ → ℕ → ℕ → Bool
fits End d a b = true
fits Const d a b = true
fits Copy d a b = d == a
fits Add d a b = d == a && a == b
fits Sub d a b = d == a && a == b
fits And d a b = d == a && a == b
fits Xor d a b = d == a && a == b
fits Widen d a b = nat_lt a d
fits Narrow d a b = nat_lt d a
fits Input d a b = true
fits Output d a b = true
fits Jump d a b = true
fits Less d a b = a == b
fits Load d a b = true
fits Store d a b = true

-- a source program: how many variables it has, their classes, its rows
pub record Program : Type 0 where
  pub vars : ℕ
  pub classes : List ℕ
  pub rows : List Row

-- row i, or the row end past the last
abbrev pub row_at : List Row → ℕ → Row
row_at rows i = slice_index_or rows i end_row
