-- Static: what source, last working program, registers and code of a compiled program have to do with each other, row by row, so that it agrees with its source in every rehearsal.
use Rattle.std.specs.Prelude.{◌≡◌, ℕ, suc, ◌+◌, ◌<◌, ◌≤◌, Bool, true, false, ◌⊎◌, List, map, length, ◌≢◌, slice_index}
use Rattle.rows.specs.declared.Op.TheVariants.{Load, Store}
use Rattle.rows.specs.declared.Row.{Row}
use Rattle.rows.specs.Rows.{shape, copies, Program, row_at}
use Rattle.registers.specs.Model.{Model, Lawful}
use Rattle.compiling.specs.declared.Place.{Place}
use Rattle.compiling.specs.Working.{Working, Compiled, place_of, number_of, spilled}
use Rattle.compiling.specs.Blocks.{assembled}
use Rattle.compiling.specs.Emit.{idle, code_block}
use Rattle.machine.specs.Agreement.{Agreeing}

-- row i of a program
abbrev pub row_of : Program → ℕ → Row
row_of p i = row_at p.rows i

-- the class of variable v of a program
abbrev pub class_of : Program → ℕ → ℕ
class_of p v = slice_index p.classes v

-- the rows of a source program: 1 to 128 of them, none beyond the last to go on to, over its own variables, without slots
pub record Sound (p : Program) : Type 0 where
  pub some : 1 ≤ length p.rows
  pub most : length p.rows ≤ 128
  pub below : (i : ℕ) → i < length p.rows → (shape (row_of p i).op).falls ≡ true → suc i < length p.rows
  pub target : (i : ℕ) → i < length p.rows → (shape (row_of p i).op).target ≡ true → (row_of p i).target < length p.rows
  pub var_a : (i : ℕ) → (shape (row_of p i).op).a ≡ true → (row_of p i).a < p.vars
  pub var_b : (i : ℕ) → (shape (row_of p i).op).b ≡ true → (row_of p i).b < p.vars
  pub var_d : (i : ℕ) → (shape (row_of p i).op).d ≡ true → (row_of p i).d < p.vars
  pub class_d : (i : ℕ) → (shape (row_of p i).op).d ≡ true → (row_of p i).dclass ≡ class_of p (row_of p i).d
  pub class_a : (i : ℕ) → copies (row_of p i).op ≡ true → class_of p (row_of p i).a ≡ (row_of p i).dclass
  pub plain : (i : ℕ) → (shape (row_of p i).op).slot ≡ false

-- live i v: v is live before row i; what a row reads is live before it, and what is live where it goes on, unless the row writes it
pub record Lively (w : ℕ → Row) (live : ℕ → ℕ → Bool) : Type 0 where
  pub reads_a : (i : ℕ) → (shape (w i).op).a ≡ true → live i (w i).a ≡ true
  pub reads_b : (i : ℕ) → (shape (w i).op).b ≡ true → live i (w i).b ≡ true
  pub below : (i v : ℕ) → (shape (w i).op).falls ≡ true → live (suc i) v ≡ true → ((shape (w i).op).d ≡ true → v ≢ (w i).d) → live i v ≡ true
  pub target : (i v : ℕ) → (shape (w i).op).target ≡ true → live (w i).target v ≡ true → live i v ≡ true

-- the slot of a spilled variable
abbrev pub slot_of : List Place → ℕ → ℕ
slot_of places v = number_of (place_of places v).home

-- slots are shared only harmlessly: what is live after a row in the slot that the row writes is what the row copies; there are 64 slots
pub record Shares (p : Program) (live : ℕ → ℕ → Bool) (places : List Place) : Type 0 where
  pub alone : (i v : ℕ) → (shape (row_of p i).op).d ≡ true → spilled places (row_of p i).d ≡ true → live (suc i) v ≡ true → (v ≢ (row_of p i).d) →
      spilled places v ≡ true → slot_of places v ≡ slot_of places (row_of p i).d → (copies (row_of p i).op ≡ true) × (v ≡ (row_of p i).a)
  pub few : (v : ℕ) → v < p.vars → spilled places v ≡ true → slot_of places v < 64

-- n loads from place q on, each of a temporary of its own
pub record Loads (p : Program) (w : ℕ → Row) (q n : ℕ) : Type 0 where
  pub load : (k : ℕ) → k < n → (w (q + k)).op ≡ Load
  pub temporary : (k : ℕ) → k < n → p.vars ≤ (w (q + k)).d
  pub twice : (j k : ℕ) → j < k → k < n → (w (q + j)).d ≢ (w (q + k)).d

-- x stands for operand v behind n loads from place q on: v itself, or the temporary of a load from its slot
abbrev pub Operand : Program → List Place → (ℕ → Row) → (q n v x : ℕ) → Type 0
Operand p places w q n v x =
    ((spilled places v ≡ false) × (x ≡ v))
    ⊎ ((spilled places v ≡ true) × ((k : ℕ) × (k < n) × ((w (q + k)).d ≡ x) × ((w (q + k)).slot ≡ slot_of places v) × ((w (q + k)).dclass ≡ class_of p v)))

-- the row at place q writes d, and the next block is at place e: d itself, or a temporary that a store puts into the slot of d
abbrev pub Stored : Program → List Place → (ℕ → Row) → (q d e : ℕ) → Type 0
Stored p places w q d e =
    ((spilled places d ≡ false) × ((w q).d ≡ d) × (e ≡ suc q))
    ⊎ ((spilled places d ≡ true) × (p.vars ≤ (w q).d) × (e ≡ suc (suc q)) × ((w (suc q)).op ≡ Store) × ((w (suc q)).a ≡ (w q).d) × ((w (suc q)).slot ≡ slot_of places d))

-- the block of source row i: n loads, the row itself, a store of a spilled result; start is where the block of each source row starts
pub record Block (p : Program) (places : List Place) (w : ℕ → Row) (start : ℕ → ℕ) (i n : ℕ) : Type 0 where
  pub few : n ≤ 2
  pub loads : Loads p w (start i) n
  pub op : (w (start i + n)).op ≡ (row_of p i).op
  pub dclass : (w (start i + n)).dclass ≡ (row_of p i).dclass
  pub constant : (w (start i + n)).constant ≡ (row_of p i).constant
  pub target : (shape (row_of p i).op).target ≡ true → (w (start i + n)).target ≡ start (row_of p i).target
  pub a : (shape (row_of p i).op).a ≡ true → Operand p places w (start i) n (row_of p i).a (w (start i + n)).a
  pub b : (shape (row_of p i).op).b ≡ true → Operand p places w (start i) n (row_of p i).b (w (start i + n)).b
  pub d : (shape (row_of p i).op).d ≡ true → Stored p places w (start i + n) (row_of p i).d (start (suc i))
  pub none : (shape (row_of p i).op).d ≡ false → (shape (row_of p i).op).falls ≡ true → start (suc i) ≡ suc (start i + n)

-- no block: row i copies inside one slot
pub record Inner (p : Program) (places : List Place) (start : ℕ → ℕ) (i : ℕ) : Type 0 where
  pub copy : copies (row_of p i).op ≡ true
  pub d : spilled places (row_of p i).d ≡ true
  pub a : spilled places (row_of p i).a ≡ true
  pub same : slot_of places (row_of p i).d ≡ slot_of places (row_of p i).a
  pub next : start (suc i) ≡ start i

-- source row i stands in the working rows
abbrev pub Stands : Program → List Place → (ℕ → Row) → (ℕ → ℕ) → ℕ → Type 0
Stands p places w start i = Inner p places start i ⊎ ((n : ℕ) × Block p places w start i n)

-- the registers given keep apart what must be apart: what is live after a row stands in no register that the row's write may change, but for a copy within one register; each register is of the class written
pub record Apart (file : Model) (w : ℕ → Row) (live : ℕ → ℕ → Bool) (reg : ℕ → ℕ) : Type 0 where
  pub apart : (i v : ℕ) → (shape (w i).op).d ≡ true → live (suc i) v ≡ true → (v ≢ (w i).d) →
      (file.overlaps (reg (w i).d) (reg v) ≡ false) ⊎ ((idle reg (w i) ≡ true) × (v ≡ (w i).a))
  pub belongs : (i : ℕ) → (shape (w i).op).d ≡ true → file.belongs (reg (w i).d) (w i).dclass ≡ true

-- all of it, of a compiled program and the file it is compiled for: its last working program and the registers given there, what is live in its source and in the working rows, where the blocks start
pub record Static (c : Compiled) (file : Model) : Type 0 where
  pub last : Working
  pub reg : ℕ → ℕ
  pub live : ℕ → ℕ → Bool
  pub live_last : ℕ → ℕ → Bool
  pub start : ℕ → ℕ
  pub lawful : Lawful file
  pub sound : Sound c.source
  pub lively : Lively (row_of c.source) live
  pub entry : (v : ℕ) → live 0 v ≡ false
  pub shares : Shares c.source live last.places
  pub first : start 0 ≡ 0
  pub stands : (i : ℕ) → i < length c.source.rows → Stands c.source last.places (row_at last.rows) start i
  pub lively_last : Lively (row_at last.rows) live_last
  pub apart : Apart file (row_at last.rows) live_last reg
  pub targets : (i : ℕ) → (shape (row_at last.rows i).op).target ≡ true → (row_at last.rows i).target < length last.rows
  pub code : c.rows ≡ assembled (map (code_block reg) last.rows)

-- a program that meets it agrees with its source in every rehearsal
abbrev pub StaticAgrees : Type 0
StaticAgrees = (c : Compiled) (file : Model) → Static c file → Agreeing c file
