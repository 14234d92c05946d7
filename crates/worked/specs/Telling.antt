-- What is told of a compiled file, and short words for it.
use Rattle.std.specs.Prelude.{ℕ, Bool, List, Ok, Err, Result}
use Rattle.sets.specs.Sets.{when}
use Rattle.faults.specs.declared.Refusal.{Refusal}
use Rattle.faults.specs.declared.ProgramFault.{ProgramFault}
use Rattle.faults.specs.Refusals.{program_refusal}
use Rattle.rows.specs.declared.Op.{Op}
use Rattle.rows.specs.declared.Row.{Row}
use Rattle.rows.specs.Rows.{shape}
use Rattle.compiling.specs.declared.Home.TheVariants.{Register, Slot}
use Rattle.compiling.specs.declared.Place.{Place}
use Rattle.compiling.specs.Working.{Compiled}

-- the rounds, the slots, the place of each variable and the code; or the refusal
pub data Told : Type 0 where
  Coded : (rounds slots : ℕ) → List Place → List Row → Told
  Refused : Refusal → Told

-- what compile tells
abbrev pub tells : Result Compiled ProgramFault → Told
tells (Ok c) = Coded c.rounds c.slots c.places c.rows
tells (Err e) = Refused (program_refusal e)

-- a row of code; x is its constant, its target or its slot
abbrev pub code : Op → (weight dclass aclass d a b x : ℕ) → Row
code o weight dclass aclass d a b x = record {
  op = o;
  weight = weight;
  dclass = dclass;
  aclass = aclass;
  d = d;
  a = a;
  b = b;
  target = when (shape o).target x;
  constant = when (shape o).constant x;
  slot = when (shape o).slot x;
}

-- a variable in a register
abbrev pub in_register : (number round : ℕ) → Bool → Place
in_register number round hoped = record { home = Register number; round = round; hoped = hoped }

-- a variable in a slot
abbrev pub in_slot : (number round : ℕ) → Bool → Place
in_slot number round hoped = record { home = Slot number; round = round; hoped = hoped }
