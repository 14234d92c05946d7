-- The program between its rounds, and the compiled program.
use Rattle.std.specs.Prelude.{ℕ, Bool, true, false, not, List, length, replicate, slice_index_or}
use Rattle.rows.specs.declared.Row.{Row}
use Rattle.rows.specs.Rows.{Program}
use Rattle.registers.specs.Model.{Model}
use Rattle.rounds.specs.Round.{Outcome, those, round}
use Rattle.compiling.specs.declared.Home.{Home}
use Rattle.compiling.specs.declared.Home.TheVariants.{Open, Register, Slot}
use Rattle.compiling.specs.declared.Place.{Place}

-- a working program: its source, its rows, the classes of source variables and temporaries, the rounds behind it, the slots given, the place of each source variable
pub record Working : Type 0 where
  pub source : Program
  pub rows : List Row
  pub classes : List ℕ
  pub rounds : ℕ
  pub slots : ℕ
  pub places : List Place

-- a compiled program: its source, its code, and the report
pub record Compiled : Type 0 where
  pub source : Program
  pub rows : List Row
  pub rounds : ℕ
  pub slots : ℕ
  pub places : List Place

-- the place of a variable that no round has placed
abbrev pub no_place : Place
no_place = record { home = Open; round = 0; hoped = false }

-- the place of variable v
abbrev pub place_of : List Place → ℕ → Place
place_of places v = slice_index_or places v no_place

-- whether a home is a slot
abbrev pub is_slot : Home → Bool
is_slot Open = false
is_slot (Register n) = false
is_slot (Slot n) = true

-- the number of a home; 0 where it has none
abbrev pub number_of : Home → ℕ
number_of Open = 0
number_of (Register n) = n
number_of (Slot n) = n

-- whether a variable is spilled
abbrev pub spilled : List Place → ℕ → Bool
spilled places v = is_slot (place_of places v).home

-- an admitted program before its first round
abbrev pub admitted : Program → Working
admitted p = record { source = p; rows = p.rows; classes = p.classes; rounds = 0; slots = 0; places = replicate p.vars no_place }

-- the variables that a round has as nodes: those not spilled
unfoldable pub unspilled : Working → ℕ
unfolding those
unspilled w = those (λ v. not (spilled w.places v)) (length w.classes)

-- a round of a working program
unfoldable pub round_of : Model → Working → Outcome
unfolding round unspilled
round_of m w = round m w.source.vars w.classes (unspilled w) w.rows
