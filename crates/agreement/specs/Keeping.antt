-- What every compiled program keeps to, beside agreeing with its source.
use Rattle.std.specs.Prelude.{◌≡◌, ℕ, suc, ◌*◌, ◌≤◌, true, List, length, Ok}
use Rattle.registers.specs.Model.{Model, Lawful}
use Rattle.compiling.specs.Working.{Compiled, place_of, spilled}
use Rattle.compiling.specs.Compile.{compile_with}

-- a compiled program in time, with what passed the test in registers, and short
pub record Prompt (c : Compiled) : Type 0 where
  -- one round more than variables suffices
  pub rounds : c.rounds ≤ suc c.source.vars
  -- what stands in a slot was only hoped to find a register
  pub hoped : (v : ℕ) → spilled c.places v ≡ true → (place_of c.places v).hoped ≡ true
  -- four rows for each of the source are enough, and as many slots as variables
  pub rows : length c.rows ≤ 4 * length c.source.rows
  pub most_rows : length c.rows ≤ 512
  pub slots : c.slots ≤ c.source.vars
  pub most_slots : c.slots ≤ 64

-- every file that compiles, with lawful register files in all rounds, does so promptly
abbrev pub Promptness : Type 0
Promptness = (files : ℕ → Model) → ((i : ℕ) → Lawful (files i)) → (bs : List ℕ) (c : Compiled) → compile_with files bs ≡ Ok c → Prompt c
