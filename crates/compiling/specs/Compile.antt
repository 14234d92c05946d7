-- Compile: rounds until one colours.
use Rattle.std.specs.Prelude.{ℕ, zero, suc, cond, List, [], Ok, Err, Result}
use Rattle.faults.specs.declared.ProgramFault.{ProgramFault}
use Rattle.rows.specs.Rows.{Program}
use Rattle.admission.specs.Admission.{admitting}
use Rattle.registers.specs.Model.{Model}
use Rattle.rounds.specs.Round.{colours}
use Rattle.compiling.specs.Working.{Working, Compiled, admitted, round_of}
use Rattle.compiling.specs.Rewrite.{rewritten}
use Rattle.compiling.specs.Emit.{emitted}

-- a program whose rounds ran out before one coloured: no code
abbrev pub uncoloured : Working → Compiled
uncoloured w = record { source = w.source; rows = []; rounds = w.rounds; slots = w.slots; places = w.places }

-- at most k more rounds, round i with the register file of i
unfoldable pub compiled_in : (ℕ → Model) → ℕ → Working → Compiled
unfolding round_of emitted rewritten
compiled_in files zero w = uncoloured w
compiled_in files (suc k) w =
    let o = round_of (files (suc w.rounds)) w in
    let code = emitted w o in
    let more = compiled_in files k (rewritten w o) in
    cond (colours o) code more

-- an admitted program compiled: one round more than it has variables suffices
unfoldable pub compiling : (ℕ → Model) → Program → Compiled
unfolding compiled_in
compiling files p = compiled_in files (suc p.vars) (admitted p)

-- the answer of compile by that of admit
abbrev pub compiled_by : (ℕ → Model) → Result Program ProgramFault → Result Compiled ProgramFault
compiled_by files (Err e) = Err e
compiled_by files (Ok p) = Ok (compiling files p)

-- a file compiled, each round with a register file of its own; the program is compiled for the file of the last one
unfoldable pub compile_with : (ℕ → Model) → List ℕ → Result Compiled ProgramFault
unfolding admitting compiling
compile_with files bs = compiled_by files (admitting bs)

-- a file compiled with one register file
unfoldable pub compile : Model → List ℕ → Result Compiled ProgramFault
unfolding compile_with
compile m bs = compile_with (λ _. m) bs
