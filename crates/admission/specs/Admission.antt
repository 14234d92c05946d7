-- Admission: a file that can be read, whose rows are all reached and read only what is surely written.
use Rattle.std.specs.Prelude.{ℕ, Bool, cond, not, List, length, Some, None, Ok, Err, Option, Result, nat_lt}
use Rattle.counting.specs.Counting.{least}
use Rattle.faults.specs.declared.RowFault.{RowFault}
use Rattle.faults.specs.declared.ProgramFault.{ProgramFault}
use Rattle.faults.specs.declared.ProgramFault.TheVariants.{Rows, Unreached, Unwritten}
use Rattle.rows.specs.Rows.{Program}
use Rattle.source.specs.Reading.{reading}
use Rattle.admission.specs.Kinds.{reached, sure}

-- the lowest number below n that passes, if there is one
abbrev pub earliest : (ℕ → Bool) → ℕ → Option ℕ
earliest t n = let k = least t n in cond (nat_lt k n) (Some k) None

-- done, if there is no fault
abbrev pub unless_fault : Option ProgramFault → Result (Unit {0}) ProgramFault
unless_fault (Some e) = Err e
unless_fault None = Ok tt

-- the first fault of the rows together: the lowest row that is not reached, else the lowest that reads what may be unwritten
unfoldable pub fact_fault : Program → Option ProgramFault
unfolding least reached sure
fact_fault p =
    let n = length p.rows in
    let lost = least (λ i. not (reached p.rows i)) n in
    let raw = least (λ i. not (sure p.vars p.rows i)) n in
    let by-reads = cond (nat_lt raw n) (Some (Unwritten raw)) None in
    cond (nat_lt lost n) (Some (Unreached lost)) by-reads

-- a program by its fault
abbrev pub faultless : Option ProgramFault → Program → Result Program ProgramFault
faultless (Some e) p = Err e
faultless None p = Ok p

-- a program that was read, or the fault of its rows
abbrev pub judged : Result Program RowFault → Result Program ProgramFault
judged (Err e) = Err (Rows e)
judged (Ok p) = faultless (fact_fault p) p

-- a file admitted: its program, or its first fault
unfoldable pub admitting : List ℕ → Result Program ProgramFault
unfolding reading fact_fault
admitting bs = judged (reading bs)
