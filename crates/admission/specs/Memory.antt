-- The working memory lent to admission, and what it holds afterwards.
use Rattle.std.specs.Prelude.{ℕ, cond, List, length, Some, None, Ok, Err, Option, Result, nat_lt}
use Rattle.sets.specs.declared.NodeSet.{NodeSet}
use Rattle.sets.specs.Words.{cleared}
use Rattle.faults.specs.declared.RowFault.{RowFault}
use Rattle.faults.specs.declared.ProgramFault.{ProgramFault}
use Rattle.faults.specs.declared.ProgramFault.TheVariants.{Rows, Memory}
use Rattle.rows.specs.Rows.{Program}
use Rattle.source.specs.Reading.{reading}
use Rattle.admission.specs.Admission.{fact_fault, faultless}

-- the three parts of working memory
pub record Parts : Type 0 where
  pub first : List NodeSet
  pub second : List NodeSet
  pub third : List NodeSet

abbrev pub parts : List NodeSet → List NodeSet → List NodeSet → Parts
parts a b c = record { first = a; second = b; third = c }

-- all sets of the parts emptied, what lies past a part's size left alone
abbrev pub emptied : Parts → Parts
emptied m = parts (cleared 512 m.first) (cleared 448 m.second) (cleared 448 m.third)

-- the lowest part that is too short
abbrev pub short_part : Parts → Option ProgramFault
short_part m =
    cond (nat_lt (length m.first) 512) (Some (Memory 0))
    (cond (nat_lt (length m.second) 448) (Some (Memory 1))
    (cond (nat_lt (length m.third) 448) (Some (Memory 2))
    None))

-- an answer, and what the memory holds afterwards
pub record Answer : Type 0 where
  pub result : Result Program ProgramFault
  pub memory : Parts

abbrev pub answer : Result Program ProgramFault → Parts → Answer
answer r m = record { result = r; memory = m }

-- a file that cannot be read leaves the memory as it was; one that was read leaves its sets empty
abbrev pub answered_by : Result Program RowFault → Parts → Answer
answered_by (Err e) m = answer (Err (Rows e)) m
answered_by (Ok p) m = answer (faultless (fact_fault p) p) (emptied m)

-- a part too short is told before any byte is looked at
abbrev pub unless_short : Option ProgramFault → Result Program RowFault → Parts → Answer
unless_short (Some e) r m = answer (Err e) m
unless_short None r m = answered_by r m

-- what admission answers to a file, and what it leaves in the memory
unfoldable pub answered : List ℕ → Parts → Answer
answered bs m = unless_short (short_part m) (reading bs) m
