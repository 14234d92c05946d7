-- What admission's code answers, as a program.
use Rattle.std.specs.Prelude.{Ok, Err, Result}
use Rattle.faults.specs.declared.ProgramFault.{ProgramFault}
use Rattle.rows.specs.Rows.{Program}
use Rattle.source.specs.declared.program.Source.{Source}
use Rattle.source.specs.Results.{program_of}

-- an answer with the program of its source
abbrev pub as_admitted : Result Source ProgramFault → Result Program ProgramFault
as_admitted (Ok s) = Ok (program_of s)
as_admitted (Err e) = Err e
