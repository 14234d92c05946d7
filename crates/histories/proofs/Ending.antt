-- The program that only ends, by computation.
use Rattle.std.proofs.Common.{◌≡◌, [], Ok, refl}
use Rattle.admission.specs.Admission.{admitting}
use Rattle.registers.specs.Model.{Model, Lawful}
use Rattle.compiling.specs.Working.{admitted, round_of}
use Rattle.compiling.specs.Emit.{emitted}
use Rattle.compiling.specs.Compile.{compile}
use Rattle.histories.specs.Histories.{Grown, Finished, end_file, end_program, end_code, EndsFirst}

end_admitted : admitting end_file ≡ Ok end_program
unfolding admitting
end_admitted = refl

end_grown : Grown [] end_file (admitted end_program)
end_grown = (end_program, end_admitted, refl)

end_compiled : (m : Model) → compile m end_file ≡ Ok end_code
unfolding compile
end_compiled m = refl

end_finished : (m : Model) → Lawful m → Finished m [] end_file end_code
unfolding round_of emitted
end_finished m lawful = (admitted end_program, end_grown, lawful, refl, refl)

pub ends_first : EndsFirst
ends_first = record { admits = end_admitted; grown = end_grown; compiles = end_compiled; finished = end_finished }
