use Rattle.packing.proofs.Forgets.{one_file}
use Rattle.packing.proofs.one_file_one_program.Goals as goal

pub returns : goal.returns
returns c = one_file
