use Rattle.chips.specs.NestedChip.{nested_file, nested_low}
use Rattle.chips.specs.PairedChip.{paired_file, paired_low}
use Rattle.chips.specs.ChipLaws.{nested_wired, paired_wired}
use Rattle.machine.proofs.Staged.{allowed}
use Rattle.worked.proofs.calls_on_bits.Goals as goal

pub returns : goal.returns
returns c = record { nested = allowed nested_file nested_low nested_wired; paired = allowed paired_file paired_low paired_wired }
