-- Both chips pass every test, so they keep the laws.
use Rattle.std.specs.Prelude.{ℕ, ◌^◌, ◌<◌, refl}
use Rattle.counting.specs.Counting.{sum, most, all}
use Rattle.registers.specs.Model.{Lawful}
use Rattle.registers.specs.Description.{Tested}
use Rattle.registers.proofs.RunBits.{Wired}
use Rattle.registers.proofs.Laws.{lawful, wired}
use Rattle.chips.specs.NestedChip.{nested, nested_file, nested_low, nested_numbers}
use Rattle.chips.specs.PairedChip.{paired, paired_file, paired_low, paired_numbers}
use Rattle.chips.specs.Wiring.{numbers_below}

pub nested_tested : Tested nested
unfolding sum most all
nested_tested = record {
  some = refl;
  few = refl;
  self = refl;
  both_ways = refl;
  narrow = refl;
  wide = refl;
  sized = refl;
  counted = refl;
  reckoned = refl;
  room = refl;
  shared = refl;
}

pub paired_tested : Tested paired
unfolding sum most all
paired_tested = record {
  some = refl;
  few = refl;
  self = refl;
  both_ways = refl;
  narrow = refl;
  wide = refl;
  sized = refl;
  counted = refl;
  reckoned = refl;
  room = refl;
  shared = refl;
}

pub nested_lawful : Lawful nested_file
nested_lawful = lawful nested nested_tested

pub nested_wired : Wired nested_file nested_low
nested_wired = wired nested nested_tested

pub paired_lawful : Lawful paired_file
paired_lawful = lawful paired paired_tested

pub paired_wired : Wired paired_file paired_low
paired_wired = wired paired paired_tested

pub nested_below : (x r : ℕ) → nested_numbers x r < 2 ^ nested_file.width r
nested_below = numbers_below nested

pub paired_below : (x r : ℕ) → paired_numbers x r < 2 ^ paired_file.width r
paired_below = numbers_below paired
