use Rattle.std.proofs.Common.{refl}
use Rattle.compiling.specs.Compile.{compile}
use Rattle.worked.specs.Showing.{outputs, answered, counts}
use Rattle.worked.specs.Table.{Cases}

-- by computation
pub cases : Cases
unfolding compile outputs answered counts
cases = record {
  numbers = refl;
  ends = refl;
  merged_nested = refl;
  merged_paired = refl;
  merged_softly = refl;
  merged_lightly = refl;
  five_words = refl;
  unmerged = refl;
  unmerged_source = refl;
  unmerged_code = refl;
  unmerged_paired = refl;
  five_words_out = refl;
  unread = refl;
  unwritten = refl;
  unreached = refl;
  in_turns = refl;
  in_turns_counted = refl;
  restart_counted = refl;
  limits = refl;
  full = refl;
}
