use Rattle.std.proofs.Common.{◌≡◌, length, drop, vec_items}
use Rattle.hexwords.proofs.Spelling.{onto}
use Rattle.std.specs.List.{slice_split}
use Rattle.numerals.specs.Numerals.{numbers_of}
use Rattle.numerals.proofs.Items.{is_comma}
use Rattle.numerals.proofs.read_items.Given as goal

abbrev pub invariant-loop-item : goal.invariant-loop-item
invariant-loop-item l =
    onto (vec_items l.numbers) (numbers_of (drop (length l.yielded) (slice_split is_comma l.word))) ≡ numbers_of (slice_split is_comma l.word)
