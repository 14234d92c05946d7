-- Selection takes some free register whenever there is one. All that is asked of the choice is here.
use Rattle.std.proofs.Common.{inl, inr, arith}
use Rattle.std.proofs.lemmas.Bool.{cases_lt, both_ways}
use Rattle.counting.proofs.Searches.{least_below, least_found}
use Rattle.rounds.specs.Select.{free, choice}
use Rattle.colouring.specs.Selecting.{ChoiceFree}

pub choice_free : ChoiceFree
unfolding choice
choice_free m g taken v = record {
  found = λ r l e. elim (cases_lt (choice m g taken v) m.count) [
    | inl h ↦ h
    | inr h ↦ absurd (both_ways _ (least_below (free m g taken v) m.count r (omega arith)) e)
  ];
  only = λ h. least_found (free m g taken v) m.count h;
}
