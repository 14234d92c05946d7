use Rattle.std.proofs.Common.{◌≡◌, map}
use Rattle.counting.specs.Counting.{range}
use Rattle.rewriting.specs.Pages.{place_spilled}
use Rattle.rewriting.proofs.Rewriting.places.Given as goal

abbrev pub invariant-loop-v : goal.invariant-loop-v
invariant-loop-v l = l.places ≡ map (place_spilled l.self.draft.now l.self.token.now l.round) (range l.v 0)
