use Rattle.std.proofs.Common.{◌≡◌, map}
use Rattle.counting.specs.Counting.{range}
use Rattle.emission.specs.Emission.{place_after}
use Rattle.emission.proofs.places_of.Given as goal

abbrev pub invariant-loop-v : goal.invariant-loop-v
invariant-loop-v l = l.places ≡ map (place_after l.draft l.end) (range l.v 0)
