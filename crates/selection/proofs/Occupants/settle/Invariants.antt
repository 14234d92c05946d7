use Rattle.std.proofs.Common.{◌≡◌, ℕ, ◌<◌, ◌≤◌, cond, eqb, get_or}
use Rattle.sets.specs.Words.{no_set}
use Rattle.selection.specs.Occupants.{occupies}
use Rattle.selection.proofs.Occupants.settle.Given as goal

abbrev pub invariant-loop-r : goal.invariant-loop-r
invariant-loop-r g l =
    ((q k : ℕ) → q < l.r → k < 448 → occupies l.set-items q k ≡ cond (eqb l.v k) ((g.F.RegisterFile.model l.file).overlaps q l.s) (occupies l.initial.set-items q k))
    × ((q : ℕ) → l.r ≤ q → get_or l.set-items q no_set ≡ get_or l.initial.set-items q no_set)
