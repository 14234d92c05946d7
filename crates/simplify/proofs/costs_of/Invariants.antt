use Rattle.std.proofs.Common.{◌≡◌, ℕ, ◌+◌, ◌*◌, ◌<◌, ◌≤◌, length, get_or, drop}
use Rattle.rounds.specs.Interference.{Graph}
use Rattle.rounds.specs.Simplify.{cost}
use Rattle.simplify.proofs.costs_of.Given as goal

abbrev pub invariant-loop-row : goal.invariant-loop-row
invariant-loop-row l =
    (length l.costs ≡ 64)
    × ((g : Graph) → g.node ≡ l.node → (k : ℕ) → k < 64 → cost g (drop l.row-index l.lines.rows.now) k + get_or l.costs k 0 ≡ cost g l.lines.rows.now k)
    × ((k : ℕ) → get_or l.costs k 0 ≤ 3000 * l.row-index)
