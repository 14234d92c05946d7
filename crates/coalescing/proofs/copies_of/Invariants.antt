use Rattle.std.proofs.Common.{◌≡◌, ◌≤◌, take}
use Rattle.rounds.specs.Coalescing.{copies_in}
use Rattle.coalescing.proofs.copies_of.Given as goal

abbrev pub invariant-loop-row : goal.invariant-loop-row
invariant-loop-row l = (take l.copies.count l.copies.ends ≡ copies_in l.source (take l.row-index l.lines.rows.now)) × (l.copies.count ≤ l.row-index)
