use Rattle.std.proofs.Common.{◌≡◌, length}
use Rattle.interference.specs.Building.{Neighbours}
use Rattle.interference.proofs.Later.{Leads, later}
use Rattle.interference.proofs.build.Given as goal

abbrev pub invariant-loop-i : goal.invariant-loop-i
invariant-loop-i l =
    let rows = l.lines.rows.now in
    let left = l.i-iterator.iter.iter.rest.now in
    let reasons = later rows (length left) in
    (l.i-iterator.iter.count ≡ 0) × Leads left rows × Neighbours (λ r. r.others) reasons l.edges × Neighbours (λ r. r.hard) reasons l.hard
