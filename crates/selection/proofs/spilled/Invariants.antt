use Rattle.std.proofs.Common.{◌≡◌, ◌≤◌, not, ◌&&◌, ltb, length}
use Rattle.sets.specs.Sets.{has}
use Rattle.sets.specs.Words.{members}
use Rattle.rounds.specs.Select.{register_of}
use Rattle.rounds.specs.Round.{those}
use Rattle.selection.proofs.spilled.Given as goal

abbrev pub invariant-loop-v : goal.invariant-loop-v
invariant-loop-v g l =
    let m = g.F.RegisterFile.model l.file in
    length l.registers ≤ 448 → members l.without ≡ those (λ v. has (members l.nodes) v && not (ltb (register_of m l.registers v) m.count)) l.v
