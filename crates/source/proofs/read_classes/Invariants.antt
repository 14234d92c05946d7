use Rattle.std.proofs.Common.{◌≡◌, ◌+◌, ◌*◌}
use Rattle.source.proofs.Parts.{Classing}
use Rattle.source.proofs.read_classes.Given as goal

abbrev pub invariant-loop-v : goal.invariant-loop-v
invariant-loop-v l =
    (l.reader.file.now ≡ l.initial.reader.file.now)
    × (8 * l.reader.byte + l.reader.bit ≡ 16 + 2 * l.v)
    × Classing l.initial.reader.file.now l.class-items l.v
