use Rattle.std.proofs.Common.{◌≡◌, ◌+◌, ◌*◌}
use Rattle.source.specs.Reading.{row_place}
use Rattle.source.proofs.Rows.{Rowing}
use Rattle.source.proofs.read_rows.Given as goal

abbrev pub invariant-loop-i : goal.invariant-loop-i
invariant-loop-i l =
    (l.reader.file.now ≡ l.initial.reader.file.now)
    × (8 * l.reader.byte + l.reader.bit ≡ row_place l.initial.reader.file.now l.i)
    × Rowing l.initial.reader.file.now l.row-items l.i
