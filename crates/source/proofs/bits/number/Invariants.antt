use Rattle.std.proofs.Common.{◌≡◌, ◌*◌, ◌^◌, ◌<◌}
use Rattle.source.specs.Bits.{number}
use Rattle.source.proofs.bits.number.Given as goal

abbrev pub invariant-loop-byte : goal.invariant-loop-byte
invariant-loop-byte l = (l.sum ≡ number l.bytes 0 l.byte-index) × (l.sum < 2 ^ (8 * l.byte-index))
