use Rattle.std.proofs.Common.{◌≡◌, ◌+◌, ◌*◌, ◌<◌, get_or, mod-eq_of_lt, add-one, zero-add, arith, rules}
use Rattle.source.specs.Bits.{number}
use Rattle.source.proofs.Fields.{number_none, number_more, number_lt}
use Rattle.source.proofs.bits.number.Goals as goal

pub loop-byte-init : goal.loop-byte-init
loop-byte-init c = (number_none c.args.bytes.now 0, omega arith)

pub loop-byte-preserved : goal.loop-byte-preserved
loop-byte-preserved c =
    let bs = c.args.bytes.now in
    let k = c.loop-byte.byte-index in
    let byte : get_or bs k 0 < 256 = search rules in
    let same : c.from.result ≡ get_or bs k 0 = search rules in
    let more : c.loop-byte.sum * 256 + c.from.result ≡ number bs 0 (k + 1) =
    rw (same, add-one, number_more bs 0 k, zero-add k, mod-eq_of_lt byte, c.loop-byte.invariant.0) in
    (more, rw more (number_lt bs 0 (k + 1)))
