use Rattle.std.proofs.Common.{◌/◌, ◌^◌, ◌<◌, arith}
use lib.Bits.{and_mask}
use Rattle.std.proofs.lemmas.Nat.{one_shl}
use Rattle.source.proofs.bits.cut.Goals as goal

pub returns-clause-value : goal.returns-clause-value
returns-clause-value c =
    let h : c.args.n < 64 = omega arith in
    rw (one_shl c.args.n 64 h) (and_mask (c.args.x / 2 ^ c.args.skip) c.args.n)
