use Rattle.std.proofs.Common.{arith}
use Rattle.std.proofs.lemmas.Nat.{one_shl, pow_pos}
use Rattle.registers.proofs.RunBits.{stored}
use Rattle.registers.proofs.runs.Run.store.Goals as goal

pub nonzero_rem-below : goal.nonzero_rem-below
nonzero_rem-below c = rw (one_shl c.args.self.low 128 (omega arith)) (pow_pos c.args.self.low)

pub returns : goal.returns
returns c = stored c.args.bits c.args.self.low c.args.self.width c.args.v (omega arith) (omega arith) (omega arith) (omega arith)
