use Rattle.std.proofs.Common.{◌≡◌, sym, ◌∙◌, length, take, arith}
use Rattle.std.proofs.lemmas.List.{length-take-le}
use Rattle.selection.proofs.Selecting.{settled_below}
use Rattle.selection.proofs.Occupants.settle.Goals as goal

pub whole_as_front-set-items : goal.whole_as_front-set-items
whole_as_front-set-items g c =
    (omega (arith, c.registers.ensures, (g.met.F.RegisterFile.lawful c.args.self.now.file.now).few), omega arith)

pub returns-clause-settled : goal.returns-clause-settled
returns-clause-settled g c =
    let file = c.args.self.now.file.now in
    let n = c.registers.result in
    let below : length (take n c.args.self.now.sets) ≡ n = length-take-le n c.args.self.now.sets (omega (arith, c.registers.ensures, (g.met.F.RegisterFile.lawful file).few)) in
    settled_below (g.F.RegisterFile.model file) c.args.v c.args.s n c.args.self.now.sets c.loop-r.set-items _ (sym c.registers.ensures) (c.loop-r.auto.set-items ∙ below)
    (λ r k l b. c.loop-r.invariant.0 r k (omega (arith, below, c.loop-r-test.false)) b)
