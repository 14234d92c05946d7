use Rattle.registers.specs.Description.{fenced, lowest}
use Rattle.registers.proofs.RunBits.{stores}
use Rattle.registers.proofs.Laws.{wired}
use Rattle.chips.proofs.wiring.ChipBank.write.Goals as goal

pub returns : goal.returns
returns g c =
    let d = g.W.Wiring.described in
    let done = stores (fenced d) (lowest d) (wired d g.met.W.Wiring.tested) c.args.self.now.bits c.args.r c.args.v _ _ _ c.run.ensures.0 c.run.ensures.1 c.store-self.ensures in
    record { written = done.0; exact = done.1 }
