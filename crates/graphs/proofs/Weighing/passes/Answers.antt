use Rattle.std.proofs.Common.{ℕ, List, get_or, sym, ap, ◌∙◌}
use Rattle.registers.specs.Model.{Model}
use Rattle.rounds.specs.Pressure.{passes}
use Rattle.graphs.proofs.Weighing.passes.Goals as goal

pub returns : goal.returns
unfolding passes
returns g c = λ gr e.
    let m : Model = g.F.RegisterFile.model c.args.self.now.file.now in
    let room = c.p.ensures ∙ ap m.p c.class.ensures ∙ ap (λ (cs : List ℕ). m.p (get_or cs c.args.v 0)) (sym e) in
    rw (c.pressure.ensures.exact gr e, room)
