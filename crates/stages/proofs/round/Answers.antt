use Rattle.drafts.specs.Drafts.{working_of}
use Rattle.stages.proofs.Growing.{ready_of}
use Rattle.stages.proofs.Pending.{left_pending, left_painted}
use Rattle.stages.proofs.round.Goals.{in-Ok, in-Err}
use Rattle.stages.proofs.round.Goals as goal

pub take_turn-requires : goal.take_turn-requires
take_turn-requires g c = ready_of _ _ c.args.p.grown (g.met.F.RegisterFile.lawful c.args.file.now)

pub invariant_of-result-2 : goal.invariant_of-result-2
invariant_of-result-2 g c = record {
  ended = elim c.match-take_turn.branch [
    | in-Ok w ↦ rw w.result-is (left_painted (g.F.RegisterFile.model c.args.file.now) (working_of c.args.p.record.now.draft) w.in-Ok.draft c.args.p.grown (g.met.F.RegisterFile.lawful c.args.file.now) w.in-Ok.ensures.turned)
    | in-Err w ↦ rw w.result-is (left_pending (g.F.RegisterFile.model c.args.file.now) (working_of c.args.p.record.now.draft) w.in-Err.token c.args.p.grown (g.met.F.RegisterFile.lawful c.args.file.now) w.in-Err.ensures.turned)
  ];
}
