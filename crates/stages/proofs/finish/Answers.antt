use Rattle.std.proofs.Common.{◌≡◌, suc, ◌<◌, true, false, sym, ap, ◌∙◌, subst}
use Rattle.std.proofs.lemmas.Bool.{not-true, not-false}
use Rattle.admission.specs.Memory.{Parts, parts}
use Rattle.rounds.specs.Round.{colours}
use Rattle.compiling.specs.Working.{Working, round_of}
use Rattle.compiling.specs.Rewrite.{rewritten}
use Rattle.compiling.specs.Emit.{emitted}
use Rattle.allocation.specs.Allocation.{afterwards}
use Rattle.assembling.specs.Rounds.{unplaced}
use Rattle.histories.proofs.Merely.{progress_of}
use Rattle.stages.specs.Stages.{working_in, compiled_in}
use Rattle.stages.proofs.Memory.{twice_afterwards}
use Rattle.stages.proofs.Finishing.{rewrites, emits}
use Rattle.stages.proofs.finish.Goals as goal

pub returns-then-not-spilled : goal.returns-then-not-spilled
returns-then-not-spilled g c =
    let m = g.F.RegisterFile.model c.args.chip.now in
    let w = working_in c.loop-r.a.record.now in
    let kept : c.round-r.result.spilled ≡ false = cc in
    let done : colours (round_of m w) ≡ true = not-false (colours (round_of m w)) (sym c.round-r.ensures.flag ∙ kept) in
    let code : compiled_in c.emit.result.record.now ≡ emitted w (round_of m w) = emits w c.round-r.result.record.now c.coloured.result.record.now _ (round_of m w) c.coloured.ensures (c.round-r.ensures.painted kept) c.emit.ensures in
    record {
      done = λ n bs h. let t = c.loop-r.invariant.0 n bs h in (t.0, (w, t.1, g.met.F.RegisterFile.lawful c.args.chip.now, done, code));
      memory = c.round-r.ensures.memory ∙ c.loop-r.invariant.1;
    }

pub loop-r-smaller : goal.loop-r-smaller
loop-r-smaller g c =
    let m = g.F.RegisterFile.model c.args.chip.now in
    let w = working_in c.loop-r.a.record.now in
    let out : c.round-r.result.spilled ≡ true = cc in
    let spills : colours (round_of m w) ≡ false = not-true (colours (round_of m w)) (sym c.round-r.ensures.flag ∙ out) in
    let is = c.round-r.ensures.out out in
    let new : working_in c.rewrite-a.result.record.now ≡ rewritten w (round_of m w) = rewrites c.loop-r.a.record.now c.order.result.record.now c.round-r.result.token c.order.result.token _ (round_of m w) (c.order.ensures.0 ∙ is.0) c.order.ensures.1 is.1 c.rewrite-a.ensures in
    let P : Working → Type 0 = λ x. unplaced x < unplaced w in
    subst P (sym new) (progress_of m w c.loop-r.a.grown (g.met.F.RegisterFile.lawful c.args.chip.now) spills)

pub loop-r-preserved : goal.loop-r-preserved
loop-r-preserved g c =
    let m = g.F.RegisterFile.model c.args.chip.now in
    let w = working_in c.loop-r.a.record.now in
    let out : c.round-r.result.spilled ≡ true = cc in
    let spills : colours (round_of m w) ≡ false = not-true (colours (round_of m w)) (sym c.round-r.ensures.flag ∙ out) in
    let is = c.round-r.ensures.out out in
    let new : working_in c.rewrite-a.result.record.now ≡ rewritten w (round_of m w) = rewrites c.loop-r.a.record.now c.order.result.record.now c.round-r.result.token c.order.result.token _ (round_of m w) (c.order.ensures.0 ∙ is.0) c.order.ensures.1 is.1 c.rewrite-a.ensures in (
      (λ n bs h. let t = c.loop-r.invariant.0 n bs h in (suc t.0, (w, t.1, g.met.F.RegisterFile.lawful c.args.chip.now, spills, new))),
      ap (λ (x : Parts). afterwards x) c.round-r.ensures.memory ∙ twice_afterwards (parts c.loop-r.first c.loop-r.second c.loop-r.third) ∙ c.loop-r.invariant.1,
    )
