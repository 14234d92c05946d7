use Rattle.std.proofs.Common.{sym, subst}
use Rattle.stages.specs.Stages.{compiled_in}
use Rattle.opening.proofs.Promising.{promise, SourceRows, CodeRows, source_keeps, code_keeps}
use Rattle.opening.proofs.open.Goals as goal

pub invariant_of-source : goal.invariant_of-source
invariant_of-source g c =
    let t = subst SourceRows (sym c.source_rows.ensures) (source_keeps _ c.args.program.now.playable) in
    record { some = t.0; few = t.1; inside = t.2; classed = t.3 }

pub invariant_of-source-2 : goal.invariant_of-source-2
invariant_of-source-2 g c = record { named = (subst SourceRows (sym c.source_rows.ensures) (source_keeps _ c.args.program.now.playable)).4 }

pub invariant_of-code : goal.invariant_of-code
invariant_of-code g c =
    let t = subst CodeRows (sym c.code.ensures) (code_keeps _ c.args.program.now.playable) in
    record { some = t.0; few = t.1; inside = t.2; classed = t.3 }

pub returns : goal.returns
returns g c =
    let program = compiled_in c.args.program.now.record.now in
    let opens = c.on.ensures.opens program (sym c.source_rows.ensures) (sym c.code.ensures) in
    record { file = c.on.ensures.file; opens = opens; agreement = promise program _ _ _ _ opens }
