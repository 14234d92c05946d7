use Rattle.std.proofs.Common.{refl, arith}
use Rattle.std.proofs.lemmas.Result.{err_from_is_err_and}
use Rattle.source.specs.Results.{program_of}
use Rattle.admission.specs.Memory.{parts}
use Rattle.admission.proofs.Judging.{roomy, part_emptied, answered_short, answered_unread, answered_read, judged_err, judged_ok}
use Rattle.admission.proofs.admitted.Goals as goal

pub returns-in_err-short_part : goal.returns-in_err-short_part
returns-in_err-short_part c =
    let p = err_from_is_err_and c.from_residual.result c.from_residual.ensures.1 in
    rw (p.1, p.2) (answered_short c.args.file.now _ _ c.in_err-short_part.ensures)

pub returns-in_err-source : goal.returns-in_err-source
returns-in_err-source c =
    let p = err_from_is_err_and c.from_residual-in_err-source.result c.from_residual-in_err-source.ensures.1 in
    answered_unread c.args.file.now _ c.from_residual-in_err-source.result p.0 _ c.in_ok-short_part.ensures c.in_err-source.ensures p.1 p.2

pub returns-in_err-judged : goal.returns-in_err-judged
returns-in_err-judged c =
    let m = parts c.args.first.now c.args.second.now c.args.third.now in
    let room = roomy m c.in_ok-short_part.ensures in
    let f = c.in_err-judged.ensures in
    let a = part_emptied 512 m.first c.fact_fault-judged.new.facts c.clear.new.sets (omega arith) (omega (arith, room)) f.past.0 c.clear.ensures in
    let b = part_emptied 448 m.second c.fact_fault-judged.new.comers c.clear-2.new.sets (omega arith) (omega (arith, room)) f.past.1 c.clear-2.ensures in
    let d = part_emptied 448 m.third m.third c.clear-3.new.sets (omega arith) (omega (arith, room)) refl c.clear-3.ensures in
    let p = program_of c.in_ok-source.source in
    let r = err_from_is_err_and c.from_residual-in_err-judged.result c.from_residual-in_err-judged.ensures.1 in
    rw (r.1, r.2) (answered_read c.args.file.now m _ p _ c.in_ok-short_part.ensures c.in_ok-source.ensures (rw (a, b, d)) (judged_err p _ f.fault))

pub returns : goal.returns
returns c =
    let m = parts c.args.first.now c.args.second.now c.args.third.now in
    let room = roomy m c.in_ok-short_part.ensures in
    let f = c.in_ok-judged.ensures in
    let a = part_emptied 512 m.first c.fact_fault-judged.new.facts c.clear.new.sets (omega arith) (omega (arith, room)) f.past.0 c.clear.ensures in
    let b = part_emptied 448 m.second c.fact_fault-judged.new.comers c.clear-2.new.sets (omega arith) (omega (arith, room)) f.past.1 c.clear-2.ensures in
    let d = part_emptied 448 m.third m.third c.clear-3.new.sets (omega arith) (omega (arith, room)) refl c.clear-3.ensures in
    let p = program_of c.in_ok-source.source in
    answered_read c.args.file.now m _ p _ c.in_ok-short_part.ensures c.in_ok-source.ensures (rw (a, b, d)) (judged_ok p f.fault)
