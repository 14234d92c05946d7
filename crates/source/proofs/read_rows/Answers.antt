use Rattle.std.proofs.Common.{◌≡◌, Err, sym, refl, ◌∙◌, arith}
use Rattle.std.proofs.lemmas.List.{get_or_append_left}
use Rattle.std.proofs.lemmas.Result.{err_from_is_err_and}
use Rattle.rows.specs.Rows.{end_row}
use Rattle.source.specs.Reading.{row_place}
use Rattle.source.proofs.Parts.{field_at, array_size}
use Rattle.source.proofs.Rows.{row_judged, rowed_bad, rowed_good, rowed_err}
use Rattle.source.proofs.read_rows.Goals as goal

pub returns-in_err-row : goal.returns-in_err-row
returns-in_err-row c =
    let bs = c.args.reader.now.file.now in
    let p = err_from_is_err_and c.from_residual-in_err-row.result c.from_residual-in_err-row.ensures.1 in
    let word = c.in_ok-take.ensures.taken.1 ∙ field_at _ bs _ (row_place bs c.loop-i.i) 32 32 c.loop-i.invariant.0 c.loop-i.invariant.1 refl in
    let at = row_judged bs c.args.preface.now.classes c.args.preface.now.head c.loop-i.i c.in_ok-take.field-0 (Err c.in_err-row.field-0.0) c.requires.heads c.requires.classed word c.in_err-row.ensures in
    rowed_err bs c.from_residual-in_err-row.result _ p.0 (rowed_bad bs c.loop-i.row-items c.loop-i.i _ (omega (arith, c.loop-i-test.true, c.loop-i.invariant.2.size)) c.loop-i.invariant.2 at) p.2 p.1

pub returns : goal.returns
returns c =
    let bs = c.args.reader.now.file.now in
    let all : c.loop-i.i ≡ c.args.preface.now.head.count = omega (arith, c.loop-i-test.false, c.loop-i.auto.i-end, c.loop-i.invariant.2.size, c.requires.heads.count) in (
      rowed_good bs c.loop-i.row-items c.loop-i.i (all ∙ c.requires.heads.count) c.loop-i.invariant.2,
      λ k l. get_or_append_left c.loop-i.row-items _ end_row k (omega (arith, c.loop-i.invariant.2.size, l)) ∙ c.loop-i.invariant.2.same k (omega (arith, all, c.requires.heads.count, l)),
      array_size 128 c.args.preface.now.head.count end_row c.loop-i.row-items (c.loop-i.invariant.2.size ∙ sym c.requires.heads.count) c.args.preface.now.head.most,
    )
