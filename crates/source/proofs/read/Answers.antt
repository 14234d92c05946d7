use Rattle.std.proofs.Common.{◌-◌, sym, ap, ◌∙◌, arith}
use Rattle.std.proofs.lemmas.Result.{err_from_is_err_and}
use Rattle.rows.specs.declared.Row.{Row}
use Rattle.rows.specs.Rows.{shape}
use Rattle.source.proofs.Rows.{read_err, reading_header, reading_class, reading_rows, reading_last, reading_fine}
use Rattle.source.proofs.read.Goals as goal

pub returns-in_err-head : goal.returns-in_err-head
returns-in_err-head c =
    let bs = c.args.file.now in
    let p = err_from_is_err_and c.from_residual.result c.from_residual.ensures.1 in
    let header = rw c.over-reader.ensures.whole at c.in_err-head.ensures.headed in
    read_err bs c.from_residual.result p.0 _ p.1 p.2 (reading_header bs _ header)

pub returns-in_err-classes : goal.returns-in_err-classes
returns-in_err-classes c =
    let bs = c.args.file.now in
    let p = err_from_is_err_and c.from_residual-in_err-classes.result c.from_residual-in_err-classes.ensures.1 in
    let h = c.in_ok-head.ensures in
    let header = rw c.over-reader.ensures.whole at h.headed.0 in
    let class = rw (h.whole ∙ c.over-reader.ensures.whole) at c.in_err-classes.ensures.classed in
    read_err bs c.from_residual-in_err-classes.result p.0 _ p.1 p.2 (reading_class bs _ header class)

pub returns-in_err-rows : goal.returns-in_err-rows
returns-in_err-rows c =
    let bs = c.args.file.now in
    let p = err_from_is_err_and c.from_residual-in_err-rows.result c.from_residual-in_err-rows.ensures.1 in
    let h = c.in_ok-head.ensures in
    let k = c.in_ok-classes.ensures in
    let header = rw c.over-reader.ensures.whole at h.headed.0 in
    let class = rw (h.whole ∙ c.over-reader.ensures.whole) at k.classed.0 in
    let rows = rw (k.whole ∙ h.whole ∙ c.over-reader.ensures.whole) at c.in_err-rows.ensures in
    read_err bs c.from_residual-in_err-rows.result p.0 _ p.1 p.2 (reading_rows bs _ header class rows)

pub returns-then-shape : goal.returns-then-shape
returns-then-shape c =
    let bs = c.args.file.now in
    let h = c.in_ok-head.ensures in
    let k = c.in_ok-classes.ensures in
    let n = c.in_ok-head.head.count in
    let header = rw c.over-reader.ensures.whole at h.headed.0 in
    let heads = rw c.over-reader.ensures.whole at h.headed.1 in
    let class = rw (h.whole ∙ c.over-reader.ensures.whole) at k.classed.0 in
    let rows = rw (k.whole ∙ h.whole ∙ c.over-reader.ensures.whole) at c.in_ok-rows.ensures in
    let last = rows.1 (n - 1) (omega (arith, heads.count, c.in_ok-head.head.some)) in
    let falls = sym (ap (λ (r : Row). (shape r.op).falls) last) ∙ sym (ap (λ s. s.falls) c.shape.ensures) ∙ c.if-shape.true in
    sym (reading_last bs n header class rows.0 heads.count falls)

pub returns : goal.returns
returns c =
    let bs = c.args.file.now in
    let h = c.in_ok-head.ensures in
    let k = c.in_ok-classes.ensures in
    let n = c.in_ok-head.head.count in
    let header = rw c.over-reader.ensures.whole at h.headed.0 in
    let heads = rw c.over-reader.ensures.whole at h.headed.1 in
    let class = rw (h.whole ∙ c.over-reader.ensures.whole) at k.classed in
    let rows = rw (k.whole ∙ h.whole ∙ c.over-reader.ensures.whole) at c.in_ok-rows.ensures in
    let last = rows.1 (n - 1) (omega (arith, heads.count, c.in_ok-head.head.some)) in
    let falls = sym (ap (λ (r : Row). (shape r.op).falls) last) ∙ sym (ap (λ s. s.falls) c.shape.ensures) ∙ c.if-shape.false in
    reading_fine bs c.in_ok-classes.classes c.in_ok-rows.rows c.in_ok-head.head header class.0 rows.0 heads class.1 class.3 rows.1 rows.2 falls
