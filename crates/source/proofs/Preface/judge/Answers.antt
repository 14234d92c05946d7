use Rattle.std.proofs.Common.{get_or, sym, ◌∙◌}
use Rattle.source.proofs.Parts.{judged_none, judged_by}
use Rattle.source.proofs.Preface.judge.Goals as goal

pub returns-in_default : goal.returns-in_default
returns-in_default c = judged_none _ _ _ _ _ _ _ c.part.ensures.value c.in_default.ensures

pub returns-then-not-spare : goal.returns-then-not-spare
returns-then-not-spare c =
    (judged_by _ _ _ _ _ _ _ _ c.part.ensures.value c.in-Ok.ensures c.row_by-row.ensures).0 ∙ rw (sym c.if-not-spare.ensures)

pub returns-then-not-knows : goal.returns-then-not-knows
returns-then-not-knows c =
    (judged_by _ _ _ _ _ _ _ _ c.part.ensures.value c.in-Ok.ensures c.row_by-row.ensures).0 ∙ rw (sym c.if-not-spare.ensures, sym c.if-not-knows.ensures)

pub returns-then-not-suits : goal.returns-then-not-suits
returns-then-not-suits c =
    (judged_by _ _ _ _ _ _ _ _ c.part.ensures.value c.in-Ok.ensures c.row_by-row.ensures).0 ∙ rw (sym c.if-not-spare.ensures, sym c.if-not-knows.ensures, sym c.if-not-suits.ensures)

pub returns-then-leads_out : goal.returns-then-leads_out
returns-then-leads_out c =
    (judged_by _ _ _ _ _ _ _ _ c.part.ensures.value c.in-Ok.ensures c.row_by-row.ensures).0 ∙ rw (sym c.if-not-spare.ensures, sym c.if-not-knows.ensures, sym c.if-not-suits.ensures, sym c.if-leads_out.ensures)

pub returns : goal.returns
returns c =
    let j = judged_by c.args.self.now.head.vars c.args.self.now.head.count (λ v. get_or c.args.self.now.classes v 0) c.args.i c.args.word _ _ _ c.part.ensures.value c.in-Ok.ensures c.row_by-row.ensures in
    (j.0 ∙ rw (sym c.if-not-spare.ensures, sym c.if-not-knows.ensures, sym c.if-not-suits.ensures, sym c.if-leads_out.ensures), j.1)
