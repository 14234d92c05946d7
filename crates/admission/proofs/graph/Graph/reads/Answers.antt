use Rattle.std.proofs.Common.{◌≤◌, length, ltb, sym, ap, ◌∙◌, inl, inr}
use Rattle.std.proofs.lemmas.List.{get_or_past}
use Rattle.std.proofs.lemmas.Bool.{cases_lt, lt-ltb, both_ways}
use Rattle.rows.specs.declared.Row.{Row}
use Rattle.rows.specs.Rows.{reads, set_of, end_row}
use Rattle.rows.proofs.Fields.{set_none}
use Rattle.admission.proofs.graph.Graph.reads.Goals as goal

pub returns-in-None : goal.returns-in-None
returns-in-None c =
    let rows = c.args.self.now.rows.now in
    let i = c.args.i in
    let past : length rows ≤ i = elim (cases_lt i (length rows)) [ inl l ↦ absurd (both_ways (ltb i (length rows)) (sym c.in-None.ensures.lookup.0) (lt-ltb i (length rows) l)) | inr g ↦ g ] in
    c.empty.ensures ∙ sym set_none ∙ sym (ap (λ (r : Row). set_of (reads r)) (get_or_past rows i end_row past))
