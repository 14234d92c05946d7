use Rattle.std.proofs.Common.{◌≡◌, ◌<◌, ◌≤◌, length, get_or, ltb, sym, ap, ◌∙◌, inl, inr, rules}
use Rattle.std.proofs.lemmas.Bool.{cases_lt, lt-ltb, le-ltb, both_ways}
use Rattle.rows.specs.declared.Row.{Row}
use Rattle.rows.specs.Rows.{next, end_row}
use Rattle.admission.proofs.Ways.{nexts_at, nexts_past}
use Rattle.admission.proofs.graph.Graph.ways.Goals as goal

pub returns-in-Some : goal.returns-in-Some
returns-in-Some c =
    let rows = c.args.self.now.rows.now in
    let i = c.args.i in
    let here : c.in-Some.row.now ≡ get_or rows i end_row = search rules in
    let inside : i < length rows = elim (cases_lt i (length rows)) [ inl l ↦ l | inr g ↦ absurd (both_ways (ltb i (length rows)) (le-ltb i (length rows) g) (sym c.in-Some.ensures.lookup.0)) ] in
    c.next.ensures ∙ ap (λ (r : Row). next i r) here ∙ sym (nexts_at i rows inside)

pub returns-in-None : goal.returns-in-None
returns-in-None c =
    let rows = c.args.self.now.rows.now in
    let i = c.args.i in
    let past : length rows ≤ i = elim (cases_lt i (length rows)) [ inl l ↦ absurd (both_ways (ltb i (length rows)) (sym c.in-None.ensures.lookup.0) (lt-ltb i (length rows) l)) | inr g ↦ g ] in
    sym (nexts_past i rows past)
