use Rattle.std.proofs.Common.{vec_items, codes, decimal}
use Rattle.std.proofs.lemmas.Result.{IfOk-weaker}
use Rattle.printing.specs.Texts.{places_text, rows_text, compiled_text}
use Rattle.printing.proofs.Parts.{eight}
use Rattle.printing.proofs.write_compiled.Goals as goal

pub returns : goal.returns
unfolding compiled_text
returns c =
    IfOk-weaker c.write_rows.result _ _
    (λ u e.
    eight (vec_items c.args.out.now) (codes "compiled rounds=") (decimal c.args.rounds) (codes " slots=") (decimal c.args.slots) (codes " vars=") (places_text c.args.places.now) (codes " code=") (rows_text c.args.rows.now)
    c.in_ok-extend_from_slice.ensures.items
    c.in_ok-write_number.ensures
    c.in_ok-extend_from_slice-2.ensures.items
    c.in_ok-write_number-2.ensures
    c.in_ok-extend_from_slice-3.ensures.items
    c.in_ok-write_places.ensures
    c.in_ok-extend_from_slice-4.ensures.items
    e)
    c.write_rows.ensures
