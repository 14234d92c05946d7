use Rattle.std.proofs.Common.{vec_items, codes, decimal}
use Rattle.std.proofs.lemmas.Result.{IfOk-weaker}
use Rattle.printing.specs.Calls.{played_text}
use Rattle.printing.proofs.Parts.{eight}
use Rattle.printing.proofs.calls.write_played.Goals as goal

pub returns : goal.returns
unfolding played_text
returns c =
    IfOk-weaker c.write_number-3.result _ _
    (λ u e.
    eight (vec_items c.args.out.now) (codes "> ") c.args.call.now (codes " ") (decimal c.args.asked) (codes " ") (decimal c.args.rows) (codes " ") (decimal c.args.outcome)
    c.in_ok-extend_from_slice.ensures.items
    c.in_ok-extend_from_slice-2.ensures.items
    c.in_ok-extend_from_slice-3.ensures.items
    c.in_ok-write_number.ensures
    c.in_ok-extend_from_slice-4.ensures.items
    c.in_ok-write_number-2.ensures
    c.in_ok-extend_from_slice-5.ensures.items
    e)
    c.write_number-3.ensures
