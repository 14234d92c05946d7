use Rattle.std.proofs.Common.{vec_items, codes}
use Rattle.std.proofs.lemmas.Result.{IfOk-weaker}
use Rattle.printing.specs.Texts.{numbers_text}
use Rattle.printing.specs.Calls.{state_text}
use Rattle.printing.proofs.Parts.{eight}
use Rattle.printing.proofs.calls.write_state.Goals as goal

pub returns : goal.returns
unfolding state_text
returns c =
    IfOk-weaker c.write_numbers-4.result _ _
    (λ u e.
    eight (vec_items c.args.out.now) (codes "> state ") (numbers_text c.args.source.now) (codes " ") (numbers_text c.args.code.now) (codes " ") (numbers_text c.args.bank.now) (codes " ") (numbers_text c.args.slots.now)
    c.in_ok-extend_from_slice.ensures.items
    c.in_ok-write_numbers.ensures
    c.in_ok-extend_from_slice-2.ensures.items
    c.in_ok-write_numbers-2.ensures
    c.in_ok-extend_from_slice-3.ensures.items
    c.in_ok-write_numbers-3.ensures
    c.in_ok-extend_from_slice-4.ensures.items
    e)
    c.write_numbers-4.ensures
