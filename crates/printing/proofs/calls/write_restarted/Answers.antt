use Rattle.std.proofs.Common.{vec_items, codes, decimal}
use Rattle.printing.specs.Texts.{numbers_text}
use Rattle.printing.specs.Calls.{restarted_text}
use Rattle.printing.proofs.Parts.{five}
use Rattle.printing.proofs.calls.write_restarted.Goals as goal

pub returns : goal.returns
unfolding restarted_text
returns c =
    five (vec_items c.args.out.now) (codes "> restart ") (decimal c.args.count) (codes " ") (numbers_text c.args.input.now) (codes " ok")
    c.in_ok-extend_from_slice.ensures.items
    c.in_ok-write_number.ensures
    c.in_ok-extend_from_slice-2.ensures.items
    c.in_ok-write_numbers.ensures
    c.in_ok-extend_from_slice-3.ensures.items
