use Rattle.std.proofs.Common.{rules, ◌≡◌, ℕ, ◌<◌, length, get_or, drop, Some, None, Option, sym, ◌∙◌, arith}
use Rattle.std.proofs.lemmas.List.{at_drop_more, at_drop_all}
use Rattle.numerals.specs.Numerals.{number_from}
use Rattle.numerals.proofs.Digits.{with_digit, digit_more, digit_small, digit_stop, digits_end, number_none, number_some}
use Rattle.numerals.proofs.number.Goals as goal

pub returns-then-is_empty : goal.returns-then-is_empty
returns-then-is_empty c =
    let none : length c.args.word.now ≡ 0 = search rules in
    sym (number_none c.args.word.now none)

pub loop-b-preserved : goal.loop-b-preserved
loop-b-preserved c =
    let w = c.args.word.now in
    let i = c.loop-b.b-index in
    let n = c.loop-b.n in
    let more : Some c.in_ok-n.n ≡ with_digit n (get_or w i 0) = search rules in (
      sym (at_drop_more (number_from n) w i 0 c.loop-b-test.true ∙ digit_more n (get_or w i 0) _ (drop _ w) more) ∙ c.loop-b.invariant.0,
      digit_small n (get_or w i 0) _ more,
    )

pub returns-in_err-n : goal.returns-in_err-n
returns-in_err-n c =
    let w = c.args.word.now in
    let i = c.loop-b.b-index in
    let n = c.loop-b.n in
    let some : 0 < length w = omega (arith, c.loop-b-test.true) in
    let stop : ◌≡◌ {A = Option ℕ} None (with_digit n (get_or w i 0)) = search rules in
    let none : c.from_residual.result ≡ None = search rules in
    none ∙ (sym (at_drop_more (number_from n) w i 0 c.loop-b-test.true ∙ digit_stop n (get_or w i 0) (drop _ w) stop)
    ∙ (c.loop-b.invariant.0 ∙ sym (number_some w some)))

pub returns : goal.returns
returns c =
    let w = c.args.word.now in
    let i = c.loop-b.b-index in
    let n = c.loop-b.n in
    let some : 0 < length w = search rules in
    sym (at_drop_all (number_from n) w i c.loop-b-test.false ∙ digits_end n c.loop-b.invariant.1)
    ∙ (c.loop-b.invariant.0 ∙ sym (number_some w some))
