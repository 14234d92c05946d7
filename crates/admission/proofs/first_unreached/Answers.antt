use Rattle.std.proofs.Common.{◌≡◌, ℕ, ◌≤◌, ◌<◌, true, false, not, eqb, length, get_or, take, is_ok, sym, refl, ap, ◌∙◌, arith, below_more, length-take-le}
use Rattle.std.proofs.lemmas.List.{get_or_read, get_or-take}
use Rattle.facts.specs.Flow.{rows as rows_of}
use Rattle.admission.specs.Kinds.{reach, reached}
use Rattle.admission.proofs.Ways.{nexts_length}
use Rattle.admission.proofs.Judging.{settled, further, unreached_at, earliest_is, earliest_none}
use Rattle.admission.proofs.first_unreached.Goals as goal

pub returns-then-is_empty : goal.returns-then-is_empty
returns-then-is_empty c =
    let rs = c.args.graph.rows.now in
    let facts = c.solve.new.facts in
    let i = c.loop-i.i in
    let few : rows_of (reach rs) ≤ 128 = omega (arith, nexts_length 0 rs, c.requires.0) in
    let s = settled (reach rs) (is_ok c.solve.result) _ _ _ _ refl few c.requires.1.0 c.requires.1.1 c.solve.ensures.room c.solve.ensures.answer in
    let room : length rs ≤ length facts = omega arith in
    let long = length-take-le (length rs) facts room in
    let inside : i < length (take (length rs) facts) = omega (arith, long, c.loop-i-test.true) in
    let lt : i < length rs = omega (arith, long, inside) in
    let here : c.fact-item.result ≡ get_or facts i 0 = get_or_read (take (length rs) facts) i c.fact-item.result inside c.fact-item.is 0 ∙ get_or-take (length rs) facts i 0 lt in
    let lost = unreached_at rs facts i true lt room s.facts (c.if-is_empty.ensures ∙ ap (λ (x : ℕ). eqb x 0) here) in
    record {
      row = earliest_is (λ i. not (reached rs i)) (length rs) i lt c.loop-i.invariant (sym lost);
      past = (further (rows_of (reach rs)) _ _ few s.past, further (rows_of (reach rs)) _ _ few s.untouched);
    }

pub loop-i-preserved : goal.loop-i-preserved
loop-i-preserved c =
    let rs = c.args.graph.rows.now in
    let facts = c.solve.new.facts in
    let i = c.loop-i.i in
    let few : rows_of (reach rs) ≤ 128 = omega (arith, nexts_length 0 rs, c.requires.0) in
    let s = settled (reach rs) (is_ok c.solve.result) _ _ _ _ refl few c.requires.1.0 c.requires.1.1 c.solve.ensures.room c.solve.ensures.answer in
    let room : length rs ≤ length facts = omega arith in
    let long = length-take-le (length rs) facts room in
    let inside : i < length (take (length rs) facts) = omega (arith, long, c.loop-i-test.true) in
    let lt : i < length rs = omega (arith, long, inside) in
    let here : c.fact-item.result ≡ get_or facts i 0 = get_or_read (take (length rs) facts) i c.fact-item.result inside c.fact-item.is 0 ∙ get_or-take (length rs) facts i 0 lt in
    below_more _ _ c.loop-i.invariant (sym (unreached_at rs facts i false lt room s.facts (c.if-is_empty.ensures ∙ ap (λ (x : ℕ). eqb x 0) here)))

pub returns : goal.returns
returns c =
    let rs = c.args.graph.rows.now in
    let facts = c.solve.new.facts in
    let few : rows_of (reach rs) ≤ 128 = omega (arith, nexts_length 0 rs, c.requires.0) in
    let s = settled (reach rs) (is_ok c.solve.result) _ _ _ _ refl few c.requires.1.0 c.requires.1.1 c.solve.ensures.room c.solve.ensures.answer in
    let room : length rs ≤ length facts = omega arith in
    let long = length-take-le (length rs) facts room in
    record {
      row = earliest_none (λ i. not (reached rs i)) (length rs) (λ k h. c.loop-i.invariant k (omega (arith, long, h, c.loop-i-test.false)));
      past = (further (rows_of (reach rs)) _ _ few s.past, further (rows_of (reach rs)) _ _ few s.untouched);
    }
