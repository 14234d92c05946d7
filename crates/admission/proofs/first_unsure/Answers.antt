use Rattle.std.proofs.Common.{ℕ, ◌≤◌, true, false, not, eqb, length, is_ok, sym, refl, ap, ◌∙◌, arith, below_more}
use Rattle.sets.specs.Sets.{minus}
use Rattle.facts.specs.Flow.{rows as rows_of}
use Rattle.admission.specs.Kinds.{initialisation, sure}
use Rattle.admission.proofs.Ways.{nexts_length}
use Rattle.admission.proofs.Judging.{settled, further, sure_at, earliest_is, earliest_none}
use Rattle.admission.proofs.first_unsure.Goals as goal

pub returns-then-not-is_empty : goal.returns-then-not-is_empty
returns-then-not-is_empty c =
    let rs = c.args.graph.rows.now in
    let vars = c.args.vars in
    let few : rows_of (initialisation vars rs) ≤ 128 = omega (arith, nexts_length 0 rs, c.requires.0) in
    let s = settled (initialisation vars rs) (is_ok c.solve.result) _ _ _ _ refl few c.requires.1.1.0 c.requires.1.1.1 c.solve.ensures.room c.solve.ensures.answer in
    let left = c.minus.ensures ∙ ap (λ (x : ℕ). minus x c.incoming-written.result) c.reads.ensures in
    let unsure = sure_at vars rs c.solve.new.facts c.incoming-written.result c.loop-i.i false s.facts (c.incoming-written.ensures s.tells) (c.if-not-is_empty.ensures ∙ ap (λ (x : ℕ). eqb x 0) left) in
    record {
      row = earliest_is (λ i. not (sure vars rs i)) (length rs) c.loop-i.i c.loop-i-test.true c.loop-i.invariant (ap not (sym unsure));
      past = (further (rows_of (initialisation vars rs)) _ _ few s.past, further (rows_of (initialisation vars rs)) _ _ few s.untouched);
    }

pub loop-i-preserved : goal.loop-i-preserved
loop-i-preserved c =
    let rs = c.args.graph.rows.now in
    let vars = c.args.vars in
    let few : rows_of (initialisation vars rs) ≤ 128 = omega (arith, nexts_length 0 rs, c.requires.0) in
    let s = settled (initialisation vars rs) (is_ok c.solve.result) _ _ _ _ refl few c.requires.1.1.0 c.requires.1.1.1 c.solve.ensures.room c.solve.ensures.answer in
    let left = c.minus.ensures ∙ ap (λ (x : ℕ). minus x c.incoming-written.result) c.reads.ensures in
    below_more _ _ c.loop-i.invariant
    (ap not (sym (sure_at vars rs c.solve.new.facts c.incoming-written.result c.loop-i.i true s.facts (c.incoming-written.ensures s.tells) (c.if-not-is_empty.ensures ∙ ap (λ (x : ℕ). eqb x 0) left))))

pub returns : goal.returns
returns c =
    let rs = c.args.graph.rows.now in
    let vars = c.args.vars in
    let few : rows_of (initialisation vars rs) ≤ 128 = omega (arith, nexts_length 0 rs, c.requires.0) in
    let s = settled (initialisation vars rs) (is_ok c.solve.result) _ _ _ _ refl few c.requires.1.1.0 c.requires.1.1.1 c.solve.ensures.room c.solve.ensures.answer in
    record {
      row = earliest_none (λ i. not (sure vars rs i)) (length rs) (λ k h. c.loop-i.invariant k (omega arith));
      past = (further (rows_of (initialisation vars rs)) _ _ few s.past, further (rows_of (initialisation vars rs)) _ _ few s.untouched);
    }
