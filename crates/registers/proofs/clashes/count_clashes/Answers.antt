use Rattle.std.proofs.Common.{◌∙◌, ◌&&◌, Bool, ℕ, arith, ap, rules}
use Rattle.std.specs.List.{range_with_len}
use Rattle.std.proofs.lemmas.Iterator.{YieldsList-from_range}
use Rattle.std.proofs.lemmas.Iterator.Consumers.{YieldsList-from_filter, count_from_yields_List}
use Rattle.std.proofs.lemmas.List.Sums.{length-filter}
use Rattle.counting.specs.Counting.{count as count_of}
use Rattle.registers.proofs.Bounds.{few_clashes, q_attained}
use Rattle.registers.proofs.Ranges.{counts}
use Rattle.registers.proofs.clashes.count_clashes.Goals as goal

pub returns : goal.returns
returns g c =
    let m = g.F.RegisterFile.model c.args.file.now in
    let l = g.met.F.RegisterFile.lawful c.args.file.now in
    let n = c.registers.result in
    let t : ℕ → Bool = λ s. m.belongs s c.args.class && m.overlaps c.args.r s in
    let passed = count_from_yields_List c.filter.result c.count.result c.count.ensures.ran (YieldsList-from_filter _ t (YieldsList-from_range 0 n n (cc) (omega arith)) c.filter.ensures.closure (λ x r q k. search rules)) in
    record {
      counted = passed ∙ length-filter t (range_with_len 0 n) ∙ counts t n ∙ ap (count_of t) c.registers.ensures;
      few = few_clashes m l;
      attained = q_attained m l;
    }
