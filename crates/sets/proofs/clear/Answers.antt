use Rattle.std.proofs.Common.{◌≡◌, ℕ, List, ◌++◌, drop, take, replicate, length, ap, ◌∙◌, length-take-le, arith, rules}
use Rattle.sets.specs.Words.{joined, cleared}
use Rattle.sets.proofs.clear.Goals as goal

pub returns : goal.returns
unfolding joined
returns c =
    let ss = c.args.sets.now in
    let m = c.min-n.result in
    let long : length (take m ss) ≡ m = length-take-le m ss (omega arith) in
    ap (λ (xs : List ℕ). xs ++ drop m ss) (c.fill.ensures.after (search rules) ∙ ap (λ (k : ℕ). replicate k 0) long) ∙ ap (λ (k : ℕ). cleared k ss) c.min-n.ensures
