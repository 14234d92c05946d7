use Rattle.std.proofs.Common.{refl, ◌∙◌}
use Rattle.sets.specs.Words.{members}
use Rattle.simplify.proofs.Orders.{gone_exact, gone_small}
use Rattle.simplify.proofs.removing.Removing.without.Goals as goal

pub light_without-requires : goal.light_without-requires
light_without-requires g c = let s = c.args.self.now in c.without-left.ensures ∙ gone_exact (members s.left) c.args.gone s.within

pub invariant_of-result : goal.invariant_of-result
invariant_of-result g c =
    let s = c.args.self.now in
    record { priced = s.priced; within = rw c.without-left.ensures (gone_small (members s.left) c.args.gone s.within); lit = c.light_without.ensures }

pub returns : goal.returns
returns g c = let s = c.args.self.now in (refl, refl, c.without-left.ensures ∙ gone_exact (members s.left) c.args.gone s.within)
