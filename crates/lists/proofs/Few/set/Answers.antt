use Rattle.std.proofs.Common.{List, slice_set, ap, ◌∙◌}
use Rattle.std.proofs.Math.Seq.{take-set-lt}
use Rattle.lists.proofs.Few.set.Goals as goal

pub returns-then-i-self-clause-items : goal.returns-then-i-self-clause-items
returns-then-i-self-clause-items g c =
    take-set-lt c.self.inside.count c.self.inside.items c.args.i c.args.x c.if-i-self.true
    ∙ ap (λ (xs : List g.row.T.Denot). slice_set xs c.args.i c.args.x) c.self.view_is
