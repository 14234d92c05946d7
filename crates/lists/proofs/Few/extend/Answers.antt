use Rattle.std.proofs.Common.{take, sym, ap, ◌∙◌}
use Rattle.std.proofs.lemmas.List.{append-nil, take_all}
use Rattle.lists.proofs.Few.extend.Goals as goal

pub loop-x-init : goal.loop-x-init
loop-x-init g c = sym (ap (take g.row.N) (append-nil c.args.self.now) ∙ take_all g.row.N c.args.self.now (rw (← c.len.ensures.count) c.len.ensures.fits))
