use Rattle.std.proofs.Common.{◌≡◌, ◌++◌, take, vec_items}
use Rattle.printing.specs.Texts.{behind}
use Rattle.printing.proofs.write_list.Given as goal

abbrev pub invariant-loop-x : goal.invariant-loop-x
invariant-loop-x g l = vec_items l.out ≡ vec_items l.initial.out ++ behind l.mark g.T.Told.text (take l.x-index l.rest)
