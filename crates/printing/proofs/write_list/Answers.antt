use Rattle.std.proofs.Common.{◌-◌, length, take, drop, vec_items, ◌∙◌, arith}
use Rattle.std.proofs.lemmas.List.{take_all, take_rest}
use Rattle.printing.proofs.Lists.{behind_more, joined_first}
use Rattle.printing.proofs.write_list.Goals as goal

pub loop-x-preserved : goal.loop-x-preserved
loop-x-preserved g c =
    let rest = take (length c.args.xs.now - 1) (drop 1 c.args.xs.now) in
    behind_more c.args.mark g.T.Told.text (vec_items c.tell.new.out) rest c.loop-x.x-index c.x-item.result {y = vec_items c.push.new.self} c.loop-x-test.true c.x-item.is
    c.loop-x.invariant
    c.in_ok-push-in-len1-up.ensures.items
    c.in_ok-tell-in-len1-up-2.ensures

pub returns-after-loop-x : goal.returns-after-loop-x
returns-after-loop-x g c =
    let rest = take (length c.args.xs.now - 1) (drop 1 c.args.xs.now) in
    joined_first c.args.mark c.args.none.now g.T.Told.text (vec_items c.args.out.now) c.args.xs.now c.first-item.result (omega arith) c.first-item.is
    (take_all c.loop-x.x-index rest c.loop-x-test.false ∙ take_rest c.args.xs.now 1)
    c.in_ok-tell-in-len1-up.ensures
    c.loop-x.invariant
