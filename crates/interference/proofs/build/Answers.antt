use Rattle.std.proofs.Common.{◌≡◌, length, [], ap, ◌∙◌, append-nil, arith}
use Rattle.std.specs.Iterator.Adapters.{rev_source, enumerate_source, enumerate_count}
use Rattle.std.specs.Slice.Iter.{iter_rest}
use Rattle.std.proofs.lemmas.Bool.{true≢false}
use Rattle.interference.proofs.Later.{after, later_none, later_all, leads_row, neighbours_none, neighbours_row, live_after_lem}
use Rattle.interference.proofs.build.Goals as goal

pub loop-i-init : goal.loop-i-init
loop-i-init c =
    let rows = c.args.lines.rows.now in
    let it = c.into_iter-i-iterator.result in
    let walk : rev_source it ≡ c.enumerate.result = ap rev_source c.into_iter-i-iterator.ensures.into_iter_gives ∙ c.rev-i-items.ensures.source in
    let all : iter_rest (enumerate_source (rev_source it)) ≡ rows = ap (λ e. iter_rest (enumerate_source e)) walk ∙ ap iter_rest c.enumerate.ensures.source ∙ c.iter.ensures.rest in
    let none = later_none rows (length rows) (omega arith) in (
      ap enumerate_count walk ∙ c.enumerate.ensures.count,
      ([], append-nil _ ∙ all),
      rw (all, none) (neighbours_none (λ r. r.others) _ c.args.edges.now c.clear.new.sets (omega arith) c.clear.ensures),
      rw (all, none) (neighbours_none (λ r. r.hard) _ c.args.hard.now c.clear-2.new.sets (omega arith) c.clear-2.ensures),
    )

pub loop-i-preserved : goal.loop-i-preserved
loop-i-preserved c =
    let rows = c.args.lines.rows.now in
    let row = c.in-Some.row.now in
    let left = iter_rest (enumerate_source (rev_source c.next.new.self)) in
    let (zero, leads, edges, hard) = c.loop-i.invariant in
    let (count, (last, number, bound)) = c.in-Some.ensures.steps in
    let i : c.in-Some.i ≡ length left = omega (arith, number, zero) in
    let live = live_after_lem rows c.args.live.now c.in-Some.i c.incoming-after.result c.requires (c.incoming-after.ensures (λ e. absurd (true≢false e))) ∙ ap (after rows) i in (
      count ∙ zero,
      (leads_row rows _ left row last leads).0,
      neighbours_row (λ r. r.others) rows left row _ _ c.loop-i.edges c.connect.new.edges (ap length last) (rw last at leads) live c.connect.ensures.edges edges,
      neighbours_row (λ r. r.hard) rows left row _ _ c.loop-i.hard c.connect.new.hard (ap length last) (rw last at leads) live c.connect.ensures.hard hard,
    )

pub connect-requires : goal.connect-requires
connect-requires c =
    let rows = c.args.lines.rows.now in
    let left = iter_rest (enumerate_source (rev_source c.next.new.self)) in
    let is = (leads_row rows _ left c.in-Some.row.now c.in-Some.ensures.steps.1.0 c.loop-i.invariant.1).1 in
    rw is (c.args.lines.tame (length left)).1

pub returns : goal.returns
returns c =
    let rows = c.args.lines.rows.now in
    let e = later_all rows (length (iter_rest (enumerate_source (rev_source c.loop-i.i-iterator)))) c.in-None.ensures.steps.1.0 in
    record { edges = rw e at c.loop-i.invariant.2; hard = rw e at c.loop-i.invariant.3 }
