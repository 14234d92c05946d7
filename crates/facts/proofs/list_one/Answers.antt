use Rattle.std.proofs.Common.{inl, inr, arith}
use Rattle.std.proofs.lemmas.Bool.{cases_lt, lt-ltb, le-ltb}
use Rattle.std.proofs.lemmas.List.{get_or_read}
use Rattle.facts.proofs.Memory.{listing_one, listing_unheld, listing_past, listing_none}
use Rattle.facts.proofs.list_one.Goals as goal

pub returns-then-i-sets : goal.returns-then-i-sets
returns-then-i-sets c =
    let sets = c.args.sets.now in
    let i = c.args.i in
    let j = c.args.j in
    let e = get_or_read sets i c.index-sets-i.result c.if-i-sets.true c.index-sets-i.is 0 in
    elim (cases_lt j 448) [
      | inl l ↦ rw (lt-ltb j 448 l) (listing_one sets i j c.with.result (omega arith) l (rw e at c.with.ensures))
      | inr l ↦ rw (le-ltb j 448 l) (listing_unheld sets i j c.with.result (omega arith) l (rw e at c.with.ensures))
    ]

pub returns-else-i-sets : goal.returns-else-i-sets
returns-else-i-sets c =
    let sets = c.args.sets.now in
    let j = c.args.j in
    elim (cases_lt j 448) [
      | inl l ↦ rw (lt-ltb j 448 l) (listing_past sets c.args.i j (omega arith))
      | inr l ↦ rw (le-ltb j 448 l) (listing_none sets j)
    ]
