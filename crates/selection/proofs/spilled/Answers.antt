use Rattle.std.proofs.Common.{◌≡◌, ℕ, Bool, true, false, not, ◌&&◌, ltb, get_or, sym, ap, ◌∙◌, arith}
use Rattle.std.proofs.lemmas.List.{get_or_default}
use Rattle.std.proofs.lemmas.Bool.{lt-ltb, le-ltb, and_from, and_left, and_right}
use Rattle.sets.specs.Sets.{has, union, single}
use Rattle.sets.specs.Words.{members, joined}
use Rattle.rounds.specs.Select.{register_of}
use Rattle.rounds.specs.Round.{those}
use Rattle.selection.proofs.Selecting.{those_yes, those_no}
use Rattle.selection.proofs.spilled.Goals as goal
use Rattle.selection.proofs.spilled.Goals.{then-contains+then-r-count, else-contains, else-contains-via-then-contains+else-r-count, else-contains-via-else-contains}

pub loop-v-init : goal.loop-v-init
unfolding joined those
loop-v-init g c = λ few. rw c.empty-without.ensures

pub loop-v-preserved : goal.loop-v-preserved
loop-v-preserved g c = λ few.
    let m = g.F.RegisterFile.model c.args.file.now in
    let v = c.loop-v.v in
    let nodes = members c.args.nodes in
    let t : ℕ → Bool = λ v. has nodes v && not (ltb (register_of m c.args.registers.now v) m.count) in
    let read : register_of m c.args.registers.now v ≡ get_or c.args.registers.now v 0 = get_or_default c.args.registers.now v m.count 0 (omega arith) in
    elim c.if-contains.branch [
      | then-contains+then-r-count w ↦
          let hit : t v ≡ true =
          and_from (has nodes v) (not (ltb (register_of m c.args.registers.now v) m.count)) (sym {b = has nodes v} w.if-contains.ensures)
          (ap not (le-ltb (register_of m c.args.registers.now v) m.count (omega (arith, read, c.registers-count.ensures)))) in
          let more : members c.if-contains.without ≡ union (members c.loop-v.without) (single v) = ap members w.without-is ∙ w.with-without.ensures ∙ rw (lt-ltb v 448 (omega arith)) in
          those_yes t v (members c.loop-v.without) (members c.if-contains.without) hit (c.loop-v.invariant few) more
      | else-contains w ↦
          let miss : t v ≡ false = elim w.else-contains.branch [
            | else-contains-via-then-contains+else-r-count w' ↦
                and_right (has nodes v) (not (ltb (register_of m c.args.registers.now v) m.count))
                (ap not (lt-ltb (register_of m c.args.registers.now v) m.count (omega (arith, read, c.registers-count.ensures))))
            | else-contains-via-else-contains w' ↦ and_left (has nodes v) (not (ltb (register_of m c.args.registers.now v) m.count)) (sym {b = has nodes v} w'.if-contains.ensures)
          ] in
          ap members w.without-is ∙ those_no t v (members c.loop-v.without) miss (c.loop-v.invariant few)
    ]
