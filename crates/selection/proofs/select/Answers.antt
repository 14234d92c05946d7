use Rattle.std.proofs.Common.{◌≡◌, ℕ, ◌<◌, ◌≤◌, List, length, get_or, take, set, replicate, sym, refl, ap, subst, ◌∙◌, inl, inr, arith, length-set, rules}
use Rattle.std.proofs.lemmas.List.{get_or-replicate, length-take-le, set_past, take-replicate}
use Rattle.std.proofs.lemmas.Iterator.Adapters.{YieldsList-from_rev_slice}
use Rattle.std.proofs.lemmas.Iterator.Consumers.{YieldsList-end}
use Rattle.counting.proofs.Searches.{least_le}
use Rattle.sets.specs.Sets.{has}
use Rattle.sets.specs.Words.{members, no_set, empty_set, joined}
use Rattle.sets.proofs.Members.{has_none}
use Rattle.registers.specs.Model.{Model}
use Rattle.rounds.specs.Interference.{beside}
use Rattle.rounds.specs.Select.{choice, selected}
use Rattle.selection.specs.Occupants.{vacant, Settled}
use Rattle.selection.proofs.Selecting.{lowest_taken, nobody, lowest_choice, occupied_more, take_of_set, selected_step, from_the_last}
use Rattle.selection.proofs.select.Goals as goal

pub loop-removed-init : goal.loop-removed-init
unfolding selected joined
loop-removed-init g c =
    let m = g.F.RegisterFile.model c.args.file.now in
    let lawful = g.met.F.RegisterFile.lawful c.args.file.now in
    let n = length c.args.classes.now in
    let none = c.registers-none.ensures in
    let fresh : n ≤ 448 → take n (replicate 448 c.registers-none.result) ≡ replicate n m.count = λ few. take-replicate n 448 c.registers-none.result few ∙ ap (replicate n) none in
    record {
      file = refl;
      sized = refl;
      taken = λ few graph ec ee. fresh few ∙ ap (λ (cs : List ℕ). replicate (length cs) m.count) (sym ec);
      held = λ few r k l h.
          let bare : get_or (replicate 64 empty_set) r no_set ≡ empty_set = get_or-replicate 64 r empty_set no_set (omega (arith, lawful.few)) in
          ap (λ s. has (members s) k) bare ∙ has_none k ∙ sym (nobody m lawful n k (take n (replicate 448 c.registers-none.result)) r (fresh few));
    }

pub overflow_cast-registers : goal.overflow_cast-registers
overflow_cast-registers g c = omega (arith, c.registers-none.ensures, (g.met.F.RegisterFile.lawful c.args.file.now).few)

pub overflow_cast-registers-then-v-classes : goal.overflow_cast-registers-then-v-classes
overflow_cast-registers-then-v-classes g c =
    let m = g.F.RegisterFile.model c.args.file.now in
    let lawful = g.met.F.RegisterFile.lawful c.args.file.now in
    let class = get_or c.args.classes.now c.in-Some.removed.now.node 0 in
    let same = ap g.F.RegisterFile.model c.loop-removed.invariant.file in
    let lowest = lowest_taken m _ c.loop-removed.occupants.sets class (members c.beside.result) _ c.unwrap_or-s.result _ same c.lowest_vacant-vacant.ensures c.registers-none.ensures c.unwrap_or-s.ensures in
    omega (arith, lawful.few, lowest, least_le (vacant m c.loop-removed.occupants.sets class (members c.beside.result)) m.count)

pub loop-removed-preserved-then-v-classes : goal.loop-removed-preserved-then-v-classes
loop-removed-preserved-then-v-classes g c =
    let m = g.F.RegisterFile.model c.args.file.now in
    let lawful = g.met.F.RegisterFile.lawful c.args.file.now in
    let classes = c.args.classes.now in
    let n = length classes in
    let v = c.in-Some.removed.now.node in
    let s = c.unwrap_or-s.result in
    let was = c.loop-removed.occupants.sets in
    let taken = take n c.loop-removed.registers in
    let inside : v < n = c.if-v-classes.true in
    let moved = take_of_set n c.loop-removed.registers v s in
    let sized : n ≤ 448 → length taken ≡ n = λ few. length-take-le n c.loop-removed.registers (omega (arith, c.loop-removed.invariant.sized)) in
    let same = ap g.F.RegisterFile.model c.loop-removed.invariant.file in
    let lowest = lowest_taken m _ was (get_or classes v 0) (members c.beside.result) _ s _ same c.lowest_vacant-vacant.ensures c.registers-none.ensures c.unwrap_or-s.ensures in
    let settled : Settled m v s was c.settle.new.self.sets = subst (λ (d : Model). Settled d v s was c.settle.new.self.sets) same c.settle.ensures.settled in
    record {
      file = ap (λ (b : _). b.now) c.settle.ensures.file ∙ c.loop-removed.invariant.file;
      sized = simp length-set c.loop-removed.invariant.sized;
      taken = λ few graph ec ee.
          let size = sized few in
          let near = c.beside.ensures ∙ ap (λ es. beside es v) (sym ee) in
          let chosen : s ≡ choice m graph taken v =
          lowest_choice m lawful graph taken was (size ∙ ap length (sym ec)) (omega arith) (c.loop-removed.invariant.held few)
          v (get_or classes v 0) (members c.beside.result) s (ap (λ (cs : List ℕ). get_or cs v 0) (sym ec)) near lowest in
          selected_step m graph (λ r. r.now) c.loop-removed.yielded c.in-Some.removed taken (take n (set c.loop-removed.registers v s)) (c.loop-removed.invariant.taken few graph ec ee) (moved ∙ ap (set taken v) chosen);
      held = λ few.
          let size = sized few in
          rw moved (occupied_more m taken was c.settle.new.self.sets v s (omega arith) (c.loop-removed.invariant.held few) settled);
    }

pub loop-removed-preserved : goal.loop-removed-preserved
loop-removed-preserved g c =
    let m = g.F.RegisterFile.model c.args.file.now in
    let n = length c.args.classes.now in
    let v = c.in-Some.removed.now.node in
    let taken = take n c.loop-removed.registers in
    let past : n ≤ 448 → n ≤ v = λ few. elim c.else-v-lt448.either [ inl h ↦ omega arith | inr h ↦ omega arith ] in
    record {
      file = c.loop-removed.invariant.file;
      sized = c.loop-removed.invariant.sized;
      taken = λ few graph ec ee.
          let size : length taken ≡ n = length-take-le n c.loop-removed.registers (omega (arith, c.loop-removed.invariant.sized)) in
          selected_step m graph (λ r. r.now) c.loop-removed.yielded c.in-Some.removed taken taken (c.loop-removed.invariant.taken few graph ec ee) (sym (set_past taken v (choice m graph taken v) (omega (arith, past few))));
      held = c.loop-removed.invariant.held;
    }

pub returns : goal.returns
returns g c = λ few graph ec ee.
    let seen = YieldsList-end (YieldsList-from_rev_slice c.args.order.now (search rules)) c.loop-removed.yielded _ c.loop-removed.yielded_by _ _ c.in-None.is c.next.ensures.steps in
    rw (from_the_last _ c.args.order.now seen.0) at (c.loop-removed.invariant.taken few graph ec ee)
