use Rattle.std.proofs.Common.{◌≡◌, ℕ, ◌+◌, get_or, take, sym, ap, ◌∙◌, arith}
use Rattle.std.proofs.lemmas.List.{get_or_default}
use Rattle.std.proofs.lemmas.Nat.{mul-le}
use Rattle.sets.specs.Sets.{has, size}
use Rattle.sets.specs.Words.{members}
use Rattle.sets.proofs.Orders.{size_capped}
use Rattle.registers.specs.Model.{Model}
use Rattle.graphs.specs.declared.variables.Variables.{Variables}
use Rattle.graphs.proofs.Pressing.{pressed, pressed_few, pressed_none, pressed_more, pressed_all, near_is}
use Rattle.graphs.proofs.Weighing.pressure.Goals as goal

pub loop-c-init : goal.loop-c-init
loop-c-init g c =
    sym (pressed_none (g.F.RegisterFile.model c.args.self.now.file.now) c.args.self.now.variables.now.classes c.args.self.now.variables.now.count c.class-b.result (has (members c.args.by)))

pub overflow_mul-total : goal.overflow_mul-total
overflow_mul-total g c =
    let few = size_capped 448 (members c.meet.result) in
    omega (arith, mul-le c.q.result c.len-near.result 255 448 (omega arith) (omega (arith, few, c.len-near.ensures)))

pub loop-c-preserved : goal.loop-c-preserved
loop-c-preserved g c =
    let m : Model = g.F.RegisterFile.model c.args.self.now.file.now in
    let vs : Variables = c.args.self.now.variables.now in
    let j : ℕ = c.loop-c.c in
    let near = c.len-near.ensures ∙ ap (size 448) c.meet.ensures
    ∙ near_is c.args.by (get_or vs.masks j c.mask-item.result) vs.classes vs.count j (λ k. ap (λ (s : ℕ). has s k) (get_or_default vs.masks j c.mask-item.result 0 (omega (arith, vs.whole.1))) ∙ vs.masked j k (omega arith)) in
    let more = pressed_more m vs.classes vs.count c.class-b.result (has (members c.args.by)) j c.len-near.result near in
    rw (c.q.ensures, c.loop-c.invariant) (sym more)

pub overflow_add-total : goal.overflow_add-total
overflow_add-total g c =
    omega (
      arith,
      loop-c-preserved g c,
      pressed_few (g.F.RegisterFile.model c.args.self.now.file.now) (g.met.F.RegisterFile.lawful c.args.self.now.file.now) c.args.self.now.variables.now.classes
          c.args.self.now.variables.now.count c.class-b.result (has (members c.args.by)) (c.loop-c.c + 1),
    )

pub returns : goal.returns
returns g c =
    let m : Model = g.F.RegisterFile.model c.args.self.now.file.now in
    let l = g.met.F.RegisterFile.lawful c.args.self.now.file.now in
    let vs : Variables = c.args.self.now.variables.now in
    let t = has (members c.args.by) in
    let three : c.loop-c.c ≡ 3 = omega arith in
    let all = c.loop-c.invariant ∙ ap (pressed m vs.classes vs.count c.class-b.result t) three
    ∙ ap (λ (b : ℕ). pressed m vs.classes vs.count b t 3) c.class-b.ensures in
    record {
      exact = λ gr e. all ∙ pressed_all m l gr vs.classes vs.count c.args.v t vs.few.1 (omega (arith, vs.few.1, vs.whole.0)) e;
      small = omega (arith, all, pressed_few m l vs.classes vs.count (get_or (take vs.count vs.classes) c.args.v 0) t 3);
    }
