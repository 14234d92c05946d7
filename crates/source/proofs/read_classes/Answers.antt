use Rattle.std.proofs.Common.{◌≡◌, ℕ, ◌+◌, ◌-◌, ◌*◌, sym, refl, ap, ◌∙◌, arith}
use Rattle.std.proofs.lemmas.Result.{err_from_is_err_and}
use Rattle.source.specs.Reading.{vars_in, class_bytes}
use Rattle.source.proofs.Fields.{field_lt}
use Rattle.source.proofs.Parts.{classes_bad, classes_none, classes_fill, class_array, classed_bad, zeros_past, array_size, field_at, fill_short, classes_end}
use Rattle.source.proofs.read_classes.Goals as goal

pub checked_class-requires : goal.checked_class-requires
checked_class-requires c =
    let r = c.loop-v.reader in
    (omega (arith, c.requires.few, c.requires.known, c.loop-v-test.true, c.loop-v.invariant.2.size), omega (arith, c.in_ok-take.ensures.taken.1, field_lt r.file.now (8 * r.byte + r.bit) 2))

pub returns-in_err-class-clause-classed : goal.returns-in_err-class-clause-classed
returns-in_err-class-clause-classed c =
    let bs = c.args.reader.now.file.now in
    let b = c.in_err-class.ensures in
    let p = err_from_is_err_and c.from_residual-in_err-class.result c.from_residual-in_err-class.ensures.1 in
    let here = sym (c.in_ok-take.ensures.taken.1 ∙ field_at _ bs _ (16 + 2 * c.loop-v.v) 2 2 c.loop-v.invariant.0 c.loop-v.invariant.1 refl) ∙ b.0 in
    let bad = classes_bad bs c.loop-v.v (omega (arith, c.loop-v-test.true, c.loop-v.invariant.2.size)) c.loop-v.invariant.2.small here in
    classed_bad bs c.from_residual-in_err-class.result p.0 c.loop-v.v _ bad (p.2 ∙ b.1) p.1

pub returns-then-branch-ne0-clause-classed : goal.returns-then-branch-ne0-clause-classed
returns-then-branch-ne0-clause-classed c =
    let bs = c.args.reader.now.file.now in
    let t = c.in_ok-take-2.ensures in
    let all : c.loop-v.v ≡ vars_in bs = omega (arith, c.loop-v-test.false, c.loop-v.auto.v-end, c.loop-v.invariant.2.size) in
    let fill = sym (field_at _ bs _ (16 + 2 * vars_in bs) _ (8 * class_bytes (vars_in bs) - 2 * vars_in bs) c.loop-v.invariant.0 (c.loop-v.invariant.1 ∙ ap (λ (k : ℕ). 16 + 2 * k) all) (fill_short c.args.vars (vars_in bs) c.requires.known)) in
    classes_fill bs (λ k l. c.loop-v.invariant.2.small k (omega (arith, all, l))) (λ z. c.if-branch-ne0.true (t.taken.1 ∙ sym fill ∙ z))

pub returns-clause-classed : goal.returns-clause-classed
returns-clause-classed c =
    let bs = c.args.reader.now.file.now in
    let t = c.in_ok-take-2.ensures in
    let all : c.loop-v.v ≡ vars_in bs = omega (arith, c.loop-v-test.false, c.loop-v.auto.v-end, c.loop-v.invariant.2.size) in
    let fill = sym (field_at _ bs _ (16 + 2 * vars_in bs) _ (8 * class_bytes (vars_in bs) - 2 * vars_in bs) c.loop-v.invariant.0 (c.loop-v.invariant.1 ∙ ap (λ (k : ℕ). 16 + 2 * k) all) (fill_short c.args.vars (vars_in bs) c.requires.known)) in (
      classes_none bs (λ k l. c.loop-v.invariant.2.small k (omega (arith, all, l))) (fill ∙ sym t.taken.1 ∙ c.if-branch-ne0.false),
      class_array bs c.loop-v.class-items _ (rw (← all) c.loop-v.invariant.2) (zeros_past c.args.vars),
      classes_end (vars_in bs) _ _ _ (c.loop-v.invariant.1 ∙ ap (λ (k : ℕ). 16 + 2 * k) all) (fill_short c.args.vars (vars_in bs) c.requires.known) t.taken.2,
      array_size 64 c.args.vars 0 c.loop-v.class-items (c.loop-v.invariant.2.size ∙ sym c.requires.known) c.requires.few,
    )
