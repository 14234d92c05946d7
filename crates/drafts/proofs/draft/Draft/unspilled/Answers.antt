use Rattle.std.proofs.Common.{◌≡◌, ℕ, Bool, not, length, sym, refl, ap, ◌∙◌, arith}
use Rattle.sets.specs.Words.{joined, members}
use Rattle.rounds.specs.Round.{those}
use Rattle.compiling.specs.Working.{unspilled, spilled}
use Rattle.drafts.specs.Drafts.{working_of}
use Rattle.drafts.proofs.Chosen.{those_with, those_same}
use Rattle.drafts.proofs.draft.Draft.unspilled.Goals as goal
use Rattle.drafts.proofs.draft.Draft.unspilled.Goals.{then-not-is_spilled, else-not-is_spilled}

pub loop-v-init : goal.loop-v-init
unfolding joined those
loop-v-init c = refl

pub loop-v-preserved : goal.loop-v-preserved
loop-v-preserved c =
    let d = c.args.self.now in
    let t : ℕ → Bool = λ v. not (spilled (working_of d).places v) in
    elim c.if-not-is_spilled.branch [
      | then-not-is_spilled w ↦
          those_with t c.loop-v.v (members c.loop-v.set) (members c.if-not-is_spilled.set) c.loop-v.invariant (ap not (sym c.is_spilled.ensures ∙ w.if-not-is_spilled.true)) (omega arith) (ap members w.set-is ∙ w.with-set.ensures)
      | else-not-is_spilled w ↦
          those_same t c.loop-v.v (members c.loop-v.set) (members c.if-not-is_spilled.set) c.loop-v.invariant (ap not (sym c.is_spilled.ensures ∙ w.if-not-is_spilled.false)) (ap members w.set-is)
    ]

pub returns : goal.returns
unfolding unspilled
returns c =
    let d = c.args.self.now in
    let n : c.loop-v.v ≡ length d.classes = omega arith in
    c.loop-v.invariant ∙ ap (those (λ v. not (spilled (working_of d).places v))) n
