use Rattle.std.proofs.Common.{◌≡◌, ℕ, eqb, length, get_or, ap, ◌∙◌, arith}
use Rattle.std.proofs.lemmas.Bool.{eq-eqb, ne_eqb}
use Rattle.sets.specs.Sets.{has}
use Rattle.sets.specs.Words.{joined, members}
use Rattle.graphs.proofs.Masks.{mask_none, mask_yes, mask_no}
use Rattle.graphs.proofs.mask.Goals as goal
use Rattle.graphs.proofs.mask.Goals.{then-c-class, else-c-class}

pub loop-k-init : goal.loop-k-init
unfolding joined
loop-k-init c = λ j. mask_none (λ k. eqb (get_or c.args.classes.now k 0) c.args.class) j

pub loop-k-preserved : goal.loop-k-preserved
loop-k-preserved c =
    elim c.if-c-class.branch [
      | then-c-class w ↦ λ j.
          ap (λ s. has (members s) j) w.set-is ∙ ap (λ (x : ℕ). has x j) w.with-set.ensures
          ∙ mask_yes (λ k. eqb (get_or c.args.classes.now k 0) c.args.class) (members c.loop-k.set) c.loop-k.k (omega arith) c.loop-k.invariant (eq-eqb _ _ w.if-c-class.true) j
      | else-c-class w ↦ λ j.
          ap (λ s. has (members s) j) w.set-is
          ∙ mask_no (λ k. eqb (get_or c.args.classes.now k 0) c.args.class) (members c.loop-k.set) c.loop-k.k c.loop-k.invariant (ne_eqb _ _ w.if-c-class.false) j
    ]

pub returns : goal.returns
returns c = let e : c.loop-k.k ≡ length c.args.classes.now = omega arith in rw e at c.loop-k.invariant
