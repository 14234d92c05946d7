use Rattle.std.proofs.Common.{length, ap, ◌∙◌, sym, arith, rules}
use Rattle.sets.specs.Sets.{has}
use Rattle.sets.specs.Words.{joined, IsWords}
use Rattle.sets.proofs.Rises.{walk_skip, walk_end, walk_step}
use Rattle.sets.proofs.WalkIterator.next.Goals as goal

pub returns-then-w-ne0-clause-steps : goal.returns-then-w-ne0-clause-steps
returns-then-w-ne0-clause-steps c =
    let ok : IsWords c.loop-self.self.words = search rules in
    sym c.loop-self.invariant ∙ walk_step c.loop-self.self.words c.loop-self.self.at ok (omega arith) c.if-w-ne0.true

pub returns-then-w-ne0-clause-goes : goal.returns-then-w-ne0-clause-goes
returns-then-w-ne0-clause-goes c =
    let ok : IsWords c.loop-self.self.words = search rules in
    let step = sym c.loop-self.invariant ∙ walk_step c.loop-self.self.words c.loop-self.self.at ok (omega arith) c.if-w-ne0.true in
    let shorter = ap length step in search rules

pub loop-self-preserved : goal.loop-self-preserved
loop-self-preserved c = sym (walk_skip c.loop-self.self.words c.loop-self.self.at (omega arith) (omega arith)) ∙ c.loop-self.invariant

pub returns-clause-steps : goal.returns-clause-steps
returns-clause-steps c = let none = walk_end (has (joined c.loop-self.self.words)) c.loop-self.self.at (omega arith) in (sym c.loop-self.invariant ∙ none, none)
