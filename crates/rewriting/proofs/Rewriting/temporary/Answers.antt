use Rattle.std.proofs.Common.{◌≡◌, true, false, Some, None, sym, ◌∙◌, rules}
use Rattle.sets.specs.Sets.{has}
use Rattle.sets.specs.Words.{members}
use Rattle.rewriting.specs.Temporaries.{temporary}
use Rattle.rewriting.proofs.Noting.{notes_none}
use Rattle.rewriting.proofs.Rewriting.temporary.Goals as goal

pub returns-in_err-v-clause-value : goal.returns-in_err-v-clause-value
unfolding temporary
returns-in_err-v-clause-value c = search rules

pub returns-in_err-v-clause-notes : goal.returns-in_err-v-clause-notes
returns-in_err-v-clause-notes c =
    let none : c.from_residual.result ≡ None = search rules in
    rw none (notes_none c.args.page.now)

pub returns-then-not-goes_out-clause-value : goal.returns-then-not-goes_out-clause-value
unfolding temporary
returns-then-not-goes_out-clause-value c =
    let v : c.args.v ≡ Some c.in_ok-v.v = search rules in
    let stays : has (members c.args.self.now.token.now.out) c.in_ok-v.v ≡ false = sym c.goes_out.ensures ∙ c.if-not-goes_out.true in
    rw (v, stays)

pub returns-then-not-goes_out-clause-notes : goal.returns-then-not-goes_out-clause-notes
returns-then-not-goes_out-clause-notes c = notes_none c.args.page.now

pub returns-clause-value : goal.returns-clause-value
unfolding temporary
returns-clause-value c =
    let v : c.args.v ≡ Some c.in_ok-v.v = search rules in
    let goes : has (members c.args.self.now.token.now.out) c.in_ok-v.v ≡ true = sym c.goes_out.ensures ∙ c.if-not-goes_out.false in
    rw (v, goes, c.class_of-class.ensures, c.slot_of.ensures)
