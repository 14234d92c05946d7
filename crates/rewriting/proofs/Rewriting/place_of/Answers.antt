use Rattle.std.proofs.Common.{sym, ◌∙◌}
use Rattle.rewriting.specs.Pages.{place_spilled}
use Rattle.rewriting.proofs.Rewriting.place_of.Goals as goal

pub returns-then-not-contains : goal.returns-then-not-contains
unfolding place_spilled
returns-then-not-contains c = rw (sym c.contains.ensures ∙ c.if-not-contains.true) c.place_of.ensures

pub returns : goal.returns
unfolding place_spilled
returns c = rw (sym c.contains.ensures ∙ c.if-not-contains.false, c.contains-2.ensures)
