use Rattle.std.proofs.Common.{sym, ap, subst}
use Rattle.compiling.specs.Working.{Working, Compiled}
use Rattle.histories.specs.Histories.{Playable}
use Rattle.stages.proofs.Ending.{end_plays}
use Rattle.stages.proofs.states.Compiled.over.Goals as goal

-- a working program as if a round had coloured it
first : Working → Compiled
first w = record { source = w.source; rows = w.rows; rounds = 1; slots = w.slots; places = w.places }

pub invariant_of-result : goal.invariant_of-result
unfolding first
invariant_of-result c =
    let P : Compiled → Type 0 = λ x. ∥ Playable x ∥₁ in
    record { playable = subst P (sym (ap first c.new-draft.ensures.fresh)) ∣ end_plays ∣₁ }
