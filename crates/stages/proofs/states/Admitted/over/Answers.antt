use Rattle.std.proofs.Common.{sym, subst}
use Rattle.compiling.specs.Working.{Working}
use Rattle.histories.specs.Histories.{HasGrown, end_file, end_program}
use Rattle.histories.proofs.Ending.{ends_first}
use Rattle.histories.proofs.Merely.{first_grown}
use Rattle.stages.proofs.states.Admitted.over.Goals as goal

pub invariant_of-result : goal.invariant_of-result
invariant_of-result c = let P : Working → Type 0 = λ w. HasGrown w in record { grown = subst P (sym c.new.ensures.fresh) (first_grown end_file end_program ends_first.admits) }
