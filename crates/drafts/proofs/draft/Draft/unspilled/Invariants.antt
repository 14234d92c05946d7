use Rattle.std.proofs.Common.{◌≡◌, not}
use Rattle.sets.specs.Words.{members}
use Rattle.rounds.specs.Round.{those}
use Rattle.compiling.specs.Working.{spilled}
use Rattle.drafts.specs.Drafts.{working_of}
use Rattle.drafts.proofs.draft.Draft.unspilled.Given as goal

abbrev pub invariant-loop-v : goal.invariant-loop-v
invariant-loop-v l = members l.set ≡ those (λ v. not (spilled (working_of l.self).places v)) l.v
