-- What a round on a working program answers, and what it leaves in the memory lent to it.
use Rattle.std.specs.Prelude.{Bool, cond, List, is_some}
use Rattle.sets.specs.declared.NodeSet.{NodeSet}
use Rattle.sets.specs.Words.{members}
use Rattle.rows.specs.declared.Row.{Row}
use Rattle.admission.specs.Memory.{Parts, emptied, short_part}
use Rattle.registers.specs.Model.{Model}
use Rattle.rounds.specs.Round.{round}
use Rattle.graphs.specs.declared.variables.Variables.{Variables}
use Rattle.graphs.specs.Graphs.{classes_of}
use Rattle.drafts.specs.declared.token.Colouring.{Colouring}
use Rattle.drafts.specs.Drafts.{Shows}

-- a colouring shows how the round ends
abbrev pub ShowsRound : Model → Variables → NodeSet → List Row → Colouring → Type 0
ShowsRound m v nodes rows c = Shows v.count c (round m v.source (classes_of v) (members nodes) rows)

-- whether a part of the memory is too short
abbrev pub is_short : Parts → Bool
is_short m = is_some (short_part m)

-- memory that suffices is emptied, other memory is left alone
abbrev pub afterwards : Parts → Parts
afterwards m = cond (is_short m) m (emptied m)
