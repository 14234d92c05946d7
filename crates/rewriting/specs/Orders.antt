-- Spill orders by what a draft and the end of its round hold.
use Rattle.std.specs.Prelude.{ℕ, ◌+◌, ◌≤◌, min, length, take, slice_index_or}
use Rattle.counting.specs.Counting.{sum}
use Rattle.sets.specs.Sets.{has, size}
use Rattle.sets.specs.Words.{members}
use Rattle.rounds.specs.Round.{Outcome}
use Rattle.compiling.specs.Working.{Working}
use Rattle.compiling.specs.Spill.{slots_after}
use Rattle.drafts.specs.declared.draft.Draft.{Draft}
use Rattle.drafts.specs.declared.token.Colouring.{Colouring}
use Rattle.drafts.specs.Drafts.{Inside}

-- slots are bytes, and the nodes of source variables are variables of the program
pub record Small (w : Working) (o : Outcome) : Type 0 where
  pub slots : slots_after w o ≤ 255
  pub inside : Inside w o

-- the node of a variable
abbrev pub node_in : Draft → Colouring → ℕ → ℕ
node_in d end v = slice_index_or (take (length d.classes) end.node) v v

-- the next slot behind those given and those of the spilled nodes below n
unfoldable pub slot_below : Draft → Colouring → ℕ → ℕ
unfolding sum has
slot_below d end n = min (d.slots + size (min n 448) (members end.spilled)) 255
