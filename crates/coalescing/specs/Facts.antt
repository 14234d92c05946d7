-- What the nodes of variables and the ends of copies keep to.
use Rattle.std.specs.Prelude.{ℕ, ◌<◌, List, slice_index, slice_index_or}
use Rattle.rounds.specs.declared.Ends.{Ends}
use Rattle.rounds.specs.Coalescing.{no_ends}

-- each node has a place in a node set
abbrev pub Placed : List ℕ → Type 0
Placed node = (v : ℕ) → slice_index node v < 448

-- both ends of each copy have a place in a node set
abbrev pub Joining : List Ends → Type 0
Joining copies = (i : ℕ) → ((slice_index_or copies i no_ends).d < 448) × ((slice_index_or copies i no_ends).a < 448)
