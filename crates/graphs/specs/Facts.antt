-- What the masks of a list of classes keep to.
use Rattle.std.specs.Prelude.{◌≡◌, ℕ, ◌<◌, ◌&&◌, List, ◌==◌, nat_lt, slice_index, slice_index_or}
use Rattle.sets.specs.Sets.{has}
use Rattle.sets.specs.Words.{members, no_set}

-- each mask is the set of the variables of its class
abbrev pub Masked : ℕ → List ℕ → List ℕ → Type 0
Masked count classes masks = (c k : ℕ) → c < 3 → has (members (slice_index_or masks c no_set)) k ≡ (nat_lt k count && slice_index classes k == c)
