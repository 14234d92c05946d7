-- Registers and places by what a draft and the end of its round hold.
use Rattle.std.specs.Prelude.{ℕ, cond, Some, None, Option, length, take, slice_index, slice_index_or}
use Rattle.sets.specs.Sets.{has}
use Rattle.sets.specs.Words.{members}
use Rattle.compiling.specs.declared.Home.TheVariants.{Register}
use Rattle.compiling.specs.declared.Place.{Place}
use Rattle.compiling.specs.Working.{place_of, spilled}
use Rattle.drafts.specs.declared.draft.Draft.{Draft}
use Rattle.drafts.specs.declared.token.Colouring.{Colouring}
use Rattle.drafts.specs.Drafts.{working_of, coloured_of}

-- the register of a variable of a coloured draft
abbrev pub register_in : Draft → ℕ → ℕ
register_in d v = slice_index (coloured_of d).registers v

-- the register of the variable that a field names, if it names one
abbrev pub register_or : (ℕ → ℕ) → Option ℕ → ℕ
register_or reg None = 0
register_or reg (Some v) = reg v

-- the register of a node at the end of a draft's round
abbrev pub node_register : Draft → Colouring → ℕ → ℕ
node_register d end v = slice_index (take (length d.classes) end.registers) v

-- the place of a variable after a round that coloured, in a draft that has its registers and the number of the round
unfoldable pub place_after : Draft → Colouring → ℕ → Place
unfolding has
place_after d end v =
    let places = (working_of d).places in
    let new : Place = record { home = Register (slice_index (coloured_of d).registers v); round = d.rounds; hoped = has (members end.hoped) (slice_index_or (take (length d.classes) end.node) v v) } in
    cond (spilled places v) (place_of places v) new
