-- Rewriting by what a draft and a token hold.
use Rattle.std.specs.Prelude.{ℕ, ◌≤◌, Bool, cond, ◌&&◌, length, ◌==◌, slice_index}
use Rattle.sets.specs.Sets.{has}
use Rattle.sets.specs.Words.{members}
use Rattle.compiling.specs.declared.Home.TheVariants.{Slot}
use Rattle.compiling.specs.declared.Place.{Place}
use Rattle.compiling.specs.Working.{Working, place_of}
use Rattle.compiling.specs.Spill.{Order, slot_in}
use Rattle.compiling.specs.Rewrite.{class_in as class_by}
use Rattle.drafts.specs.declared.draft.Draft.{Draft}
use Rattle.drafts.specs.declared.token.Token.{Token}
use Rattle.drafts.specs.Drafts.{working_of, ticket_of}

-- a working program that a draft has room for
pub record Room (w : Working) : Type 0 where
  pub rows : length w.rows ≤ 512
  pub classes : length w.classes ≤ 448
  pub rounds : w.rounds ≤ 255

-- the spill order in a token
abbrev pub order_in : Draft → Token → Order
order_in d t = (ticket_of t (working_of d)).order

-- the class of a variable of a draft
abbrev pub class_in : Draft → ℕ → ℕ
class_in d = class_by (working_of d).classes

-- whether two variables go out to one slot
abbrev pub shares : Order → ℕ → ℕ → Bool
shares s d a = (has s.out d && has s.out a) && slot_in s d == slot_in s a

-- the place of a variable after a round that spilled
unfoldable pub place_spilled : Draft → Token → ℕ → ℕ → Place
unfolding has
place_spilled d t round v =
    let new : Place = record { home = Slot (slice_index t.slots v); round = round; hoped = has (members t.hoped) v } in
    cond (has (members t.out) v) new (place_of (working_of d).places v)
