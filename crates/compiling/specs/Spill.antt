-- Spill: the nodes that found no register take slots, and their variables new places.
use Rattle.std.specs.Prelude.{ℕ, suc, ◌+◌, cond, List, map, length, slice_index}
use Rattle.counting.specs.Counting.{sum, range}
use Rattle.sets.specs.Sets.{has, size}
use Rattle.rounds.specs.Interference.{node_at}
use Rattle.rounds.specs.Round.{Outcome, those, hoped_for}
use Rattle.compiling.specs.declared.Home.TheVariants.{Slot}
use Rattle.compiling.specs.declared.Place.{Place}
use Rattle.compiling.specs.Working.{Working, place_of}

-- the source variables in spilled nodes, and the slot of each
pub record Order : Type 0 where
  pub out : ℕ
  pub slots : List ℕ

-- the slot of a variable in an order
abbrev pub slot_in : Order → ℕ → ℕ
slot_in s v = slice_index s.slots v

-- spilled nodes take the next free slots in rising order
unfoldable pub spill_order : Working → Outcome → Order
unfolding those range sum has
spill_order w o =
    let vars = w.source.vars in
    record {
      out = those (λ v. has o.spilled (node_at o.graph v)) vars;
      slots = map (λ v. w.slots + size (node_at o.graph v) o.spilled) (range vars 0);
    }

-- the slots given after a round
unfoldable pub slots_after : Working → Outcome → ℕ
unfolding sum has
slots_after w o = w.slots + size (length w.classes) o.spilled

-- the places after a round that spilled: spilled variables stand in slots
unfoldable pub places_spilled : Working → Outcome → List Place
unfolding spill_order hoped_for range
places_spilled w o =
    let s = spill_order w o in
    map (λ v. let new : Place = record { home = Slot (slot_in s v); round = suc w.rounds; hoped = hoped_for o.order (node_at o.graph v) } in cond (has s.out v) new (place_of w.places v)) (range w.source.vars 0)
