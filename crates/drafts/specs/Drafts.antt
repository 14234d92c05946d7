-- What a draft, the end of a round and a spill order mean.
use Rattle.std.specs.Prelude.{◌≡◌, ℕ, suc, ◌<◌, cond, map, length, take, slice_index}
use Rattle.counting.specs.Counting.{range}
use Rattle.sets.specs.Sets.{has}
use Rattle.sets.specs.Words.{members}
use Rattle.source.specs.Results.{program_of}
use Rattle.rounds.specs.Interference.{node_at}
use Rattle.rounds.specs.Round.{Outcome, hoped_for}
use Rattle.compiling.specs.declared.Home.TheVariants.{Slot}
use Rattle.compiling.specs.declared.Place.{Place}
use Rattle.compiling.specs.Working.{Working, Compiled, place_of}
use Rattle.compiling.specs.Rewrite.{Ticket}
use Rattle.compiling.specs.Emit.{Coloured}
use Rattle.drafts.specs.declared.draft.Draft.{Draft}
use Rattle.drafts.specs.declared.token.Colouring.{Colouring}
use Rattle.drafts.specs.declared.token.Token.{Token}

-- the working program in a draft
abbrev pub working_of : Draft → Working
working_of d = record {
  source = program_of d.source;
  rows = d.rows;
  classes = d.classes;
  rounds = d.rounds;
  slots = d.slots;
  places = d.places;
}

-- the coloured program in a draft
abbrev pub coloured_of : Draft → Coloured
coloured_of d = record {
  source = program_of d.source;
  rows = d.rows;
  registers = d.registers;
  rounds = d.rounds;
  slots = d.slots;
  places = d.places;
}

-- the compiled program in a draft
abbrev pub compiled_of : Draft → Compiled
compiled_of d = record {
  source = program_of d.source;
  rows = d.rows;
  rounds = d.rounds;
  slots = d.slots;
  places = d.places;
}

-- the end of a round of n variables shows an outcome
pub record Shows (n : ℕ) (c : Colouring) (o : Outcome) : Type 0 where
  pub node : take n c.node ≡ o.graph.node
  pub registers : take n c.registers ≡ o.registers
  pub spilled : members c.spilled ≡ o.spilled
  pub hoped : (v : ℕ) → v < n → has (members c.hoped) v ≡ hoped_for o.order v

-- the ticket that a token stands for: what is out gets its slot, all else keeps its place
abbrev pub ticket_of : Token → Working → Ticket
ticket_of t w = record {
  order = record { out = members t.out; slots = take w.source.vars t.slots };
  given = t.given;
  places = map (λ v. let new : Place = record { home = Slot (slice_index t.slots v); round = suc w.rounds; hoped = has (members t.hoped) v } in cond (has (members t.out) v) new (place_of w.places v)) (range w.source.vars 0);
}

-- the nodes of source variables are variables of the program
abbrev pub Inside : Working → Outcome → Type 0
Inside w o = (v : ℕ) → v < w.source.vars → node_at o.graph v < length w.classes
