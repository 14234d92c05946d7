-- What the end of a round shows.
use Rattle.std.proofs.Common.{◌≡◌, ℕ, suc, ◌<◌, Bool, cond, List, map, length, get_or, take, ap, ◌∙◌, arith}
use Rattle.counting.specs.Counting.{range}
use Rattle.sets.specs.Sets.{has}
use Rattle.sets.specs.Words.{members}
use Rattle.rounds.specs.Interference.{node_at}
use Rattle.rounds.specs.Round.{Outcome, hoped_for}
use Rattle.compiling.specs.declared.Home.TheVariants.{Register}
use Rattle.compiling.specs.declared.Place.{Place}
use Rattle.compiling.specs.Working.{spilled, place_of}
use Rattle.compiling.specs.Emit.{registers_of, places_coloured}
use Rattle.drafts.specs.declared.draft.Draft.{Draft}
use Rattle.drafts.specs.declared.token.Colouring.{Colouring}
use Rattle.drafts.specs.Drafts.{working_of, Shows, Inside}
use Rattle.layout.proofs.Lists.{range_ext}
use Rattle.emission.specs.Emission.{node_register, place_after}

pub registers_shown : (d : Draft) (end : Colouring) (o : Outcome) (regs : List ℕ) → Shows (length d.classes) end o → regs ≡ map (node_register d end) (take (length d.classes) end.node) → regs ≡ registers_of o
unfolding registers_of
registers_shown d end o regs s e =
    e ∙ ap (λ (ns : List ℕ). map (λ v. get_or (take (length d.classes) end.registers) v 0) ns) s.node ∙ ap (λ (rs : List ℕ). map (λ v. get_or rs v 0) o.graph.node) s.registers

-- a place by its parts
placed : Bool → Place → ℕ → ℕ → Bool → Place
placed stays was number round hoped = let new : Place = record { home = Register number; round = round; hoped = hoped } in cond stays was new

-- a draft that has the registers and the number of its round, and the places before it
pub record Marked (d : Draft) (o : Outcome) (n : Draft) : Type 0 where
  pub nodes : length n.classes ≡ length d.classes
  pub registers : n.registers ≡ registers_of o
  pub rounds : n.rounds ≡ suc d.rounds
  pub vars : n.source.vars ≡ d.source.vars
  pub places : n.places ≡ d.places

place_shown : (d n : Draft) (end : Colouring) (o : Outcome) (v : ℕ) → Shows (length d.classes) end o → Marked d o n → node_at o.graph v < length d.classes →
    place_after n end v ≡ placed (spilled (working_of d).places v) (place_of (working_of d).places v) (get_or (registers_of o) v 0) (suc d.rounds) (hoped_for o.order (node_at o.graph v))
unfolding place_after placed
place_shown d n end o v s m l =
    let hoped : has (members end.hoped) (get_or (take (length d.classes) end.node) v v) ≡ hoped_for o.order (node_at o.graph v) = rw s.node (s.hoped (node_at o.graph v) l) in
    rw (m.registers, m.rounds, m.places, m.nodes, hoped)

pub places_shown : (d n : Draft) (end : Colouring) (o : Outcome) (places : List Place) → Shows (length d.classes) end o → Inside (working_of d) o → Marked d o n →
    places ≡ map (place_after n end) (range n.source.vars 0) → places ≡ places_coloured (working_of d) o
unfolding places_coloured placed
places_shown d n end o places s i m e =
    e ∙ ap (λ (k : ℕ). map (place_after n end) (range k 0)) m.vars
    ∙ range_ext (place_after n end) (λ v. placed (spilled (working_of d).places v) (place_of (working_of d).places v) (get_or (registers_of o) v 0) (suc d.rounds) (hoped_for o.order (node_at o.graph v))) d.source.vars 0 (λ v l. place_shown d n end o v s m (omega (arith, i v (omega arith))))
