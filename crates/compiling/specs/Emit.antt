-- Emit: registers in place of variables.
use Rattle.std.specs.Prelude.{ℕ, suc, Bool, cond, ◌&&◌, List, [], ◌∷◌, map, ◌==◌, slice_index}
use Rattle.counting.specs.Counting.{range}
use Rattle.sets.specs.Sets.{when}
use Rattle.rows.specs.declared.Row.{Row}
use Rattle.rows.specs.Rows.{shape, copies, Program}
use Rattle.rounds.specs.Interference.{node_at}
use Rattle.rounds.specs.Round.{Outcome, hoped_for}
use Rattle.compiling.specs.declared.Home.TheVariants.{Register}
use Rattle.compiling.specs.declared.Place.{Place}
use Rattle.compiling.specs.Working.{Working, Compiled, place_of, spilled}
use Rattle.compiling.specs.Blocks.{assembled}

-- the register of each variable: that of its node
unfoldable pub registers_of : Outcome → List ℕ
registers_of o = map (λ v. slice_index o.registers v) o.graph.node

-- a row with registers in place of variables
abbrev pub coded : (ℕ → ℕ) → Row → Row
coded reg r = record {
  op = r.op;
  weight = r.weight;
  dclass = r.dclass;
  aclass = r.aclass;
  d = when (shape r.op).d (reg r.d);
  a = when (shape r.op).a (reg r.a);
  b = when (shape r.op).b (reg r.b);
  target = r.target;
  constant = r.constant;
  slot = r.slot;
}

-- whether a row only copies within one register
abbrev pub idle : (ℕ → ℕ) → Row → Bool
idle reg r = copies r.op && reg r.d == reg r.a

-- the block of a row in code
abbrev pub code_block : (ℕ → ℕ) → Row → List Row
code_block reg r = cond (idle reg r) [] (coded reg r ∷ [])

-- the places after a round that coloured: variables that are not spilled stand in registers
unfoldable pub places_coloured : Working → Outcome → List Place
unfolding registers_of hoped_for range
places_coloured w o =
    let regs = registers_of o in
    map (λ v. let new : Place = record { home = Register (slice_index regs v); round = suc w.rounds; hoped = hoped_for o.order (node_at o.graph v) } in cond (spilled w.places v) (place_of w.places v) new) (range w.source.vars 0)

-- a coloured program: its source, the rows of the round, the register of each variable, and the report
pub record Coloured : Type 0 where
  pub source : Program
  pub rows : List Row
  pub registers : List ℕ
  pub rounds : ℕ
  pub slots : ℕ
  pub places : List Place

abbrev pub coloured : Working → Outcome → Coloured
coloured w o = record {
  source = w.source;
  rows = w.rows;
  registers = registers_of o;
  rounds = suc w.rounds;
  slots = w.slots;
  places = places_coloured w o;
}

-- a coloured program with its registers put in
abbrev pub emitted_by : Coloured → Compiled
emitted_by c = record {
  source = c.source;
  rows = assembled (map (code_block (λ v. slice_index c.registers v)) c.rows);
  rounds = c.rounds;
  slots = c.slots;
  places = c.places;
}

-- the compiled program after a round that coloured
unfoldable pub emitted : Working → Outcome → Compiled
unfolding registers_of assembled places_coloured
emitted w o =
    let regs = registers_of o in
    record {
      source = w.source;
      rows = assembled (map (code_block (λ v. slice_index regs v)) w.rows);
      rounds = suc w.rounds;
      slots = w.slots;
      places = places_coloured w o;
    }
