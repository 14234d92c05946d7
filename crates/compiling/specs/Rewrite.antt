-- Rewrite: loads before the reads and stores after the writes of spilled variables.
use Rattle.std.specs.Prelude.{ℕ, suc, ◌+◌, Bool, cond, ◌&&◌, List, [], ◌∷◌, ◌++◌, map, length, ◌==◌, slice_index}
use Rattle.sets.specs.Sets.{has}
use Rattle.rows.specs.declared.Op.TheVariants.{Load, Store}
use Rattle.rows.specs.declared.Row.{Row}
use Rattle.rows.specs.Rows.{shape, copies, reads, writes}
use Rattle.rounds.specs.Round.{Outcome}
use Rattle.compiling.specs.declared.Place.{Place}
use Rattle.compiling.specs.Working.{Working}
use Rattle.compiling.specs.Blocks.{flat, assembled}
use Rattle.compiling.specs.Spill.{Order, slot_in, spill_order, slots_after, places_spilled}

-- a load of temporary t from a slot
abbrev pub load_row : (weight class t slot : ℕ) → Row
load_row weight class t slot = record { op = Load; weight = weight; dclass = class; aclass = 0; d = t; a = 0; b = 0; target = 0; constant = 0; slot = slot }

-- a store of temporary t into a slot
abbrev pub store_row : (weight class t slot : ℕ) → Row
store_row weight class t slot = record { op = Store; weight = weight; dclass = 0; aclass = class; d = 0; a = t; b = 0; target = 0; constant = 0; slot = slot }

-- whether a row only copies inside one spilled node: both ends have one slot
abbrev pub inner : Order → Row → Bool
inner s r = copies r.op && ((has s.out r.d && has s.out r.a) && slot_in s r.d == slot_in s r.a)

-- the variables of a list that are spilled
unfoldable pub spilled_of : Order → List ℕ → List ℕ
unfolding has
spilled_of s [] = []
spilled_of s (v ∷ vs) =
    let rest = spilled_of s vs in
    cond (has s.out v) (v ∷ rest) rest

-- the variables that a row has a new temporary for, in the order of their numbers: a, b, d
unfoldable pub replaced : Order → Row → List ℕ
unfolding spilled_of has
replaced s r =
    let vs = spilled_of s (reads r ++ writes r) in
    cond (inner s r) [] vs

-- whether the field that names v is in use and v is spilled
abbrev pub goes : Order → Bool → ℕ → Bool
goes s used v = used && has s.out v

-- the number of the temporary after t, if v takes t
abbrev pub after : Order → Bool → ℕ → ℕ → ℕ
after s used v t = cond (goes s used v) (suc t) t

-- the row itself, the temporaries ta, tb and td in place of spilled a, b and d
abbrev pub core : Order → (ta tb td : ℕ) → Row → Row
core s ta tb td r = record {
  op = r.op;
  weight = r.weight;
  dclass = r.dclass;
  aclass = r.aclass;
  d = cond (goes s (shape r.op).d r.d) td r.d;
  a = cond (goes s (shape r.op).a r.a) ta r.a;
  b = cond (goes s (shape r.op).b r.b) tb r.b;
  target = r.target;
  constant = r.constant;
  slot = r.slot;
}

-- the block of a row, ta being the next temporary: nothing for an inner copy, else loads of a and b, the row, a store of d
unfoldable pub block : Order → (ℕ → ℕ) → ℕ → Row → List Row
unfolding has
block s class ta r =
    let sh = shape r.op in
    let tb = after s sh.a r.a ta in
    let td = after s sh.b r.b tb in
    let rows : List Row =
    cond (goes s sh.a r.a) (load_row r.weight (class r.a) ta (slot_in s r.a) ∷ []) []
    ++ (cond (goes s sh.b r.b) (load_row r.weight (class r.b) tb (slot_in s r.b) ∷ []) []
    ++ (core s ta tb td r
    ∷ cond (goes s sh.d r.d) (store_row r.weight (class r.d) td (slot_in s r.d) ∷ []) [])) in
    cond (inner s r) [] rows

-- the blocks of rows, t being the next temporary
unfoldable pub blocks : Order → (ℕ → ℕ) → ℕ → List Row → List (List Row)
unfolding block replaced
blocks s class t [] = []
blocks s class t (r ∷ rs) = block s class t r ∷ blocks s class (t + length (replaced s r)) rs

-- the variables that all rows have new temporaries for
unfoldable pub all_replaced : Order → List Row → List ℕ
unfolding flat replaced
all_replaced s rows = flat (map (replaced s) rows)

-- the class of a variable of a working program
abbrev pub class_in : List ℕ → ℕ → ℕ
class_in classes v = slice_index classes v

-- what a round that spilled hands to rewriting: the spilled variables with their slots, the slots given then, the places then
pub record Ticket : Type 0 where
  pub order : Order
  pub given : ℕ
  pub places : List Place

abbrev pub ticket : Working → Outcome → Ticket
ticket w o = record { order = spill_order w o; given = slots_after w o; places = places_spilled w o }

-- the working program rewritten by a ticket
abbrev pub rewritten_by : Ticket → Working → Working
rewritten_by t w =
    let class : ℕ → ℕ = class_in w.classes in
    record {
      source = w.source;
      rows = assembled (blocks t.order class (length w.classes) w.rows);
      classes = w.classes ++ map class (all_replaced t.order w.rows);
      rounds = suc w.rounds;
      slots = t.given;
      places = t.places;
    }

-- the working program after a round that spilled
unfoldable pub rewritten : Working → Outcome → Working
unfolding spill_order slots_after places_spilled blocks assembled all_replaced
rewritten w o =
    let s = spill_order w o in
    let class : ℕ → ℕ = class_in w.classes in
    record {
      source = w.source;
      rows = assembled (blocks s class (length w.classes) w.rows);
      classes = w.classes ++ map class (all_replaced s w.rows);
      rounds = suc w.rounds;
      slots = slots_after w o;
      places = places_spilled w o;
    }
