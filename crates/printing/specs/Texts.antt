-- What is printed of a compiled program.
use Rattle.std.specs.Prelude.{ℕ, Bool, cond, Some, None, Option, List, [], ◌∷◌, ◌++◌, codes, decimal}
use Rattle.std.specs.List.{flat_map}
use Rattle.std.specs.Option.{option_or}
use Rattle.rows.specs.declared.Row.{Row}
use Rattle.rows.specs.declared.Shape.{Shape}
use Rattle.rows.specs.Rows.{shape, opcode, used}
use Rattle.compiling.specs.declared.Home.{Home}
use Rattle.compiling.specs.declared.Home.TheVariants.{Open, Register, Slot}
use Rattle.compiling.specs.declared.Place.{Place}
use Rattle.compiling.specs.Working.{number_of}

-- ---- several things in a row

-- each thing behind a mark
abbrev pub behind : {X : Type 0} → ℕ → (X → List ℕ) → List X → List ℕ
behind mark text xs = flat_map (λ x. mark ∷ text x) xs

-- things with a mark between them, or what an empty list is told as
abbrev pub joined : {X : Type 0} → ℕ → List ℕ → (X → List ℕ) → List X → List ℕ
joined mark none text [] = none
joined mark none text (x ∷ xs) = text x ++ behind mark text xs

-- things with commas between them, - for none
abbrev pub listed : {X : Type 0} → (X → List ℕ) → List X → List ℕ
listed text xs = joined 44 (codes "-") text xs

-- a list of numbers
abbrev pub numbers_text : List ℕ → List ℕ
numbers_text numbers = listed decimal numbers

-- ---- the report

-- the letter of a home
abbrev pub home_letter : Home → ℕ
home_letter Open = 45
home_letter (Register n) = 114
home_letter (Slot n) = 115

-- the letter of a mark: hoped or tested
abbrev pub mark_letter : Bool → ℕ
mark_letter hoped = cond hoped 104 116

-- the place of a variable, as s0@1h: home, number, round, mark
unfoldable pub place_text : Place → List ℕ
place_text p =
    home_letter p.home ∷ (decimal (number_of p.home) ++ (codes "@" ++ (decimal p.round ++ (mark_letter p.hoped ∷ []))))

-- the places of all variables
abbrev pub places_text : List Place → List ℕ
places_text places = listed place_text places

-- ---- the code

-- an item of a row, - if the opcode does not have it
abbrev pub item : Option ℕ → List ℕ
item None = codes "-"
item (Some n) = decimal n

-- the last item of a row of this shape: the constant, the target or the slot
abbrev pub last_item : Shape → Row → Option ℕ
last_item s r = option_or (option_or (used s.constant r.constant) (used s.target r.target)) (used s.slot r.slot)

-- the eight items of a row of this shape
abbrev pub shaped_items : Shape → Row → List (Option ℕ)
shaped_items s r =
    Some (opcode r.op)
    ∷ Some r.weight
    ∷ used s.d r.dclass
    ∷ used s.a r.aclass
    ∷ used s.d r.d
    ∷ used s.a r.a
    ∷ used s.b r.b
    ∷ last_item s r
    ∷ []

-- the eight items of a row
abbrev pub items_of : Row → List (Option ℕ)
items_of r = shaped_items (shape r.op) r

-- a row
unfoldable pub row_text : Row → List ℕ
row_text r = joined 44 [] item (items_of r)

-- all rows
abbrev pub rows_text : List Row → List ℕ
rows_text rows = joined 59 [] row_text rows

-- ---- the program

-- a compiled program: rounds, slots, report and code
unfoldable pub compiled_text : (rounds slots : ℕ) → List Place → List Row → List ℕ
compiled_text rounds slots places rows =
    codes "compiled rounds="
    ++ (decimal rounds
    ++ (codes " slots="
    ++ (decimal slots
    ++ (codes " vars="
    ++ (places_text places
    ++ (codes " code="
    ++ rows_text rows))))))
