-- What of the code stands for a row of the source, as the places and the code tell.
use Rattle.std.specs.Prelude.{ℕ, ◌+◌, Bool, false, cond, not, ◌&&◌, ◌||◌, List, ◌==◌}
use Rattle.rows.specs.declared.Row.{Row}
use Rattle.rows.specs.Rows.{shape, copies, row_at}
use Rattle.compiling.specs.declared.Place.{Place}
use Rattle.compiling.specs.Working.{is_slot, number_of, place_of}
use Rattle.sheets.specs.declared.Block.{Block}

-- whether two variables stand in one register or in one slot
abbrev pub together : Place → Place → Bool
together p q = number_of p.home == number_of q.home && cond (is_slot p.home) (is_slot q.home) (not (is_slot q.home))

-- whether a row is a copy whose ends stand together: nothing of it is in the code
abbrev pub idle : Row → (d a : Place) → Bool
idle r d a = copies r.op && together d a

-- how many loads stand before a row: one for each spilled variable that it reads
abbrev pub loads : Row → (a b : Place) → ℕ
loads r a b = cond ((shape r.op).a && is_slot a.home) 1 0 + cond ((shape r.op).b && is_slot b.home) 1 0

-- the register that a is read from: that of its load, if it is spilled
abbrev pub origin : Place → List Row → ℕ
origin a code = cond (is_slot a.home) (row_at code 0).d (number_of a.home)

-- whether a row of code copies from a register to where a variable stands
abbrev pub carries : Row → ℕ → Place → Bool
carries c from to = copies c.op && (c.a == from && (is_slot to.home || c.d == number_of to.home))

-- whether a row itself is in the code behind its loads: a copy within one register is not
abbrev pub kept : Row → ℕ → (d a : Place) → List Row → Bool
kept r n d a code = not (copies r.op) || carries (row_at code n) (origin a code) d

-- the block of a row whose variables stand at these places
abbrev pub block_at : Row → (d a b : Place) → List Row → Block
block_at r d a b code =
    cond (idle r d a)
    (record { loads = 0; kept = false; store = false })
    (record { loads = loads r a b; kept = kept r (loads r a b) d a code; store = (shape r.op).d && is_slot d.home })

-- the block of a row; code is what begins with it
abbrev pub block_of : List Place → Row → List Row → Block
block_of places r code = block_at r (place_of places r.d) (place_of places r.a) (place_of places r.b) code
