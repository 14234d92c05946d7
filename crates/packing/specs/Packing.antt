-- How a program is packed into bytes.
use Rattle.std.specs.Prelude.{ℕ, zero, suc, ◌+◌, ◌-◌, ◌*◌, ◌/◌, ◌%◌, ◌^◌, cond, List, [], ◌∷◌, ◌++◌, map, length}
use Rattle.rows.specs.declared.Row.{Row}
use Rattle.rows.specs.Rows.{shape, opcode, Program}
use Rattle.source.specs.Reading.{class_bytes}

-- a number and the bits that it takes
pub record Field : Type 0 where
  pub bits : ℕ
  pub value : ℕ

-- v in n bits
abbrev pub cell : ℕ → ℕ → Field
cell n v = record { bits = n; value = v }

-- the bits of fields in a row
unfoldable pub width : List Field → ℕ
width [] = 0
width (f ∷ fs) = f.bits + width fs

-- fields in a row as one number, the first the most significant
unfoldable pub packed : List Field → ℕ
unfolding width
packed [] = 0
packed (f ∷ fs) = f.value * 2 ^ width fs + packed fs

-- the fields of a row
abbrev pub row_fields : Row → List Field
row_fields r =
    cell 4 (opcode r.op) ∷ (cell 2 r.weight ∷ (cell 6 r.d
    ∷ cond (shape r.op).constant (cell 16 r.constant ∷ (cell 4 0 ∷ [])) (cell 6 r.a ∷ (cell 6 r.b ∷ (cell 8 r.target ∷ [])))))

-- the fields of rows
unfoldable pub rows_fields : List Row → List Field
rows_fields [] = []
rows_fields (r ∷ rs) = row_fields r ++ rows_fields rs

-- the fields of a file: the two counts, the classes, the fill, the rows
abbrev pub file_fields : Program → List Field
file_fields p =
    cell 8 p.vars ∷ (cell 8 (length p.rows) ∷ (map (cell 2) p.classes ++ (cell (8 * class_bytes p.vars - 2 * p.vars) 0 ∷ rows_fields p.rows)))

-- a number as n bytes, the first the most significant
unfoldable pub bytes : ℕ → ℕ → List ℕ
bytes zero x = []
bytes (suc n) x = bytes n (x / 256) ++ x % 256 ∷ []

-- the file of a program
unfoldable pub pack : Program → List ℕ
unfolding width packed rows_fields bytes
pack p = bytes (width (file_fields p) / 8) (packed (file_fields p))
