-- The fields of a row that are in use.
use Rattle.std.specs.Prelude.{Option, List, [], ◌∷◌}
use Rattle.std.specs.Bool.{then_some}
use Rattle.rows.specs.declared.Row.{Row}
use Rattle.rows.specs.declared.Shape.{Shape}
use Rattle.rows.specs.Rows.{shape}
use Rattle.reports.specs.declared.Field.{Field}
use Rattle.reports.specs.declared.Field.TheVariants.{Operand, Constant, Target, Slot}

-- the fields of a row of this shape
abbrev pub shaped_fields : Shape → Row → List (Option Field)
shaped_fields s r =
    then_some s.d (Operand r.d r.dclass)
    ∷ then_some s.a (Operand r.a r.aclass)
    ∷ then_some s.b (Operand r.b r.aclass)
    ∷ then_some s.constant (Constant r.constant)
    ∷ then_some s.target (Target r.target)
    ∷ then_some s.slot (Slot r.slot)
    ∷ []

-- the fields of a row in their order, none for one that its opcode does not use
abbrev pub fields : Row → List (Option Field)
fields r = shaped_fields (shape r.op) r
