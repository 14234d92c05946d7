-- The names of classes and opcodes.
use Rattle.std.specs.Prelude.{ℕ, cond, List, codes, ◌==◌}
use Rattle.rows.specs.declared.Op.{Op}
use Rattle.rows.specs.declared.Op.TheVariants.{End, Const, Copy, Add, Sub, And, Xor, Widen, Narrow, Input, Output, Jump, Less, Load, Store}

abbrev pub class_name : ℕ → List ℕ
class_name c = cond (c == 0) (codes "byte") (cond (c == 1) (codes "half") (cond (c == 2) (codes "word") (codes "no class")))

abbrev pub op_name : Op → List ℕ
op_name End = codes "end"
op_name Const = codes "const"
op_name Copy = codes "copy"
op_name Add = codes "add"
op_name Sub = codes "sub"
op_name And = codes "and"
op_name Xor = codes "xor"
op_name Widen = codes "widen"
op_name Narrow = codes "narrow"
op_name Input = codes "input"
op_name Output = codes "output"
op_name Jump = codes "jump"
op_name Less = codes "less"
op_name Load = codes "load"
op_name Store = codes "store"
