-- What a vector that was lent as room for an answer holds once that loan is over.
use Rattle.std.specs.Prelude.{◌≡◌, List, Option, Result, IfOk, IfSome}
use Rattle.std.specs.Borrow.{Fml, RattleType, Bor, MutBor}
use Rattle.std.specs.Io.BufRead.{Rests}
use Rattle.std.specs.contracts.alloc.Global as global
use Rattle.std.specs.contracts.vec.Vec as vec
use Rattle.std.specs.contracts.impls.GlobalAllocator.TheImpl.{ghosts}

-- `Vec<T>` as the logic holds it
abbrev pub vec_of : RattleType → RattleType
vec_of T = vec.the_row T global.the_row ghosts

-- the items that the answer shows are those that the room keeps
abbrev pub KeepsShown : (T : RattleType) → MutBor (vec_of T).Denot → {E : Type 0} → Result (Option (Bor (List T.Denot))) E → Fml
KeepsShown T room result = Rests (vec_of T) room (λ new. IfOk result (λ shown. IfSome shown (λ s. s.now ≡ new.items)))
