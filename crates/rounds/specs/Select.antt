-- Select: nodes return in reverse order of removal and take registers.
use Rattle.std.specs.Prelude.{ℕ, Bool, not, ◌&&◌, List, [], ◌∷◌, length, replicate, slice_index_or, slice_set}
use Rattle.counting.specs.Counting.{any, least}
use Rattle.sets.specs.Sets.{has}
use Rattle.registers.specs.Model.{Model}
use Rattle.rounds.specs.declared.Removed.{Removed}
use Rattle.rounds.specs.Interference.{Graph, class_at, neighbours}

-- the register of v among those taken; the number of registers stands for none
abbrev pub register_of : Model → List ℕ → ℕ → ℕ
register_of m taken v = slice_index_or taken v m.count

-- whether register r is of v's class and overlaps no register that a neighbour of v has taken
unfoldable pub free : Model → Graph → List ℕ → ℕ → ℕ → Bool
unfolding any has
free m g taken v r =
    let x = neighbours g v in
    let apart = not (any (λ k. let clash = m.overlaps r (register_of m taken k) in has x k && clash) (length g.classes)) in
    m.belongs r (class_at g v) && apart

-- which free register v takes: the lowest, or none
unfoldable pub choice : Model → Graph → List ℕ → ℕ → ℕ
unfolding least free
choice m g taken v = least (free m g taken v) m.count

-- the registers taken when all nodes of a list have returned, its last first
unfoldable pub selected : Model → Graph → List Removed → List ℕ
unfolding choice
selected m g [] = replicate (length g.classes) m.count
selected m g (r ∷ rs) =
    let taken = selected m g rs in
    slice_set taken r.node (choice m g taken r.node)
