-- Memory of the full size is never too short, so what is answered is what the definition says.
use Rattle.std.proofs.Common.{◌≡◌, ℕ, cond, ltb, List, length, Some, None, Ok, Err, Option, Result, refl, ap, ◌∙◌}
use Rattle.faults.specs.declared.RowFault.{RowFault}
use Rattle.faults.specs.declared.ProgramFault.{ProgramFault}
use Rattle.faults.specs.declared.ProgramFault.TheVariants.{Memory}
use Rattle.rows.specs.Rows.{Program}
use Rattle.source.specs.Reading.{reading}
use Rattle.admission.specs.Admission.{judged, admitting}
use Rattle.admission.specs.Memory.{Parts, short_part, answered_by, unless_short, answered}

short_none : (m : Parts) → length m.first ≡ 512 → length m.second ≡ 448 → length m.third ≡ 448 → short_part m ≡ None
short_none m a b c =
    λ i. cond (ltb (a i) 512) (Some (Memory 0)) (cond (ltb (b i) 448) (Some (Memory 1)) (cond (ltb (c i) 448) (Some (Memory 2)) None))

by_reading : (r : Result Program RowFault) (m : Parts) → (answered_by r m).result ≡ judged r
by_reading (Err e) m = refl
by_reading (Ok p) m = refl

pub answered_result : (bs : List ℕ) (m : Parts) → length m.first ≡ 512 → length m.second ≡ 448 → length m.third ≡ 448 → (answered bs m).result ≡ admitting bs
unfolding answered admitting
answered_result bs m a b c =
    ap (λ (o : Option ProgramFault). (unless_short o (reading bs) m).result) (short_none m a b c) ∙ by_reading (reading bs) m
