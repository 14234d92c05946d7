-- The memory that admission and rounds leave.
use Rattle.std.proofs.Common.{◌≡◌, ℕ, ◌+◌, ◌≤◌, List, ◌++◌, length, drop, replicate, Some, None, Ok, Err, Option, Result, sym, refl, ap, ◌∙◌, arith, length-append, length-drop}
use Rattle.std.proofs.lemmas.List.{length-replicate, drop_at}
use Rattle.std.proofs.lemmas.Bool.{le-ltb}
use Rattle.faults.specs.declared.RowFault.{RowFault}
use Rattle.faults.specs.declared.ProgramFault.{ProgramFault}
use Rattle.sets.specs.declared.NodeSet.{NodeSet}
use Rattle.sets.specs.Words.{cleared, empty_set}
use Rattle.rows.specs.Rows.{Program}
use Rattle.source.specs.Reading.{reading}
use Rattle.admission.specs.Admission.{unless_fault, admitting, judged}
use Rattle.admission.specs.Memory.{Parts, short_part, emptied, answered, unless_short}
use Rattle.admission.proofs.Judging.{roomy}
use Rattle.allocation.specs.Allocation.{afterwards}

-- what an answer that holds a program says of the file and the memory
pub record AdmitsIn (bs : List ℕ) (m : Parts) (p : Program) : Type 0 where
  pub admits : admitting bs ≡ Ok p
  pub whole : short_part m ≡ None
  pub memory : (answered bs m).memory ≡ emptied m

by_parts : (s : Option ProgramFault) (r : Result Program RowFault) (m : Parts) (p : Program) → (unless_short s r m).result ≡ Ok p →
    (judged r ≡ Ok p) × (s ≡ None) × ((unless_short s r m).memory ≡ emptied m)
by_parts (Some e) r m p h = absurd (let z : ◌≡◌ {A = ℕ} 0 1 = cc in omega arith)
by_parts None (Err e) m p h = absurd (let z : ◌≡◌ {A = ℕ} 0 1 = cc in omega arith)
by_parts None (Ok q) m p h = (h, refl, refl)

pub admits_in : (bs : List ℕ) (m : Parts) (p : Program) → (answered bs m).result ≡ Ok p → AdmitsIn bs m p
unfolding answered admitting
admits_in bs m p h = let t = by_parts (short_part m) (reading bs) m p h in record { admits = t.0; whole = t.1; memory = t.2 }

cleared_twice : (n : ℕ) (ss : List NodeSet) → cleared n (cleared n ss) ≡ cleared n ss
cleared_twice n ss = ap (λ (xs : List NodeSet). replicate n empty_set ++ xs) (drop_at (replicate n empty_set) (drop n ss) n (length-replicate n empty_set))

cleared_long : (n : ℕ) (ss : List NodeSet) → n ≤ length ss → length (cleared n ss) ≡ length ss
cleared_long n ss h = length-append (replicate n empty_set) (drop n ss) ∙ (let e : length (replicate n empty_set) + length (drop n ss) ≡ length ss = omega (arith, length-replicate n empty_set, length-drop n ss) in e)

-- a memory that was emptied has room, and is left as it is
pub emptied_twice : (m : Parts) → emptied (emptied m) ≡ emptied m
emptied_twice m =
    let a = cleared_twice 512 m.first in
    let b = cleared_twice 448 m.second in
    let c = cleared_twice 448 m.third in
    rw (a, b, c)

pub emptied_whole : (m : Parts) → short_part m ≡ None → short_part (emptied m) ≡ None
emptied_whole m h =
    let (a, b, c) = roomy m (sym (ap unless_fault h)) in
    let x = cleared_long 512 m.first a in
    let y = cleared_long 448 m.second b in
    let z = cleared_long 448 m.third c in
    rw (x, y, z, le-ltb (length m.first) 512 a, le-ltb (length m.second) 448 b, le-ltb (length m.third) 448 c)

by_short : (s : Option ProgramFault) (m : Parts) → short_part m ≡ s → afterwards (afterwards m) ≡ afterwards m
by_short (Some e) m h = rw (h, h)
by_short None m h = rw h (rw (emptied_whole m h) (emptied_twice m))

-- many rounds leave what one leaves
pub twice_afterwards : (m : Parts) → afterwards (afterwards m) ≡ afterwards m
twice_afterwards m = by_short (short_part m) m refl

-- rounds after an admission leave what the admission left
pub after_admission : (m : Parts) → short_part m ≡ None → afterwards (emptied m) ≡ emptied m
after_admission m h = rw (emptied_whole m h) (emptied_twice m)
