-- What was worked in is emptied, and what lies past it is as it was.
use Rattle.std.proofs.Common.{◌≡◌, ℕ, ◌+◌, ◌-◌, ◌≤◌, min, Bool, false, is_err, is_some, Some, None, Ok, Err, Option, Result, List, ◌++◌, length, drop, replicate, sym, refl, ap, ◌∙◌, arith}
use Rattle.std.proofs.lemmas.List.{drop-drop, drop_at, length-append, length-drop}
use Rattle.sets.specs.declared.NodeSet.{NodeSet}
use Rattle.sets.specs.Words.{empty_set, cleared}
use Rattle.faults.specs.declared.ProgramFault.{ProgramFault}
use Rattle.admission.specs.Admission.{unless_fault}
use Rattle.admission.specs.Memory.{Parts, emptied, short_part}
use Rattle.allocation.specs.Allocation.{is_short, afterwards}

-- lists that are equal from k on are so from any later place
pub drop_later : {A : Type 0} (k n : ℕ) (xs ys : List A) → k ≤ n → drop k xs ≡ drop k ys → drop n xs ≡ drop n ys
drop_later k n xs ys le e =
    let far : k + (n - k) ≡ n = omega arith in
    ap (λ (m : ℕ). drop m xs) (sym far) ∙ sym (drop-drop (n - k) k xs) ∙ ap (drop (n - k)) e ∙ drop-drop (n - k) k ys ∙ ap (λ (m : ℕ). drop m ys) far

pub part_emptied : (n : ℕ) (was work after : List NodeSet) → n ≤ length work → drop n work ≡ drop n was → after ≡ cleared (min n (length work)) work → after ≡ cleared n was
part_emptied n was work after le past e =
    let all : min n (length work) ≡ n = omega arith in
    e ∙ ap (λ (m : ℕ). cleared m work) all ∙ ap (λ (xs : List NodeSet). replicate n empty_set ++ xs) past

-- of a part only the first k sets were lent on
pub front_emptied : (n k : ℕ) (was front after : List NodeSet) → k ≤ n → n ≤ length was → length front ≡ k → after ≡ cleared (min n (length (front ++ drop k was))) (front ++ drop k was) → after ≡ cleared n was
front_emptied n k was front after le room size e =
    part_emptied n was (front ++ drop k was) after (omega (arith, length-append front (drop k was), length-drop k was)) (drop_later k n (front ++ drop k was) was le (drop_at front (drop k was) k size)) e

told : (s : Option ProgramFault) → is_err (unless_fault s) ≡ is_some s
told (Some e) = refl
told None = refl

-- memory is short if its lowest short part is told
pub short_told : (m : Parts) (r : Result (Unit {0}) ProgramFault) (b : Bool) → r ≡ unless_fault (short_part m) → b ≡ is_err r → b ≡ is_short m
short_told m r b e is = is ∙ ap is_err e ∙ told (short_part m)

pub roomy_emptied : (was after : Parts) → false ≡ is_short was → after ≡ emptied was → after ≡ afterwards was
roomy_emptied was after roomy e = rw (← roomy) e
