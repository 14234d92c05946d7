-- From what the solver leaves in the memory to which rows are reached and which are sure.
use Rattle.std.proofs.Common.{◌≡◌, ℕ, ◌+◌, ◌-◌, ◌<◌, ◌≤◌, min, Bool, true, false, not, eqb, List, ◌++◌, length, get_or, take, drop, replicate, Some, None, Option, Ok, Err, Result, sym, refl, ap, ◌∙◌, inl, inr, arith}
use Rattle.std.proofs.lemmas.List.{drop-drop, get_or-take}
use Rattle.std.proofs.lemmas.Bool.{le-leb, lt-ltb, le-ltb, cases_lt}
use Rattle.counting.specs.Counting.{least}
use Rattle.counting.proofs.Searches.{least_is, least_none}
use Rattle.sets.specs.Sets.{minus}
use Rattle.sets.specs.Words.{cleared}
use Rattle.facts.specs.Flow.{Flow, rows as rows_of, at, feeders, incoming, solved}
use Rattle.facts.specs.Solving.{suffices, Solved, Answers}
use Rattle.facts.proofs.Memory.{answered as solved-when}
use Rattle.faults.specs.declared.RowFault.{RowFault}
use Rattle.faults.specs.declared.ProgramFault.{ProgramFault}
use Rattle.faults.specs.declared.ProgramFault.TheVariants.{Rows, Unreached, Unwritten, Memory}
use Rattle.rows.specs.declared.Row.{Row}
use Rattle.rows.specs.Rows.{reads, set_of, row_at, Program}
use Rattle.source.specs.declared.program.Source.{Source}
use Rattle.source.specs.Reading.{reading}
use Rattle.admission.specs.Kinds.{reach, initialisation, reached, sure, written_before}
use Rattle.admission.specs.Admission.{earliest, fact_fault, faultless, unless_fault}
use Rattle.admission.specs.Memory.{Parts, emptied, short_part, answer, answered}
use Rattle.admission.specs.Results.{as_admitted}
use Rattle.admission.proofs.Ways.{nexts_length}

-- the memory of admission suffices for both kinds
pub settled : (f : Flow) (r : Bool) (facts facts' sets sets' : List ℕ) → f.backward ≡ false → rows_of f ≤ 128 → 128 ≤ length facts → 128 ≤ length sets →
    r ≡ suffices f (length facts) (length sets) → Answers r f facts facts' sets sets' → Solved f facts facts' sets sets'
settled f r facts facts' sets sets' b n lf ls room a =
    let yes : r ≡ true = room ∙ rw (le-leb (rows_of f) (length facts) (omega arith), b, le-leb (rows_of f) (length sets) (omega arith), le-leb (rows_of f) 448 (omega arith)) in
    solved-when r f facts facts' sets sets' a yes

-- what is untouched past n is untouched past 128
pub further : (n : ℕ) (xs ys : List ℕ) → n ≤ 128 → drop n xs ≡ drop n ys → drop 128 xs ≡ drop 128 ys
further n xs ys h e =
    let s : n + (128 - n) ≡ 128 = omega arith in
    ap (λ (m : ℕ). drop m xs) (sym s) ∙ sym (drop-drop (128 - n) n xs) ∙ ap (drop (128 - n)) e ∙ drop-drop (128 - n) n ys ∙ ap (λ (m : ℕ). drop m ys) s

twice : (b : Bool) → not (not b) ≡ b
twice true = refl
twice false = refl

-- a row is unreached if its fact is the empty set
pub unreached_at : (rs : List Row) (facts : List ℕ) (i : ℕ) (r : Bool) → i < length rs → length rs ≤ length facts → take (rows_of (reach rs)) facts ≡ solved (reach rs) → r ≡ eqb (get_or facts i 0) 0 → r ≡ not (reached rs i)
unfolding reached
unreached_at rs facts i r lt room same h =
    let n : ℕ = rows_of (reach rs) in
    let len : n ≡ length rs = nexts_length 0 rs in
    let here : get_or facts i 0 ≡ at (reach rs) (solved (reach rs)) i = sym (get_or-take n facts i 0 (omega (arith, len))) ∙ ap (λ (xs : List ℕ). get_or xs i 0) same in
    h ∙ rw here (sym (twice _))

-- a row is sure if it reads nothing but what is written before it
pub sure_at : (vars : ℕ) (rs : List Row) (facts : List ℕ) (written i : ℕ) (r : Bool) → take (rows_of (initialisation vars rs)) facts ≡ solved (initialisation vars rs) →
    written ≡ incoming (initialisation vars rs) (feeders (initialisation vars rs)) (at (initialisation vars rs) (take (rows_of (initialisation vars rs)) facts)) i →
    r ≡ eqb (minus (set_of (reads (row_at rs i))) written) 0 → r ≡ sure vars rs i
unfolding sure written_before
sure_at vars rs facts written i r same ew h =
    let before = ew ∙ ap (λ (xs : List ℕ). incoming (initialisation vars rs) (feeders (initialisation vars rs)) (at (initialisation vars rs) xs) i) same in
    h ∙ rw before

-- the lowest that passes
pub earliest_is : (t : ℕ → Bool) (n k : ℕ) → k < n → ((j : ℕ) → j < k → t j ≡ false) → t k ≡ true → Some k ≡ earliest t n
earliest_is t n k l low h = let e = least_is t n k l low h in rw (← e, lt-ltb k n l) refl

pub earliest_none : (t : ℕ → Bool) (n : ℕ) → ((j : ℕ) → j < n → t j ≡ false) → None ≡ earliest t n
earliest_none t n low = let e = least_none t n low in rw (← e, le-ltb n n (omega arith)) refl

found : (t : ℕ → Bool) (n k : ℕ) → Some k ≡ earliest t n → (k ≡ least t n) × (k < n)
found t n k e = elim (cases_lt (least t n) n) [
  | inl l ↦ (let s : Some k ≡ Some (least t n) = e ∙ rw (lt-ltb (least t n) n l) refl in let q : k ≡ least t n = ap value s in (q, omega (arith, q, l)))
  | inr l ↦ (let z : ◌≡◌ {A = Option ℕ} (Some k) None = e ∙ rw (le-ltb (least t n) n l) refl in cc)
]
  where
    value : Option ℕ → ℕ
    value (Some k) = k
    value None = 0

missed : (t : ℕ → Bool) (n : ℕ) → None ≡ earliest t n → n ≤ least t n
missed t n e = elim (cases_lt (least t n) n) [
  | inl l ↦ (let z : ◌≡◌ {A = Option ℕ} None (Some (least t n)) = e ∙ rw (lt-ltb (least t n) n l) refl in cc)
  | inr l ↦ l
]

-- the fault by the two searches over the rows
pub fault_lost : (p : Program) (rs : List Row) (lost : ℕ) → rs ≡ p.rows → lost ≡ least (λ i. not (reached rs i)) (length rs) → lost < length rs → Some (Unreached lost) ≡ fact_fault p
unfolding fact_fault
fault_lost p rs lost same e lt = rw (← same, ← e, lt-ltb lost (length rs) lt)

pub fault_raw : (p : Program) (rs : List Row) (lost raw : ℕ) → rs ≡ p.rows → lost ≡ least (λ i. not (reached rs i)) (length rs) → length rs ≤ lost →
    raw ≡ least (λ i. not (sure p.vars rs i)) (length rs) → raw < length rs → Some (Unwritten raw) ≡ fact_fault p
unfolding fact_fault
fault_raw p rs lost raw same e le f lt = rw (← same, ← e, le-ltb lost (length rs) le, ← f, lt-ltb raw (length rs) lt)

pub fault_none : (p : Program) (rs : List Row) (lost raw : ℕ) → rs ≡ p.rows → lost ≡ least (λ i. not (reached rs i)) (length rs) → length rs ≤ lost →
    raw ≡ least (λ i. not (sure p.vars rs i)) (length rs) → length rs ≤ raw → None ≡ fact_fault p
unfolding fact_fault
fault_none p rs lost raw same e le f ge = rw (← same, ← e, le-ltb lost (length rs) le, ← f, le-ltb raw (length rs) ge)

-- the answer by what the two searches found
pub refused_lost : (p : Program) (rs : List Row) (lost : ℕ) → rs ≡ p.rows → Some lost ≡ earliest (λ i. not (reached rs i)) (length rs) → Err (Unreached lost) ≡ unless_fault (fact_fault p)
refused_lost p rs lost same e = let f = found (λ i. not (reached rs i)) (length rs) lost e in ap unless_fault (fault_lost p rs lost same f.0 f.1)

pub refused_raw : (p : Program) (rs : List Row) (raw : ℕ) → rs ≡ p.rows → None ≡ earliest (λ i. not (reached rs i)) (length rs) → Some raw ≡ earliest (λ i. not (sure p.vars rs i)) (length rs) → Err (Unwritten raw) ≡ unless_fault (fact_fault p)
refused_raw p rs raw same e g =
    let m = missed (λ i. not (reached rs i)) (length rs) e in
    let f = found (λ i. not (sure p.vars rs i)) (length rs) raw g in
    ap unless_fault (fault_raw p rs (least (λ i. not (reached rs i)) (length rs)) raw same refl m f.0 f.1)

pub refused_none : (p : Program) (rs : List Row) → rs ≡ p.rows → None ≡ earliest (λ i. not (reached rs i)) (length rs) → None ≡ earliest (λ i. not (sure p.vars rs i)) (length rs) → Ok tt ≡ unless_fault (fact_fault p)
refused_none p rs same e g =
    let m = missed (λ i. not (reached rs i)) (length rs) e in
    let k = missed (λ i. not (sure p.vars rs i)) (length rs) g in
    ap unless_fault (fault_none p rs (least (λ i. not (reached rs i)) (length rs)) (least (λ i. not (sure p.vars rs i)) (length rs)) same refl m refl k)

-- ---- the whole answer

-- parts without a short one
pub roomy : (m : Parts) → Ok tt ≡ unless_fault (short_part m) → (512 ≤ length m.first) × (448 ≤ length m.second) × (448 ≤ length m.third)
roomy m h =
    elim (cases_lt (length m.first) 512) [
      | inl a ↦ absurd (ok_err (Memory 0) (h ∙ rw (lt-ltb (length m.first) 512 a)))
      | inr a ↦ elim (cases_lt (length m.second) 448) [
        | inl b ↦ absurd (ok_err (Memory 1) (h ∙ rw (le-ltb (length m.first) 512 a, lt-ltb (length m.second) 448 b)))
        | inr b ↦ elim (cases_lt (length m.third) 448) [
          | inl d ↦ absurd (ok_err (Memory 2) (h ∙ rw (le-ltb (length m.first) 512 a, le-ltb (length m.second) 448 b, lt-ltb (length m.third) 448 d)))
          | inr d ↦ (a, b, d)
        ]
      ]
    ]
  where
    ok_err : (e : ProgramFault) → ◌≡◌ {A = Result (Unit {0}) ProgramFault} (Ok tt) (Err e) → ⊥
    ok_err e k = let z : ◌≡◌ {A = ℕ} 0 1 = cc in omega arith

no_fault : (o : Option ProgramFault) → Ok tt ≡ unless_fault o → None ≡ o
no_fault None h = refl
no_fault (Some e) h = let z : ◌≡◌ {A = Result (Unit {0}) ProgramFault} (Ok tt) (Err e) = h in cc

a_fault : (o : Option ProgramFault) (e : ProgramFault) → Err e ≡ unless_fault o → Some e ≡ o
a_fault None e h = let z : ◌≡◌ {A = Result (Unit {0}) ProgramFault} (Err e) (Ok tt) = h in cc
a_fault (Some d) e h = let z : Err e ≡ Err d = h in ap (λ (r : Result (Unit {0}) ProgramFault). err_or r) z
  where
    err_or : Result (Unit {0}) ProgramFault → Option ProgramFault
    err_or (Err d) = Some d
    err_or (Ok u) = None

-- a part whose first sets were worked in, emptied
pub part_emptied : (n : ℕ) (was work after : List ℕ) → 128 ≤ n → n ≤ length work → drop 128 work ≡ drop 128 was → after ≡ cleared (min n (length work)) work → after ≡ cleared n was
part_emptied n was work after low room same e =
    let s : 128 + (n - 128) ≡ n = omega arith in
    let rest : drop n work ≡ drop n was = ap (λ (m : ℕ). drop m work) (sym s) ∙ sym (drop-drop (n - 128) 128 work) ∙ ap (drop (n - 128)) same ∙ drop-drop (n - 128) 128 was ∙ ap (λ (m : ℕ). drop m was) s in
    let whole : min n (length work) ≡ n = omega arith in
    e ∙ ap (λ (m : ℕ). cleared m work) whole ∙ ap (λ (xs : List ℕ). replicate n 0 ++ xs) rest

pub answered_short : (bs : List ℕ) (m : Parts) (e : ProgramFault) → Err e ≡ unless_fault (short_part m) → answer (Err e) m ≡ answered bs m
unfolding answered
answered_short bs m e h = rw (← a_fault (short_part m) e h)

pub answered_unread : (bs : List ℕ) (m : Parts) (r : Result Source ProgramFault) (d : ProgramFault) (e : RowFault) → Ok tt ≡ unless_fault (short_part m) → Err e ≡ reading bs → r ≡ Err d → d ≡ Rows e → answer (as_admitted r) m ≡ answered bs m
unfolding answered
answered_unread bs m r d e n h p q = rw (p, q, ← no_fault (short_part m) n, ← h)

pub answered_read : (bs : List ℕ) (m after : Parts) (p : Program) (r : Result Program ProgramFault) → Ok tt ≡ unless_fault (short_part m) → Ok p ≡ reading bs → after ≡ emptied m → r ≡ faultless (fact_fault p) p → answer r after ≡ answered bs m
unfolding answered
answered_read bs m after p r n h e f = rw (← no_fault (short_part m) n, ← h, e, f)

-- the answer to a file that was read
pub judged_err : (p : Program) (e : ProgramFault) → Err e ≡ unless_fault (fact_fault p) → Err e ≡ faultless (fact_fault p) p
judged_err p e h = rw (← a_fault (fact_fault p) e h)

pub judged_ok : (p : Program) → Ok tt ≡ unless_fault (fact_fault p) → Ok p ≡ faultless (fact_fault p) p
judged_ok p h = rw (← no_fault (fact_fault p) h)
