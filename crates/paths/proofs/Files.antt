-- A file that is read names only variables that it has, and few of them.
use Rattle.std.proofs.Common.{◌≡◌, ℕ, ◌<◌, ◌≤◌, Bool, true, false, cond, not, ◌||◌, ltb, List, ◌++◌, map, length, is_some, Some, None, Ok, Err, Option, Result, sym, refl, ap, ◌∙◌, inl, inr, arith}
use Rattle.std.specs.List.{range_with_len}
use Rattle.std.proofs.lemmas.List.FromFn.{get_or-map-range_with_len, length-map-range_with_len}
use Rattle.std.proofs.lemmas.Bool.{cases_Bool, cases_lt, both_ways, and_parts, lt-ltb}
use Rattle.std.proofs.lemmas.Bool.Decides.{nat_tests}
use Rattle.counting.specs.Counting.{least}
use Rattle.counting.proofs.Searches.{least_below, least_found}
use Rattle.faults.specs.declared.BitFault.{BitFault}
use Rattle.faults.specs.declared.RowFault.{RowFault}
use Rattle.rows.specs.declared.Row.{Row}
use Rattle.rows.specs.Rows.{shape, only, reads, end_row, row_at, Program}
use Rattle.facts.specs.Flow.{holds}
use Rattle.source.specs.Reading.{vars_in, count_in, class_of, word_in, row_in, row_of, part, spare, known, row_fault, fault_in, header_fault, class_fault, rows_fault, last_fault, program_in, decided, reading}

some_none : {A : Type 0} (e : A) → Some e ≡ None → ⊥
some_none e h = let z : ◌≡◌ {A = Bool} true false = ap is_some h in both_ways true z refl

err_ok : {A B : Type 0} (e : B) (p : A) → ◌≡◌ {A = Result A B} (Err e) (Ok p) → ⊥
err_ok e p h = let z : ◌≡◌ {A = ℕ} 0 1 = cc in omega arith

ok_same : {A B : Type 0} (q p : A) → ◌≡◌ {A = Result A B} (Ok q) (Ok p) → q ≡ p
ok_same q p h = cc

-- a program is only decided on where no fault was found
decided_ok : (h c : Option BitFault) (r l : Option RowFault) (q p : Program) → decided h c r l q ≡ Ok p → (h ≡ None) × (r ≡ None) × (q ≡ p)
decided_ok (Some e) c r l q p d = absurd (err_ok _ p d)
decided_ok None (Some e) r l q p d = absurd (err_ok _ p d)
decided_ok None None (Some e) l q p d = absurd (err_ok _ p d)
decided_ok None None None (Some e) q p d = absurd (err_ok _ p d)
decided_ok None None None None q p d = (refl, refl, ok_same q p d)

-- a header without a fault has few variables
header_few : (bs : List ℕ) → header_fault bs ≡ None → vars_in bs ≤ 64
unfolding header_fault
header_few bs h =
    elim (cases_Bool (ltb (length bs) 2)) [
      | inl e ↦ absurd (some_none _ (rw e at h))
      | inr e ↦ elim (cases_lt 64 (vars_in bs)) [
        | inl l ↦ absurd (some_none _ (rw (e, lt-ltb 64 (vars_in bs) l) at h))
        | inr l ↦ l
      ]
    ]

-- no row has a fault where the rows have none
rows_fine : (bs : List ℕ) → rows_fault bs ≡ None → (i : ℕ) → i < count_in bs → is_some (fault_in bs i) ≡ false
unfolding rows_fault
rows_fine bs h i l =
    let bad : ℕ = least (λ k. is_some (fault_in bs k)) (count_in bs) in
    elim (cases_lt bad (count_in bs)) [
      | inl lt ↦ (let none : fault_in bs bad ≡ None = rw (lt-ltb bad (count_in bs) lt) at h in
          absurd (both_ways (is_some (fault_in bs bad)) (ap is_some none) (least_found (λ k. is_some (fault_in bs k)) (count_in bs) lt)))
      | inr ge ↦ least_below (λ k. is_some (fault_in bs k)) (count_in bs) i (omega arith)
    ]

-- the third of three tests failed to tell a fault
third : {A : Type 0} (a b c : Bool) (x y z : A) (rest : Option A) → is_some (cond a (Some x) (cond b (Some y) (cond (not c) (Some z) rest))) ≡ false → c ≡ true
third true b c x y z rest h = absurd (both_ways true h refl)
third false true c x y z rest h = absurd (both_ways true h refl)
third false false true x y z rest h = refl
third false false false x y z rest h = absurd (both_ways true h refl)

-- a row without a fault names only variables that there are
fine_known : (v n : ℕ) (class : ℕ → ℕ) (i w : ℕ) → is_some (row_fault v n class i w) ≡ false → known v (row_of class w) ≡ true
unfolding row_fault
fine_known v n class i w h = third (ltb 12 (part w 0 4)) (not (spare w (row_of class w))) (known v (row_of class w)) _ _ _ _ h

-- a field that is used is below v
used_below : (p q : Bool) (a b v x : ℕ) → (not p || ltb a v) ≡ true → (not q || ltb b v) ≡ true → holds (only p a ++ only q b) x ≡ true → x < v
unfolding holds
used_below true true a b v x ha hb h = grind (arith, nat_tests)
used_below true false a b v x ha hb h = grind (arith, nat_tests)
used_below false true a b v x ha hb h = grind (arith, nat_tests)
used_below false false a b v x ha hb h = absurd (both_ways false refl h)

-- so does it read only such
known_reads : (v x : ℕ) (r : Row) → known v r ≡ true → holds (reads r) x ≡ true → x < v
known_reads v x r h k =
    let (_, rest) = and_parts (not (shape r.op).d || ltb r.d v) _ h in
    let (a, b) = and_parts (not (shape r.op).a || ltb r.a v) (not (shape r.op).b || ltb r.b v) rest in
    used_below (shape r.op).a (shape r.op).b r.a r.b v x a b k

-- what a program that is read has
pub record Held (p : Program) : Type 0 where
  pub few : p.vars ≤ 64
  pub named : (i v : ℕ) → i < length p.rows → holds (reads (row_at p.rows i)) v ≡ true → v < p.vars

-- a file without these faults holds such a program
held_in : (bs : List ℕ) → header_fault bs ≡ None → rows_fault bs ≡ None → Held (program_in bs)
unfolding program_in
held_in bs h r = record {
  few = header_few bs h;
  named = λ i v l k. (let lt : i < count_in bs = rw (length-map-range_with_len (row_in bs) 0 (count_in bs)) at l in
      let row : row_at (map (row_in bs) (range_with_len 0 (count_in bs))) i ≡ row_in bs i = get_or-map-range_with_len (row_in bs) 0 (count_in bs) i i end_row lt (omega arith) in
      known_reads (vars_in bs) v (row_in bs i) (fine_known (vars_in bs) (count_in bs) (class_of bs) i (word_in bs i) (rows_fine bs r i lt)) (ap (λ (s : Row). holds (reads s) v) (sym row) ∙ k));
}

pub held : (bs : List ℕ) (p : Program) → reading bs ≡ Ok p → Held p
unfolding reading
held bs p h =
    let (a, b, e) = decided_ok (header_fault bs) (class_fault bs) (rows_fault bs) (last_fault bs) (program_in bs) p h in
    rw (← e) (held_in bs a b)
