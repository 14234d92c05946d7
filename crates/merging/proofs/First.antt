-- An admitted program names only its own variables, and copies within a class.
use Rattle.std.proofs.Common.{◌≡◌, ℕ, ◌<◌, Bool, true, false, cond, not, ◌||◌, ltb, ◌⊎◌, List, ◌++◌, map, length, is_some, Some, None, Ok, Err, Option, Result, sym, refl, ap, ◌∙◌, subst, inl, inr, arith}
use Rattle.std.specs.List.{range_with_len}
use Rattle.std.proofs.lemmas.List.FromFn.{get_or-map-range_with_len, length-map-range_with_len}
use Rattle.std.proofs.lemmas.List.{get_or_past}
use Rattle.std.proofs.lemmas.Bool.{cases_lt, both_ways, and_parts, lt-ltb, ltb-true, eqb-true}
use Rattle.std.proofs.lemmas.Bool.Decides.{nat_tests}
use Rattle.counting.specs.Counting.{least}
use Rattle.counting.proofs.Searches.{least_below, least_found}
use Rattle.sets.specs.Sets.{has}
use Rattle.faults.specs.declared.BitFault.{BitFault}
use Rattle.faults.specs.declared.RowFault.{RowFault}
use Rattle.rows.specs.declared.Op.{Op}
use Rattle.rows.specs.declared.Row.{Row}
use Rattle.rows.specs.Rows.{shape, only, copies, fits, reads, writes, end_row, row_at, Program}
use Rattle.source.specs.Reading.{vars_in, count_in, classes_in, class_in, class_of, word_in, row_in, row_of, part, spare, known, row_fault, fault_in, header_fault, class_fault, rows_fault, last_fault, program_in, decided, reading}
use Rattle.facts.specs.Flow.{holds}
use Rattle.admission.specs.Admission.{admitting}
use Rattle.interfering.specs.Edges.{Names, Named}
use Rattle.interfering.proofs.Living.{reads_inside, writes_inside}
use Rattle.interfering.proofs.Starting.{admitted_read}
use Rattle.merging.specs.Merging.{Alike}
use Rattle.merging.proofs.Rounds.{copy_is}

err_ok : {A B : Type 0} (e : B) (p : A) → ◌≡◌ {A = Result A B} (Err e) (Ok p) → ⊥
err_ok e p h = let z : ◌≡◌ {A = ℕ} 0 1 = cc in omega arith

ok_same : {A B : Type 0} (q p : A) → ◌≡◌ {A = Result A B} (Ok q) (Ok p) → q ≡ p
ok_same q p h = cc

-- a program is only read where the rows have no fault
rows_read : (h c : Option BitFault) (r l : Option RowFault) (q p : Program) → decided h c r l q ≡ Ok p → (r ≡ None) × (q ≡ p)
rows_read (Some e) c r l q p d = absurd (err_ok _ p d)
rows_read None (Some e) r l q p d = absurd (err_ok _ p d)
rows_read None None (Some e) l q p d = absurd (err_ok _ p d)
rows_read None None None (Some e) q p d = absurd (err_ok _ p d)
rows_read None None None None q p d = (refl, ok_same q p d)

rows_fine : (bs : List ℕ) → rows_fault bs ≡ None → (i : ℕ) → i < count_in bs → is_some (fault_in bs i) ≡ false
unfolding rows_fault
rows_fine bs h i l =
    let bad : ℕ = least (λ k. is_some (fault_in bs k)) (count_in bs) in
    elim (cases_lt bad (count_in bs)) [
      | inl lt ↦ (let none : fault_in bs bad ≡ None = rw (lt-ltb bad (count_in bs) lt) at h in
          absurd (both_ways (is_some (fault_in bs bad)) (ap is_some none) (least_found (λ k. is_some (fault_in bs k)) (count_in bs) lt)))
      | inr ge ↦ least_below (λ k. is_some (fault_in bs k)) (count_in bs) i (omega arith)
    ]

-- the third and the fourth test of four told no fault
passed : {A : Type 0} (a b c d : Bool) (x y z u : A) (rest : Option A) → is_some (cond a (Some x) (cond b (Some y) (cond (not c) (Some z) (cond (not d) (Some u) rest)))) ≡ false → (c ≡ true) × (d ≡ true)
passed true b c d x y z u rest h = absurd (both_ways true h refl)
passed false true c d x y z u rest h = absurd (both_ways true h refl)
passed false false false d x y z u rest h = absurd (both_ways true h refl)
passed false false true false x y z u rest h = absurd (both_ways true h refl)
passed false false true true x y z u rest h = (refl, refl)

row_fine : (v n : ℕ) (class : ℕ → ℕ) (i w : ℕ) → is_some (row_fault v n class i w) ≡ false →
    (known v (row_of class w) ≡ true) × (fits (row_of class w).op (class (row_of class w).d) (class (row_of class w).a) (class (row_of class w).b) ≡ true)
unfolding row_fault
row_fine v n class i w h =
    passed (ltb 12 (part w 0 4)) (not (spare w (row_of class w))) (known v (row_of class w)) (fits (row_of class w).op (class (row_of class w).d) (class (row_of class w).a) (class (row_of class w).b)) _ _ _ _ _ h

-- a field that is used is below v
used_below : (p q : Bool) (a b v x : ℕ) → (not p || ltb a v) ≡ true → (not q || ltb b v) ≡ true → holds (only p a ++ only q b) x ≡ true → x < v
unfolding holds
used_below true true a b v x ha hb h = grind (arith, nat_tests)
used_below true false a b v x ha hb h = grind (arith, nat_tests)
used_below false true a b v x ha hb h = grind (arith, nat_tests)
used_below false false a b v x ha hb h = absurd (both_ways false refl h)

one_below : (p : Bool) (d v x : ℕ) → (not p || ltb d v) ≡ true → holds (only p d) x ≡ true → x < v
unfolding holds
one_below true d v x hd h = grind (arith, nat_tests)
one_below false d v x hd h = absurd (both_ways false refl h)

known_below : (v x : ℕ) (r : Row) → known v r ≡ true → (holds (reads r) x ≡ true) ⊎ (holds (writes r) x ≡ true) → x < v
known_below v x r h k =
    let (d, rest) = and_parts (not (shape r.op).d || ltb r.d v) _ h in
    let (a, b) = and_parts (not (shape r.op).a || ltb r.a v) (not (shape r.op).b || ltb r.b v) rest in
    elim k [ inl e ↦ used_below (shape r.op).a (shape r.op).b r.a r.b v x a b e | inr e ↦ one_below (shape r.op).d r.d v x d e ]

copies_fit : (o : Op) (d a b : ℕ) → copies o ≡ true → fits o d a b ≡ true → d ≡ a
copies_fit o d a b c h = eqb-true d a (subst (λ (x : Op). fits x d a b ≡ true) (copy_is o c) h)

-- what a program that is read has
record Told (p : Program) : Type 0 where
  named : (i v : ℕ) → Named p.rows i v → v < p.vars
  long : length p.classes ≡ p.vars
  alike : Alike p.classes p.rows

copies_inside : (rows : List Row) (i : ℕ) → copies (row_at rows i).op ≡ true → i < length rows
copies_inside rows i h = elim (cases_lt i (length rows)) [
  | inl l ↦ l
  | inr l ↦ absurd (both_ways false refl (subst (λ (r : Row). copies r.op ≡ true) (get_or_past rows i end_row l) h))
]

named_inside : (rows : List Row) (i v : ℕ) → Named rows i v → i < length rows
named_inside rows i v (inl h) = reads_inside rows i v h
named_inside rows i v (inr h) = writes_inside rows i v h

module _ (bs : List ℕ) (fine : rows_fault bs ≡ None) where
  row_is : (i : ℕ) → i < count_in bs → row_at (map (row_in bs) (range_with_len 0 (count_in bs))) i ≡ row_in bs i
  row_is i l = get_or-map-range_with_len (row_in bs) 0 (count_in bs) i i end_row l (omega arith)

  told_in : Told (program_in bs)
  unfolding program_in classes_in
  told_in = record {
    named = λ i v k. (let l : i < count_in bs = rw (length-map-range_with_len (row_in bs) 0 (count_in bs)) at (named_inside (map (row_in bs) (range_with_len 0 (count_in bs))) i v k) in
        known_below (vars_in bs) v (row_in bs i) (row_fine (vars_in bs) (count_in bs) (class_of bs) i (word_in bs i) (rows_fine bs fine i l)).0
        (subst (λ (r : Row). (holds (reads r) v ≡ true) ⊎ (holds (writes r) v ≡ true)) (row_is i l) k));
    long = length-map-range_with_len (class_in bs) 0 (vars_in bs);
    alike = λ i c. (let l : i < count_in bs = rw (length-map-range_with_len (row_in bs) 0 (count_in bs)) at (copies_inside (map (row_in bs) (range_with_len 0 (count_in bs))) i c) in
        let e = row_is i l in
        subst (λ (r : Row). class_of bs r.d ≡ class_of bs r.a) (sym e)
        (copies_fit (row_in bs i).op (class_of bs (row_in bs i).d) (class_of bs (row_in bs i).a) (class_of bs (row_in bs i).b) (subst (λ (r : Row). copies r.op ≡ true) e c)
        (row_fine (vars_in bs) (count_in bs) (class_of bs) i (word_in bs i) (rows_fine bs fine i l)).1));
  }

told : (bs : List ℕ) (p : Program) → reading bs ≡ Ok p → Told p
unfolding reading
told bs p h =
    let (fine, e) = rows_read (header_fault bs) (class_fault bs) (rows_fault bs) (last_fault bs) (program_in bs) p h in
    subst Told e (told_in bs fine)

pub admitted_in_order : (bs : List ℕ) (p : Program) → admitting bs ≡ Ok p → (nodes : ℕ) → ((v : ℕ) → has nodes v ≡ ltb v p.vars) → Names p.classes nodes p.rows × Alike p.classes p.rows
admitted_in_order bs p h nodes are =
    let t = told bs p (admitted_read bs p h) in (
      record {
        named = λ i v k. are v ∙ lt-ltb v p.vars (t.named i v k);
        below = λ v e. omega (arith, ltb-true v p.vars (sym (are v) ∙ e), t.long);
      },
      t.alike,
    )
