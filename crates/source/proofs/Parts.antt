-- The parts of the reader against what stands in the file.
use Rattle.std.proofs.Common.{◌≡◌, ℕ, ◌+◌, ◌-◌, ◌*◌, ◌/◌, ◌<◌, ◌≤◌, min, true, false, cond, not, ◌&&◌, ◌||◌, eqb, ltb, leb, List, ◌++◌, map, length, get_or, drop, replicate, Some, None, Ok, Err, Option, Result, sym, refl, ap, ◌∙◌, inl, inr, arith, length-append, length-drop}
use Rattle.std.specs.List.{range_with_len}
use Rattle.std.proofs.lemmas.List.FromFn.{get_or-map-range_with_len, length-map-range_with_len}
use Rattle.std.proofs.lemmas.List.{get_or_past, get_or-replicate, get_or-drop, length-replicate, get_or_append_left, get_or-append_right}
use Rattle.counting.specs.Counting.{least}
use Rattle.counting.proofs.Searches.{least_is, least_none}
use Rattle.std.proofs.lemmas.Bool.{lt-ltb, le-ltb, eq-eqb, ne_eqb, cases_Bool, cases_lt, cond-true, cond-false}
use Rattle.faults.specs.declared.BitFault.{BitFault}
use Rattle.faults.specs.declared.BitFault.TheVariants.{Short, Class, Fill}
use Rattle.faults.specs.declared.RowFault.{RowFault}
use Rattle.faults.specs.declared.RowFault.TheVariants.{Opcode, Unused, Variable, Classes, Target}
use Rattle.rows.specs.declared.Op.{Op}
use Rattle.rows.specs.declared.Row.{Row}
use Rattle.rows.specs.declared.UnknownOpcode.{UnknownOpcode}
use Rattle.rows.specs.Rows.{shape, op_of, op_in_source, fits}
use Rattle.source.specs.declared.header.Header.{Header}
use Rattle.source.specs.Bits.{field}
use Rattle.source.specs.Reading.{vars_in, count_in, class_in, classes_in, class_of, class_bytes, size_of, fill_in, counts_fault, header_fault, class_fault, part, row_by, row_of, spare, known, row_fault}
use Rattle.source.specs.Results.{Counted, Headed, Classed}

pub headed_short : (bs : List ℕ) → length bs < 2 → header_fault bs ≡ Some Short
unfolding header_fault
headed_short bs h = rw (lt-ltb (length bs) 2 h)

pub headed_by : (bs : List ℕ) → 2 ≤ length bs → header_fault bs ≡ counts_fault (vars_in bs) (count_in bs) (length bs)
unfolding header_fault
headed_by bs h = rw (le-ltb (length bs) 2 h)

-- counts without a fault tell the size of the file
pub counted_size : (v n size : ℕ) → counts_fault v n size ≡ None → size ≡ size_of v n
counted_size v n size h =
    elim (cases_Bool (ltb 64 v)) [
      | inl e ↦ absurd (some_none _ (sym (rw e at h)))
      | inr e ↦ elim (cases_Bool (eqb n 0 || ltb 128 n)) [
        | inl f ↦ absurd (some_none _ (sym (rw (e, f) at h)))
        | inr f ↦ elim (cases_lt size (size_of v n)) [
          | inl g ↦ absurd (some_none _ (sym (rw (e, f, lt-ltb size (size_of v n) g) at h)))
          | inr g ↦ elim (cases_lt (size_of v n) size) [
            | inl k ↦ absurd (some_none _ (sym (rw (e, f, le-ltb size (size_of v n) g, lt-ltb (size_of v n) size k) at h)))
            | inr k ↦ omega arith
          ]
        ]
      ]
    ]
  where
    some_none : (e : BitFault) → None ≡ Some e → ⊥
    some_none e h = let z : ◌≡◌ {A = ℕ} 0 1 = cc in omega arith

-- two bytes taken, and the counts in them judged
pub headed : (bs : List ℕ) (v n size q : ℕ) (r : Result Header BitFault) → 2 ≤ length bs → size ≡ length bs → v ≡ vars_in bs → n ≡ count_in bs → q ≡ 16 → Counted v n size r → Headed bs r q
headed bs v n size q (Ok h) two es ev en eq (c, hv, hn) =
    let none = rw (es, ev, en) at c in
    (headed_by bs two ∙ none, record { vars = hv ∙ ev; count = hn ∙ en; size = counted_size (vars_in bs) (count_in bs) (length bs) none }, eq)
headed bs v n size q (Err e) two es ev en eq c = headed_by bs two ∙ rw (es, ev, en) at c

-- a file too short for a header
pub headed_none : (bs : List ℕ) (r : Result Header BitFault) (e : BitFault) (q : ℕ) → length bs < 2 → e ≡ Short → r ≡ Err e → Headed bs r q
headed_none bs r e q h s f = rw (f, s) (headed_short bs h)

-- ---- a row

pub known_op : (n : ℕ) (o : Op) → Some o ≡ cond (ltb 12 n) None (Some (op_of n)) → (ltb 12 n ≡ false) × (o ≡ op_of n)
known_op n o h = elim (cases_Bool (ltb 12 n)) [
  | inl e ↦ (let z : Some o ≡ None = h ∙ rw e in absurd (let y : ◌≡◌ {A = ℕ} 0 1 = cc in omega arith))
  | inr e ↦ (e, (let z : Some o ≡ Some (op_of n) = h ∙ rw e in cc))
]

pub unknown_op : (n : ℕ) → ◌≡◌ {A = Option Op} None (cond (ltb 12 n) None (Some (op_of n))) → ltb 12 n ≡ true
unknown_op n h = elim (cases_Bool (ltb 12 n)) [
  | inl e ↦ e
  | inr e ↦ (let z : None ≡ Some (op_of n) = h ∙ rw e in absurd (let y : ◌≡◌ {A = ℕ} 0 1 = cc in omega arith))
]

op_read : (n : ℕ) (o : Op) → Ok o ≡ op_in_source n → (ltb 12 n ≡ false) × (o ≡ op_of n)
op_read n o h = elim (cases_Bool (ltb 12 n)) [
  | inl e ↦ (let z : ◌≡◌ {A = Result Op UnknownOpcode} (Ok o) (Err (record { 0 = n })) = h ∙ rw e in cc)
  | inr e ↦ (e, (let z : Ok o ≡ Ok (op_of n) = h ∙ rw e in cc))
]

op_refused : (n : ℕ) (f : UnknownOpcode) → Err f ≡ op_in_source n → ltb 12 n ≡ true
op_refused n f h = elim (cases_Bool (ltb 12 n)) [
  | inl e ↦ e
  | inr e ↦ (let z : Err f ≡ Ok (op_of n) = h ∙ rw e in cc)
]

-- the tests of a row whose opcode is known
abbrev pub tests : ℕ → ℕ → (ℕ → ℕ) → ℕ → ℕ → Row → Option RowFault
tests v n class i w r =
    cond (not (spare w r)) (Some (Unused i))
    (cond (not (known v r)) (Some (Variable i))
    (cond (not (fits r.op (class r.d) (class r.a) (class r.b))) (Some (Classes i))
    (cond ((shape r.op).target && leb n r.target) (Some (Target i))
    None)))

pub judged_none : (v n : ℕ) (class : ℕ → ℕ) (i w m : ℕ) (f : UnknownOpcode) → m ≡ part w 0 4 → Err f ≡ op_in_source m → row_fault v n class i w ≡ Some (Opcode i)
unfolding row_fault
judged_none v n class i w m f e h = cond-true _ _ _ (op_refused (part w 0 4) f (h ∙ ap op_in_source e))

-- the first fault of a row is that of its tests, and the row is that of its word
pub judged_by : (v n : ℕ) (class : ℕ → ℕ) (i w m : ℕ) (o : Op) (r : Row) → m ≡ part w 0 4 → Ok o ≡ op_in_source m → r ≡ row_by o class w →
    (row_fault v n class i w ≡ tests v n class i w r) × (r ≡ row_of class w)
unfolding row_fault
judged_by v n class i w m o r e h b =
    let k = op_read (part w 0 4) o (h ∙ ap op_in_source e) in
    let f : r ≡ row_of class w = b ∙ ap (λ (x : Op). row_by x class w) k.1 in
    (cond-false _ _ _ k.0 ∙ ap (tests v n class i w) (sym f), f)

-- ---- classes

small_class : (c : ℕ) → c < 3 → eqb c 3 ≡ false
small_class c h = ne_eqb c 3 (λ e. omega arith)

pub classes_bad : (bs : List ℕ) (v : ℕ) → v < vars_in bs → ((k : ℕ) → k < v → class_in bs k < 3) → class_in bs v ≡ 3 → class_fault bs ≡ Some (Class v)
unfolding class_fault
classes_bad bs v lt below here =
    let e : v ≡ least (λ k. eqb (class_in bs k) 3) (vars_in bs) = least_is _ (vars_in bs) v lt (λ k l. small_class (class_in bs k) (below k l)) (eq-eqb (class_in bs v) 3 here) in
    rw (← e, lt-ltb v (vars_in bs) lt)

classes_good : (bs : List ℕ) → ((k : ℕ) → k < vars_in bs → class_in bs k < 3) → class_fault bs ≡ cond (eqb (fill_in bs) 0) None (Some Fill)
unfolding class_fault
classes_good bs below =
    let e : vars_in bs ≡ least (λ k. eqb (class_in bs k) 3) (vars_in bs) = least_none _ (vars_in bs) (λ k l. small_class (class_in bs k) (below k l)) in
    rw (← e, le-ltb (vars_in bs) (vars_in bs) (omega arith))

pub classes_none : (bs : List ℕ) → ((k : ℕ) → k < vars_in bs → class_in bs k < 3) → fill_in bs ≡ 0 → class_fault bs ≡ None
classes_none bs below z = classes_good bs below ∙ rw (eq-eqb (fill_in bs) 0 z)

pub classes_fill : (bs : List ℕ) → ((k : ℕ) → k < vars_in bs → class_in bs k < 3) → (fill_in bs ≡ 0 → ⊥) → class_fault bs ≡ Some Fill
classes_fill bs below ne = classes_good bs below ∙ rw (ne_eqb (fill_in bs) 0 ne)

-- an array of classes, zero past the last variable
pub class_list : (bs cs : List ℕ) → ((k : ℕ) → k < vars_in bs → get_or cs k 0 ≡ class_in bs k) → ((k : ℕ) → vars_in bs ≤ k → get_or cs k 0 ≡ 0) → (v : ℕ) → get_or cs v 0 ≡ class_of bs v
unfolding classes_in
class_list bs cs inside past v =
    elim (cases_lt v (vars_in bs)) [
      | inl l ↦ inside v l ∙ sym (get_or-map-range_with_len (class_in bs) 0 (vars_in bs) v v 0 l (omega arith))
      | inr l ↦ past v l ∙ sym (get_or_past (map (class_in bs) (range_with_len 0 (vars_in bs))) v 0 (rw (length-map-range_with_len (class_in bs) 0 (vars_in bs)) l))
    ]

-- what the loop over the classes knows after v of them
pub record Classing (bs cs : List ℕ) (v : ℕ) : Type 0 where
  pub same : (k : ℕ) → k < v → get_or cs k 0 ≡ class_in bs k
  pub small : (k : ℕ) → k < v → class_in bs k < 3
  pub size : length cs ≡ vars_in bs

-- the classes of a file, with zeros behind them
pub class_array : (bs cs zs : List ℕ) → Classing bs cs (vars_in bs) → ((k : ℕ) → get_or zs k 0 ≡ 0) → (v : ℕ) → get_or (cs ++ zs) v 0 ≡ class_of bs v
class_array bs cs zs w z = class_list bs (cs ++ zs)
    (λ k l. get_or_append_left cs zs 0 k (omega (arith, w.size)) ∙ w.same k l)
    (λ k l. get_or-append_right cs zs (length cs) k 0 refl (omega (arith, w.size)) ∙ z (k - length cs))

-- what the zeros of an array hold, behind any number of them
pub zeros_past : (n k : ℕ) → ◌≡◌ {A = ℕ} (get_or (drop n (replicate 64 0)) k 0) 0
zeros_past n k =
    let zeros : List ℕ = replicate 64 0 in
    get_or-drop n zeros k 0 ∙ elim (cases_lt (n + k) 64) [ inl l ↦ get_or-replicate {A = ℕ} 64 (n + k) 0 0 l | inr l ↦ get_or_past zeros (n + k) 0 l ]

-- an array whose first part was written anew
pub array_size : {X : Type 0} (m n : ℕ) (x : X) (xs : List X) → length xs ≡ n → n ≤ m → length (xs ++ drop n (replicate m x)) ≡ m
array_size m n x xs e l = simp (length-append, length-drop, length-replicate) (omega arith)

-- a field of the same file at the same place
pub field_at : (f bs : List ℕ) (p q m n : ℕ) → f ≡ bs → p ≡ q → m ≡ n → field f p m ≡ field bs q n
field_at f bs p q m n e d g = rw (e, d, g)

pub classed_bad : (bs : List ℕ) (r : Result (List ℕ) BitFault) (e : BitFault) (v q : ℕ) → class_fault bs ≡ Some (Class v) → e ≡ Class v → r ≡ Err e → Classed bs r q
classed_bad bs r e v q h s f = rw (f, s) h

-- the fill is shorter than a byte
pub fill_short : (v w : ℕ) → v ≡ w → min (8 * ((2 * v + 7) / 8) - 2 * v) 32 ≡ 8 * class_bytes w - 2 * w
fill_short v w e = rw e (short w)
  where
    short : (w : ℕ) → min (8 * ((2 * w + 7) / 8) - 2 * w) 32 ≡ 8 * class_bytes w - 2 * w
    short w = omega arith

-- the classes and their fill end at a whole byte
pub classes_end : (v p q n : ℕ) → p ≡ 16 + 2 * v → n ≡ 8 * class_bytes v - 2 * v → q ≡ p + n → q ≡ 16 + 8 * class_bytes v
classes_end v p q n e f g = omega arith
