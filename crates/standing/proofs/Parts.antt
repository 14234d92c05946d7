-- The rows that a round makes of one row, and where they stand in the rewritten program.
use Rattle.std.proofs.Common.{◌≡◌, ℕ, zero, suc, ◌+◌, ◌-◌, ◌<◌, ◌≤◌, Bool, true, false, cond, ◌&&◌, ◌⊎◌, List, [], ◌∷◌, ◌++◌, map, length, get_or, sym, refl, ap, ◌∙◌, inl, inr, add-zero, zero-add, arith}
use Rattle.std.proofs.lemmas.List.{length-append, length-map, get_or-map, get_or_append_left, get_or-append-add, get_or_past}
use Rattle.std.proofs.lemmas.Bool.{cases_Bool, cases_lt, cases_eq, cond-true, cond-false}
use Rattle.counting.specs.Counting.{sum}
use Rattle.counting.proofs.Sums.{sum_ext, sum_mono}
use Rattle.sets.specs.Sets.{has}
use Rattle.rows.specs.declared.Row.{Row}
use Rattle.rows.specs.Rows.{shape, only, reads, writes, end_row, row_at}
use Rattle.compiling.specs.Blocks.{flat, starts, moved, assembled}
use Rattle.compiling.specs.Spill.{Order, slot_in}
use Rattle.compiling.specs.Rewrite.{class_in, load_row, store_row, inner, spilled_of, replaced, goes, after, core, block, blocks, all_replaced}
use Rattle.standing.specs.Standing.{bit}
use Rattle.standing.proofs.Lines.{sum_cons, locate, flat_length, flat_at, starts_at}

-- ---- the rows of one row

abbrev pub la : Order → Row → Bool
la s r = goes s (shape r.op).a r.a

abbrev pub lb : Order → Row → Bool
lb s r = goes s (shape r.op).b r.b

abbrev pub sd : Order → Row → Bool
sd s r = goes s (shape r.op).d r.d

abbrev pub before : Order → Row → ℕ
before s r = bit (la s r) + bit (lb s r)

abbrev pub spread : Order → Row → ℕ
spread s r = cond (inner s r) 0 (before s r + 1 + bit (sd s r))

abbrev pub names : Order → Row → ℕ
names s r = cond (inner s r) 0 (before s r + bit (sd s r))

abbrev four : {X : Type 0} → (i x y z : Bool) (A B C D : X) → List X
four i x y z A B C D = cond i [] (cond x (A ∷ []) [] ++ (cond y (B ∷ []) [] ++ (C ∷ cond z (D ∷ []) [])))

four_length : {X : Type 0} (i x y z : Bool) (A B C D : X) → length (four i x y z A B C D) ≡ cond i 0 (bit x + bit y + 1 + bit z)
four_length true x y z A B C D = refl
four_length false true true true A B C D = refl
four_length false true true false A B C D = refl
four_length false true false true A B C D = refl
four_length false true false false A B C D = refl
four_length false false true true A B C D = refl
four_length false false true false A B C D = refl
four_length false false false true A B C D = refl
four_length false false false false A B C D = refl

four_a : {X : Type 0} (i x y z : Bool) (A B C D e : X) → i ≡ false → x ≡ true → get_or (four i x y z A B C D) 0 e ≡ A
four_a i x y z A B C D e p q = rw (p, q) refl

four_b : {X : Type 0} (i x y z : Bool) (A B C D e : X) → i ≡ false → y ≡ true → get_or (four i x y z A B C D) (bit x) e ≡ B
four_b i true y z A B C D e p q = rw (p, q) refl
four_b i false y z A B C D e p q = rw (p, q) refl

four_core : {X : Type 0} (i x y z : Bool) (A B C D e : X) → i ≡ false → get_or (four i x y z A B C D) (bit x + bit y) e ≡ C
four_core i true true z A B C D e p = rw p refl
four_core i true false z A B C D e p = rw p refl
four_core i false true z A B C D e p = rw p refl
four_core i false false z A B C D e p = rw p refl

four_store : {X : Type 0} (i x y z : Bool) (A B C D e : X) → i ≡ false → z ≡ true → get_or (four i x y z A B C D) (suc (bit x + bit y)) e ≡ D
four_store i true true z A B C D e p q = rw (p, q) refl
four_store i true false z A B C D e p q = rw (p, q) refl
four_store i false true z A B C D e p q = rw (p, q) refl
four_store i false false z A B C D e p q = rw (p, q) refl

pub block_length : (s : Order) (class : ℕ → ℕ) (t : ℕ) (r : Row) → length (block s class t r) ≡ spread s r
unfolding block
block_length s class t r = four_length (inner s r) (la s r) (lb s r) (sd s r) _ _ _ _

spilled_append : (s : Order) (xs ys : List ℕ) → spilled_of s (xs ++ ys) ≡ spilled_of s xs ++ spilled_of s ys
unfolding spilled_of
spilled_append s [] ys = refl
spilled_append s (x ∷ xs) ys = elim (cases_Bool (has s.out x)) [ inl e ↦ rw e (ap (λ (vs : List ℕ). x ∷ vs) (spilled_append s xs ys)) | inr e ↦ rw e (spilled_append s xs ys) ]

spilled_only : (s : Order) (u : Bool) (x : ℕ) → spilled_of s (only u x) ≡ only (u && has s.out x) x
unfolding spilled_of
spilled_only s false x = refl
spilled_only s true x = elim (cases_Bool (has s.out x)) [ inl e ↦ rw e refl | inr e ↦ rw e refl ]

-- the variables that a row has new temporaries for
abbrev three : (x y z : Bool) (a b d : ℕ) → List ℕ
three x y z a b d = (only x a ++ only y b) ++ only z d

replaced_is : (s : Order) (r : Row) → inner s r ≡ false → replaced s r ≡ three (la s r) (lb s r) (sd s r) r.a r.b r.d
unfolding replaced
replaced_is s r ni =
    cond-false _ _ _ ni ∙ spilled_append s (reads r) (writes r)
    ∙ ap (λ (vs : List ℕ). vs ++ spilled_of s (writes r)) (spilled_append s (only (shape r.op).a r.a) (only (shape r.op).b r.b))
    ∙ rw (spilled_only s (shape r.op).a r.a, spilled_only s (shape r.op).b r.b, spilled_only s (shape r.op).d r.d) refl

three_length : (x y z : Bool) (a b d : ℕ) → length (three x y z a b d) ≡ bit x + bit y + bit z
three_length true true true a b d = refl
three_length true true false a b d = refl
three_length true false true a b d = refl
three_length true false false a b d = refl
three_length false true true a b d = refl
three_length false true false a b d = refl
three_length false false true a b d = refl
three_length false false false a b d = refl

pub replaced_length : (s : Order) (r : Row) → length (replaced s r) ≡ names s r
unfolding replaced
replaced_length s r = elim (cases_Bool (inner s r)) [
  | inl e ↦ ap length (cond-true _ _ _ e) ∙ sym (cond-true _ _ _ e)
  | inr e ↦ ap length (replaced_is s r e) ∙ three_length (la s r) (lb s r) (sd s r) r.a r.b r.d ∙ sym (cond-false _ _ _ e)
]

three_a : (x y z : Bool) (a b d : ℕ) → x ≡ true → get_or (three x y z a b d) 0 0 ≡ a
three_a x y z a b d e = rw e refl

three_b : (x y z : Bool) (a b d : ℕ) → y ≡ true → get_or (three x y z a b d) (bit x) 0 ≡ b
three_b true y z a b d e = rw e refl
three_b false y z a b d e = rw e refl

three_d : (x y z : Bool) (a b d : ℕ) → z ≡ true → get_or (three x y z a b d) (bit x + bit y) 0 ≡ d
three_d true true z a b d e = rw e refl
three_d true false z a b d e = rw e refl
three_d false true z a b d e = rw e refl
three_d false false z a b d e = rw e refl

-- ---- the rows of all rows

pub blocks_length : (s : Order) (class : ℕ → ℕ) (t : ℕ) (rows : List Row) → length (blocks s class t rows) ≡ length rows
unfolding blocks
blocks_length s class t [] = refl
blocks_length s class t (r ∷ rows) = ap suc (blocks_length s class (t + length (replaced s r)) rows)

pub blocks_at : (s : Order) (class : ℕ → ℕ) (t : ℕ) (rows : List Row) (p : ℕ) → p < length rows →
    get_or (blocks s class t rows) p [] ≡ block s class (t + sum (λ k. names s (row_at rows k)) p) (row_at rows p)
unfolding blocks sum
blocks_at s class t [] p h = absurd (omega arith)
blocks_at s class t (r ∷ rows) zero h = rw add-zero
blocks_at s class t (r ∷ rows) (suc p) h =
    let e : t + length (replaced s r) + sum (λ k. names s (row_at rows k)) p ≡ t + sum (λ k. names s (row_at (r ∷ rows) k)) (suc p) = omega (arith, replaced_length s r, sum_cons (names s) end_row r rows p) in
    blocks_at s class (t + length (replaced s r)) rows p (omega arith) ∙ ap (λ (n : ℕ). block s class n (row_at rows p)) e

pub replaced_all : (s : Order) (rows : List Row) → length (all_replaced s rows) ≡ sum (λ k. names s (row_at rows k)) (length rows)
unfolding all_replaced flat sum
replaced_all s [] = refl
replaced_all s (r ∷ rows) = length-append (replaced s r) (flat (map (replaced s) rows)) ∙ omega (arith, replaced_length s r, replaced_all s rows, sum_cons (names s) end_row r rows (length rows))

-- ---- a place of the rewritten program

pub new_index : (x y : Bool) (n q : ℕ) → n ≤ q → q < n + (bit x + bit y) → ((x ≡ true) × (q ≡ n)) ⊎ ((y ≡ true) × (q ≡ n + bit x))
new_index true true n q lo hi = elim (cases_eq q n) [ inl e ↦ inl (refl, e) | inr e ↦ inr (refl, omega arith) ]
new_index true false n q lo hi = inl (refl, omega arith)
new_index false true n q lo hi = inr (refl, omega arith)
new_index false false n q lo hi = absurd (omega arith)

cond_suc : (x : Bool) (t : ℕ) → cond x (suc t) t ≡ t + bit x
cond_suc true t = omega arith
cond_suc false t = omega arith

room : (i x y z : Bool) (j : ℕ) → i ≡ false → j ≤ bit x + bit y + bit z → j < cond i 0 (bit x + bit y + 1 + bit z)
room i x y z j p h = rw p (omega arith)

pub spread_in : (s : Order) (r : Row) → inner s r ≡ false → spread s r ≡ before s r + 1 + bit (sd s r)
spread_in s r e = cond-false _ _ _ e

pub names_in : (s : Order) (r : Row) → inner s r ≡ false → names s r ≡ before s r + bit (sd s r)
names_in s r e = cond-false _ _ _ e

pub bit_true : (b : Bool) → b ≡ true → bit b ≡ 1
bit_true b e = rw e refl

pub bit_false : (b : Bool) → b ≡ false → bit b ≡ 0
bit_false b e = rw e refl

module _ (s : Order) (classes : List ℕ) (rows : List Row) where
  abbrev pub row : ℕ → Row
  row p = row_at rows p

  abbrev pub bs : List (List Row)
  bs = blocks s (class_in classes) (length classes) rows

  -- where the rows of row p start
  abbrev pub pos : ℕ → ℕ
  pos p = sum (λ k. length (get_or bs k [])) p

  -- the first new temporary of row p
  abbrev pub tmp : ℕ → ℕ
  tmp p = length classes + sum (λ k. names s (row_at rows k)) p

  abbrev pub made : ℕ → Row
  made q = row_at (assembled bs) q

  abbrev pub landing : ℕ → ℕ
  landing t = get_or (starts 0 bs) t 0

  abbrev pub load_a : ℕ → Row
  load_a p = load_row (row p).weight (class_in classes (row p).a) (tmp p) (slot_in s (row p).a)

  abbrev pub load_b : ℕ → Row
  load_b p = load_row (row p).weight (class_in classes (row p).b) (tmp p + bit (la s (row p))) (slot_in s (row p).b)

  abbrev pub core_of : ℕ → Row
  core_of p = record {
    op = (row p).op;
    weight = (row p).weight;
    dclass = (row p).dclass;
    aclass = (row p).aclass;
    d = cond (sd s (row p)) (tmp p + before s (row p)) (row p).d;
    a = cond (la s (row p)) (tmp p) (row p).a;
    b = cond (lb s (row p)) (tmp p + bit (la s (row p))) (row p).b;
    target = cond (shape (row p).op).target (landing (row p).target) 0;
    constant = (row p).constant;
    slot = (row p).slot;
  }

  abbrev pub store_d : ℕ → Row
  store_d p = store_row (row p).weight (class_in classes (row p).d) (tmp p + before s (row p)) (slot_in s (row p).d)

  part_length : (p : ℕ) → p < length rows → length (get_or bs p []) ≡ spread s (row p)
  part_length p h = ap length (blocks_at s (class_in classes) (length classes) rows p h) ∙ block_length s (class_in classes) (tmp p) (row p)

  pub pos_step : (p : ℕ) → p < length rows → pos (suc p) ≡ pos p + spread s (row p)
  unfolding sum
  pos_step p h = omega (arith, part_length p h)

  pub tmp_step : (p : ℕ) → tmp (suc p) ≡ tmp p + names s (row p)
  unfolding sum
  tmp_step p = omega arith

  pub tmp_mono : (p r : ℕ) → p ≤ r → tmp p ≤ tmp r
  tmp_mono p r h = omega (arith, sum_mono (λ k. names s (row_at rows k)) p r h)

  pub made_length : length (assembled bs) ≡ pos (length rows)
  unfolding assembled
  made_length = length-map (flat bs) (moved (starts 0 bs)) ∙ flat_length bs ∙ ap (λ (n : ℕ). sum (λ k. length (get_or bs k [])) n) (blocks_length s (class_in classes) (length classes) rows)

  made_at : (p j : ℕ) → p < length rows → j < spread s (row p) → made (pos p + j) ≡ moved (starts 0 bs) (get_or (block s (class_in classes) (tmp p) (row p)) j end_row)
  unfolding assembled
  made_at p j h k =
      let e = blocks_at s (class_in classes) (length classes) rows p h in
      let same : length bs ≡ length rows = blocks_length s (class_in classes) (length classes) rows in
      let pl : p < length bs = omega arith in
      let jl : j < length (get_or bs p []) = omega (arith, part_length p h) in
      let inside : pos p + j < length (flat bs) = omega (arith, flat_length bs, pos_step p h, sum_mono (λ k. length (get_or bs k [])) (suc p) (length bs) pl) in
      get_or-map (moved (starts 0 bs)) (flat bs) (pos p + j) end_row end_row inside ∙ ap (moved (starts 0 bs)) (flat_at bs end_row p j pl jl ∙ ap (λ (b : List Row). get_or b j end_row) e)

  pub landing_at : (t : ℕ) → t < length rows → landing t ≡ pos t
  landing_at t h =
      let same : length bs ≡ length rows = blocks_length s (class_in classes) (length classes) rows in
      starts_at 0 bs t (omega arith) ∙ zero-add (pos t)

  module _ (p : ℕ) (h : p < length rows) (ni : inner s (row p) ≡ false) where
    abbrev r : Row
    r = row p

    pub load_a_lem : la s r ≡ true → made (pos p) ≡ load_a p
    unfolding block
    load_a_lem x =
        let z : pos p ≡ pos p + 0 = omega arith in
        ap made z ∙ made_at p 0 h (room (inner s r) (la s r) (lb s r) (sd s r) 0 ni (omega arith))
        ∙ ap (moved (starts 0 bs)) (four_a (inner s r) (la s r) (lb s r) (sd s r) _ _ _ _ end_row ni x)

    pub load_b_lem : lb s r ≡ true → made (pos p + bit (la s r)) ≡ load_b p
    unfolding block
    load_b_lem x =
        made_at p (bit (la s r)) h (room (inner s r) (la s r) (lb s r) (sd s r) (bit (la s r)) ni (omega arith))
        ∙ ap (moved (starts 0 bs)) (four_b (inner s r) (la s r) (lb s r) (sd s r) _ _ _ _ end_row ni x)
        ∙ ap (λ (t : ℕ). load_row r.weight (class_in classes r.b) t (slot_in s r.b)) (cond_suc (la s r) (tmp p))

    td_is : after s (shape r.op).b r.b (after s (shape r.op).a r.a (tmp p)) ≡ tmp p + before s r
    td_is = cond_suc (lb s r) (after s (shape r.op).a r.a (tmp p)) ∙ omega (arith, cond_suc (la s r) (tmp p))

    pub core_at : made (pos p + before s r) ≡ core_of p
    unfolding block
    core_at =
        let tb : ℕ = after s (shape r.op).a r.a (tmp p) in
        let td : ℕ = after s (shape r.op).b r.b tb in
        made_at p (before s r) h (room (inner s r) (la s r) (lb s r) (sd s r) (before s r) ni (omega arith))
        ∙ ap (moved (starts 0 bs)) (four_core (inner s r) (la s r) (lb s r) (sd s r) _ _ _ _ end_row ni)
        ∙ ap (λ (u : ℕ). moved (starts 0 bs) (core s (tmp p) u td r)) (cond_suc (la s r) (tmp p))
        ∙ ap (λ (u : ℕ). moved (starts 0 bs) (core s (tmp p) (tmp p + bit (la s r)) u r)) td_is

    pub store_at : sd s r ≡ true → made (suc (pos p + before s r)) ≡ store_d p
    unfolding block
    store_at x =
        let z : suc (pos p + before s r) ≡ pos p + suc (before s r) = omega arith in
        let one : bit (sd s r) ≡ 1 = bit_true (sd s r) x in
        ap made z ∙ made_at p (suc (before s r)) h (room (inner s r) (la s r) (lb s r) (sd s r) (suc (before s r)) ni (omega arith))
        ∙ ap (moved (starts 0 bs)) (four_store (inner s r) (la s r) (lb s r) (sd s r) _ _ _ _ end_row ni x)
        ∙ ap (λ (t : ℕ). store_row r.weight (class_in classes r.d) t (slot_in s r.d)) td_is

  -- what stands at place q: a load, a row, or a store made of row p
  abbrev pub Kind : ℕ → ℕ → Type 0
  Kind q p =
      ((la s (row p) ≡ true) × (q ≡ pos p) × (made q ≡ load_a p))
      ⊎ (((lb s (row p) ≡ true) × (q ≡ pos p + bit (la s (row p))) × (made q ≡ load_b p))
      ⊎ (((q ≡ pos p + before s (row p)) × (made q ≡ core_of p))
      ⊎ ((sd s (row p) ≡ true) × (q ≡ suc (pos p + before s (row p))) × (made q ≡ store_d p))))

  abbrev pub Came : ℕ → Type 0
  Came q = (p : ℕ) × (p < length rows) × (inner s (row p) ≡ false) × Kind q p

  pub came : (q : ℕ) → q < length (assembled bs) → Came q
  came q h =
      let (p, a, b, c) = locate (λ k. length (get_or bs k [])) (length rows) q (omega (arith, made_length)) in
      found p a b (omega (arith, part_length p a))
    where
      found : (p : ℕ) → p < length rows → pos p ≤ q → q < pos p + spread s (row p) → Came q
      found p a b c = elim (cases_Bool (inner s (row p))) [
        | inl y ↦ (let none : spread s (row p) ≡ 0 = cond-true _ _ _ y in absurd (omega arith))
        | inr y ↦ elim (cases_lt q (pos p + before s (row p))) [
          | inl e ↦ elim (new_index (la s (row p)) (lb s (row p)) (pos p) q b e) [
            | inl t ↦ (p, a, y, inl (t.0, t.1, ap made t.1 ∙ load_a_lem p a y t.0))
            | inr t ↦ (p, a, y, inr (inl (t.0, t.1, ap made t.1 ∙ load_b_lem p a y t.0)))
          ]
          | inr e ↦ elim (cases_eq q (pos p + before s (row p))) [
            | inl t ↦ (p, a, y, inr (inr (inl (t, ap made t ∙ core_at p a y))))
            | inr t ↦ elim (cases_Bool (sd s (row p))) [
              | inl f ↦ (let z : q ≡ suc (pos p + before s (row p)) = omega (arith, spread_in s (row p) y, bit_true (sd s (row p)) f) in (p, a, y, inr (inr (inr (f, z, ap made z ∙ store_at p a y f)))))
              | inr f ↦ absurd (omega (arith, spread_in s (row p) y, bit_false (sd s (row p)) f))
            ]
          ]
        ]
      ]

  -- ---- classes

  abbrev pub classes_after : List ℕ
  classes_after = classes ++ map (class_in classes) (all_replaced s rows)

  pub classes_length : length classes_after ≡ tmp (length rows)
  classes_length = length-append classes (map (class_in classes) (all_replaced s rows)) ∙ omega (arith, length-map (all_replaced s rows) (class_in classes), replaced_all s rows)

  pub class_old : (v : ℕ) → v < length classes → class_in classes_after v ≡ class_in classes v
  class_old v h = get_or_append_left classes (map (class_in classes) (all_replaced s rows)) 0 v h

  pub class_small : ((v : ℕ) → class_in classes v ≤ 2) → (v : ℕ) → class_in classes_after v ≤ 2
  class_small h v = elim (cases_lt v (length classes)) [
    | inl l ↦ rw (class_old v l) (h v)
    | inr l ↦
        (let new : List ℕ = all_replaced s rows in
        let j : ℕ = v - length classes in
        let e : v ≡ length classes + j = omega arith in
        let at : class_in classes_after v ≡ get_or (map (class_in classes) new) j 0 = ap (λ (k : ℕ). class_in classes_after k) e ∙ get_or-append-add classes (map (class_in classes) new) j 0 in
        elim (cases_lt j (length new)) [
          | inl k ↦ omega (arith, at, get_or-map (class_in classes) new j 0 0 k, h (get_or new j 0))
          | inr k ↦ omega (arith, at, get_or_past (map (class_in classes) new) j 0 (omega (arith, length-map new (class_in classes))))
        ])
  ]

  class_new : (p k : ℕ) → p < length rows → k < names s (row p) → class_in classes_after (tmp p + k) ≡ class_in classes (get_or (replaced s (row p)) k 0)
  unfolding all_replaced sum
  class_new p k h l =
      let f : ℕ → ℕ = λ j. names s (row_at rows j) in
      let deep : sum f p + k < length (all_replaced s rows) = omega (arith, replaced_all s rows, sum_mono f (suc p) (length rows) h) in
      let parts : List (List ℕ) = map (replaced s) rows in
      let part : (j : ℕ) → j < length rows → get_or parts j [] ≡ replaced s (row j) = λ j b. get_or-map (replaced s) rows j end_row [] b in
      let same : sum (λ j. length (get_or parts j [])) p ≡ sum f p = sum_ext (λ j. length (get_or parts j [])) f p (λ j b. ap length (part j (omega arith)) ∙ replaced_length s (row j)) in
      let at : get_or (flat parts) (sum (λ j. length (get_or parts j [])) p + k) 0 ≡ get_or (get_or parts p []) k 0 =
      flat_at parts 0 p k (omega (arith, length-map rows (replaced s))) (omega (arith, ap length (part p h), replaced_length s (row p))) in
      let e : tmp p + k ≡ length classes + (sum f p + k) = omega arith in
      ap (λ (j : ℕ). class_in classes_after j) e
      ∙ get_or-append-add classes (map (class_in classes) (all_replaced s rows)) (sum f p + k) 0
      ∙ get_or-map (class_in classes) (all_replaced s rows) (sum f p + k) 0 0 deep
      ∙ ap (class_in classes) (ap (λ (j : ℕ). get_or (flat parts) (j + k) 0) (sym same) ∙ at ∙ ap (λ (vs : List ℕ). get_or vs k 0) (part p h))

  module _ (p : ℕ) (h : p < length rows) (ni : inner s (row p) ≡ false) where
    three_is : replaced s (row p) ≡ three (la s (row p)) (lb s (row p)) (sd s (row p)) (row p).a (row p).b (row p).d
    three_is = replaced_is s (row p) ni

    pub class_a : la s (row p) ≡ true → class_in classes_after (tmp p) ≡ class_in classes (row p).a
    class_a x =
        let z : tmp p ≡ tmp p + 0 = omega arith in
        ap (λ (j : ℕ). class_in classes_after j) z ∙ class_new p 0 h (omega (arith, names_in s (row p) ni, bit_true _ x))
        ∙ ap (class_in classes) (ap (λ (vs : List ℕ). get_or vs 0 0) three_is ∙ three_a (la s (row p)) (lb s (row p)) (sd s (row p)) (row p).a (row p).b (row p).d x)

    pub class_b : lb s (row p) ≡ true → class_in classes_after (tmp p + bit (la s (row p))) ≡ class_in classes (row p).b
    class_b x =
        class_new p (bit (la s (row p))) h (omega (arith, names_in s (row p) ni, bit_true _ x))
        ∙ ap (class_in classes) (ap (λ (vs : List ℕ). get_or vs (bit (la s (row p))) 0) three_is ∙ three_b (la s (row p)) (lb s (row p)) (sd s (row p)) (row p).a (row p).b (row p).d x)

    pub class_d : sd s (row p) ≡ true → class_in classes_after (tmp p + before s (row p)) ≡ class_in classes (row p).d
    class_d x =
        class_new p (before s (row p)) h (omega (arith, names_in s (row p) ni, bit_true _ x))
        ∙ ap (class_in classes) (ap (λ (vs : List ℕ). get_or vs (before s (row p)) 0) three_is ∙ three_d (la s (row p)) (lb s (row p)) (sd s (row p)) (row p).a (row p).b (row p).d x)
