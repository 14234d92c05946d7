-- Rows that are well formed are those in whose words there is no fault.
use Rattle.std.proofs.Common.{◌≡◌, ℕ, ◌+◌, ◌*◌, ◌^◌, ◌<◌, ◌≤◌, Bool, true, false, cond, not, ◌&&◌, ◌||◌, eqb, ltb, leb, List, [], ◌∷◌, length, None, sym, refl, ap, ◌∙◌, subst, inl, inr, mod-lt, arith, lit<}
use Rattle.std.proofs.lemmas.Bool.{cases_Bool, and_from, and_parts, both_ways, eq-eqb, lt-ltb, lt-leb, ltb-true, leb-false}
use Rattle.rows.specs.declared.Op.{Op}
use Rattle.rows.specs.declared.Op.TheVariants.{End, Const, Copy, Add, Sub, And, Xor, Widen, Narrow, Input, Output, Jump, Less, Load, Store}
use Rattle.rows.specs.declared.Row.{Row}
use Rattle.rows.specs.Rows.{shape, opcode, op_of}
use Rattle.source.specs.Bits.{field}
use Rattle.source.specs.Reading.{part, row_by, row_of, row_fault}
use Rattle.packing.specs.Packing.{cell, row_fields}
use Rattle.packing.specs.Inverse.{Held, WellRow}
use Rattle.packing.proofs.Standing.{Stands, Fit}
use Rattle.packing.proofs.Faultless.{FineRow, fine_row, spared}
use Rattle.packing.proofs.Forgets.{part_at, opcode_op_of}

-- ---- opcodes

op_of_opcode : (o : Op) → opcode o ≤ 12 → op_of (opcode o) ≡ o
op_of_opcode End h = refl
op_of_opcode Const h = refl
op_of_opcode Copy h = refl
op_of_opcode Add h = refl
op_of_opcode Sub h = refl
op_of_opcode And h = refl
op_of_opcode Xor h = refl
op_of_opcode Widen h = refl
op_of_opcode Narrow h = refl
op_of_opcode Input h = refl
op_of_opcode Output h = refl
op_of_opcode Jump h = refl
op_of_opcode Less h = refl
op_of_opcode Load h = absurd (omega arith)
op_of_opcode Store h = absurd (omega arith)

-- a row with a constant has no a, b and target
constant_alone : (o : Op) → (shape o).constant ≡ true → ((shape o).a ≡ false) × ((shape o).b ≡ false) × ((shape o).target ≡ false)
constant_alone o h = (grind arith, grind arith, grind arith)

-- ---- from the row to its word

-- the parts of a word in which the fields of a row stand
pub record Words (w : ℕ) (r : Row) : Type 0 where
  pub op : part w 0 4 ≡ opcode r.op
  pub weight : part w 4 2 ≡ r.weight
  pub d : part w 6 6 ≡ r.d
  pub constant : (shape r.op).constant ≡ true → part w 12 16 ≡ r.constant
  pub last : (shape r.op).constant ≡ true → part w 28 4 ≡ 0
  pub a : (shape r.op).constant ≡ false → part w 12 6 ≡ r.a
  pub b : (shape r.op).constant ≡ false → part w 18 6 ≡ r.b
  pub target : (shape r.op).constant ≡ false → part w 24 8 ≡ r.target

stands_words : (bs : List ℕ) (p : ℕ) (r : Row) → p + 32 ≤ 8 * length bs → Stands bs p (row_fields r) → Words (field bs p 32) r
stands_words bs p r l (o, (g, (d, h))) =
    let at = part_at bs p in
    record {
      op = at p 0 4 (omega arith) (omega arith) l ∙ sym o;
      weight = at (p + 4) 4 2 refl (omega arith) l ∙ sym g;
      d = at (p + 4 + 2) 6 6 (omega arith) (omega arith) l ∙ sym d;
      constant = λ e. let k = long e in at (p + 4 + 2 + 6) 12 16 (omega arith) (omega arith) l ∙ sym k.0;
      last = λ e. let k = long e in at (p + 4 + 2 + 6 + 16) 28 4 (omega arith) (omega arith) l ∙ sym k.1.0;
      a = λ e. let k = short e in at (p + 4 + 2 + 6) 12 6 (omega arith) (omega arith) l ∙ sym k.0;
      b = λ e. let k = short e in at (p + 4 + 2 + 6 + 6) 18 6 (omega arith) (omega arith) l ∙ sym k.1.0;
      target = λ e. let k = short e in at (p + 4 + 2 + 6 + 6 + 6) 24 8 (omega arith) (omega arith) l ∙ sym k.1.1.0;
    }
  where
    long : (shape r.op).constant ≡ true → Stands bs (p + 4 + 2 + 6) (cell 16 r.constant ∷ (cell 4 0 ∷ []))
    long e = rw e at h

    short : (shape r.op).constant ≡ false → Stands bs (p + 4 + 2 + 6) (cell 6 r.a ∷ (cell 6 r.b ∷ (cell 8 r.target ∷ [])))
    short e = rw e at h

same_row : (r : Row) (o : Op) (weight dclass aclass d a b target constant slot : ℕ) → o ≡ r.op → weight ≡ r.weight → dclass ≡ r.dclass → aclass ≡ r.aclass → d ≡ r.d → a ≡ r.a → b ≡ r.b → target ≡ r.target →
    constant ≡ r.constant → slot ≡ r.slot →
    record { op = o; weight = weight; dclass = dclass; aclass = aclass; d = d; a = a; b = b; target = target; constant = constant; slot = slot } ≡ r
same_row r o weight dclass aclass d a b target constant slot e0 e1 e2 e3 e4 e5 e6 e7 e8 e9 = rw (e0, e1, e2, e3, e4, e5, e6, e7, e8, e9)

-- a field that const has no room for
unless_constant : (long used : Bool) (x y bound : ℕ) → (long ≡ true → used ≡ false) → (long ≡ false → x ≡ y) → Held used y bound → cond long 0 x ≡ y
unless_constant true used x y bound alone is h = sym (h.zero (alone refl))
unless_constant false used x y bound alone is h = is refl

if_constant : (long : Bool) (x y bound : ℕ) → (long ≡ true → x ≡ y) → Held long y bound → cond long x 0 ≡ y
if_constant true x y bound is h = is refl
if_constant false x y bound is h = sym (h.zero refl)

row_back : (v n : ℕ) (class : ℕ → ℕ) (w : ℕ) (r : Row) → WellRow v n class r → Words w r → row_of class w ≡ r
row_back v n class w r g k =
    let o = r.op in
    let a = unless_constant (shape o).constant (shape o).a (part w 12 6) r.a v (λ e. (constant_alone o e).0) k.a g.a in
    let b = unless_constant (shape o).constant (shape o).b (part w 18 6) r.b v (λ e. (constant_alone o e).1) k.b g.b in
    let t = unless_constant (shape o).constant (shape o).target (part w 24 8) r.target n (λ e. (constant_alone o e).2) k.target g.target in
    let c = if_constant (shape o).constant (part w 12 16) r.constant (2 ^ 16) k.constant g.constant in
    ap (λ (x : Op). row_by x class w) (ap op_of k.op ∙ op_of_opcode o g.source)
    ∙ same_row r o _ _ _ _ _ _ _ _ _ refl k.weight (ap (λ (x : ℕ). cond (shape o).d (class x) 0) k.d ∙ sym g.dclass) (ap (λ (x : ℕ). cond (shape o).a (class x) 0) a ∙ sym g.aclass) k.d a b t c (sym g.slot)

-- ---- tests of a field

zero_or : (u : Bool) (x : ℕ) → (u ≡ false → x ≡ 0) → (u || eqb x 0) ≡ true
zero_or true x h = refl
zero_or false x h = eq-eqb x 0 (h refl)

below_or : (u : Bool) (x v : ℕ) → (u ≡ true → x < v) → (not u || ltb x v) ≡ true
below_or true x v h = lt-ltb x v (h refl)
below_or false x v h = refl

or_below : (u : Bool) (x v : ℕ) → (not u || ltb x v) ≡ true → u ≡ true → x < v
or_below true x v h e = ltb-true x v h
or_below false x v h e = absurd (both_ways false refl e)

inside_and : (u : Bool) (x n : ℕ) → (u ≡ true → x < n) → (u && leb n x) ≡ false
inside_and true x n h = lt-leb n x (h refl)
inside_and false x n h = refl

and_inside : (u : Bool) (x n : ℕ) → (u && leb n x) ≡ false → u ≡ true → x < n
and_inside true x n h e = leb-false n x h
and_inside false x n h e = absurd (both_ways false refl e)

well_fine : (v n : ℕ) (class : ℕ → ℕ) (w : ℕ) (r : Row) → WellRow v n class r → Words w r → FineRow v n class w r
well_fine v n class w r g k =
    let o = shape r.op in
    record {
      source = omega (arith, k.op, g.source);
      spares = and_from _ _ (zero_or o.d r.d g.d.zero) (and_from _ _ (zero_or o.a r.a g.a.zero) (and_from _ _ (zero_or o.b r.b g.b.zero) (and_from _ _ (zero_or o.target r.target g.target.zero) (last o.constant k.last))));
      knows = and_from _ _ (below_or o.d r.d v g.d.within) (and_from _ _ (below_or o.a r.a v g.a.within) (below_or o.b r.b v g.b.within));
      suits = g.suits;
      goes = inside_and o.target r.target n g.target.within;
    }
  where
    last : (u : Bool) → (u ≡ true → part w 28 4 ≡ 0) → (not u || eqb (part w 28 4) 0) ≡ true
    last true h = eq-eqb (part w 28 4) 0 (h refl)
    last false h = refl

-- a well-formed row is read from where its fields stand
pub row_reads : (bs : List ℕ) (p v n : ℕ) (class : ℕ → ℕ) (i : ℕ) (r : Row) → WellRow v n class r → Stands bs p (row_fields r) → p + 32 ≤ 8 * length bs →
    (row_of class (field bs p 32) ≡ r) × (row_fault v n class i (field bs p 32) ≡ None)
row_reads bs p v n class i r g s l =
    let k = stands_words bs p r l s in
    let e = row_back v n class (field bs p 32) r g k in
    (e, fine_row v n class i (field bs p 32) (subst (FineRow v n class (field bs p 32)) (sym e) (well_fine v n class (field bs p 32) r g k)))

-- ---- from the word to its row

pub fine_well : (v n : ℕ) (class : ℕ → ℕ) (w : ℕ) → FineRow v n class w (row_of class w) → WellRow v n class (row_of class w)
fine_well v n class w f =
    let r = row_of class w in
    let o = shape r.op in
    let z = spared w r f.spares in
    let d = and_parts (not o.d || ltb r.d v) _ f.knows in
    let ab = and_parts (not o.a || ltb r.a v) (not o.b || ltb r.b v) d.1 in
    record {
      source = subst (λ (x : ℕ). x ≤ 12) (sym (opcode_op_of (part w 0 4) f.source)) f.source;
      weight = let l : part w 4 2 < 4 = mod-lt _ (lit< tt) in omega arith;
      d = record { within = or_below o.d r.d v d.0; zero = z.d };
      a = record { within = or_below o.a r.a v ab.0; zero = z.a };
      b = record { within = or_below o.b r.b v ab.1; zero = z.b };
      target = record { within = and_inside o.target r.target n f.goes; zero = z.target };
      constant = held o.constant;
      slot = refl;
      dclass = refl;
      aclass = refl;
      suits = f.suits;
    }
  where
    held : (u : Bool) → Held u (cond u (part w 12 16) 0) (2 ^ 16)
    held true = record { within = λ e. mod-lt _ (lit< tt); zero = λ e. absurd (both_ways true e refl) }
    held false = record { within = λ e. absurd (both_ways false refl e); zero = λ e. refl }

-- ---- the fields of a well-formed row fit their bits

held_lt : (u : Bool) (x b m : ℕ) → Held u x b → b ≤ m → 0 < m → x < m
held_lt true x b m h l z = omega (arith, h.within refl)
held_lt false x b m h l z = omega (arith, h.zero refl)

pub row_fit : (v n : ℕ) (class : ℕ → ℕ) (r : Row) → v ≤ 64 → n ≤ 128 → WellRow v n class r → Fit (row_fields r)
row_fit v n class r few most g =
    let o = shape r.op in
    let d = held_lt o.d r.d v 64 g.d few (omega arith) in
    let a = held_lt o.a r.a v 64 g.a few (omega arith) in
    let b = held_lt o.b r.b v 64 g.b few (omega arith) in
    let t = held_lt o.target r.target n 256 g.target (omega arith) (omega arith) in
    let c = held_lt o.constant r.constant (2 ^ 16) (2 ^ 16) g.constant (omega arith) (omega arith) in
    let s : opcode r.op < 16 = omega (arith, g.source) in
    let w : r.weight < 4 = omega (arith, g.weight) in
    elim (cases_Bool o.constant) [
      | inl e ↦ rw e (s, (w, (d, (c, (omega arith, tt)))))
      | inr e ↦ rw e (s, (w, (d, (a, (b, (t, tt))))))
    ]
