-- The places of a working program: which block each is in, and as what.
use Rattle.std.proofs.Common.{◌≡◌, ℕ, zero, suc, ◌+◌, ◌-◌, ◌<◌, ◌≤◌, Bool, true, false, cond, not, ◌&&◌, ◌||◌, ◌⊎◌, length, sym, refl, ap, ◌∙◌, subst, inl, inr, arith}
use Rattle.std.proofs.lemmas.Bool.{cases_Bool, cases_lt, cases_eq, cases_order, both_ways, true≢false}
use Rattle.rows.specs.declared.Op.TheVariants.{Load, Store}
use Rattle.rows.specs.declared.Row.{Row}
use Rattle.rows.specs.Rows.{shape, Program}
use Rattle.compiling.specs.Working.{Working, spilled}
use Rattle.simulation.specs.Static.{row_of, class_of, slot_of, Operand, Stored, Block, Inner}
use Rattle.standing.specs.Standing.{source_rows, line_of, Filled, Standing}
use Rattle.transfer.specs.Inside.{BlockOf}

module _ (w : Working) (start : ℕ → ℕ) (st : Standing w start) where
  -- source row i
  abbrev pub row : ℕ → Row
  row i = row_of w.source i

  pub var_a : (i : ℕ) → i < source_rows w → (shape (row i).op).a ≡ true → (row i).a < w.source.vars
  var_a i l x = (st.well_formed.rows i l).a.within x

  pub var_b : (i : ℕ) → i < source_rows w → (shape (row i).op).b ≡ true → (row i).b < w.source.vars
  var_b i l x = (st.well_formed.rows i l).b.within x

  pub var_d : (i : ℕ) → i < source_rows w → (shape (row i).op).d ≡ true → (row i).d < w.source.vars
  var_d i l x = (st.well_formed.rows i l).d.within x

  pub aim : (i : ℕ) → i < source_rows w → (shape (row i).op).target ≡ true → (row i).target < source_rows w
  aim i l x = (st.well_formed.rows i l).target.within x

  pub block_end : (i n : ℕ) → BlockOf w start i n → start i + n < start (suc i)
  block_end i n f = elim (cases_Bool (shape (row i).op).d) [
    | inr e ↦ omega (arith, f.ends e)
    | inl e ↦ elim (f.block.d e) [ inl r ↦ omega (arith, r.2) | inr r ↦ omega (arith, r.2) ]
  ]

  rises_one : (i : ℕ) → i < source_rows w → start i ≤ start (suc i)
  rises_one i l = elim (st.stands i l) [ inl g ↦ omega (arith, g.next) | inr b ↦ omega (arith, block_end i b.0 b.1) ]

  rises_by : (i d j : ℕ) → i + d ≡ j → j ≤ source_rows w → start i ≤ start j
  rises_by i zero j e l = let q : i ≡ j = omega arith in rw q (omega arith)
  rises_by i (suc d) zero e l = absurd (omega arith)
  rises_by i (suc d) (suc j) e l = omega (arith, rises_by i d j (omega arith) (omega arith), rises_one j l)

  pub rises : (i j : ℕ) → i ≤ j → j ≤ source_rows w → start i ≤ start j
  rises i j h l = rises_by i (j - i) j (omega arith) l

  -- a place is in one block only
  pub one_block : (q i j : ℕ) → i < source_rows w → j < source_rows w → start i ≤ q → q < start (suc i) → start j ≤ q → q < start (suc j) → i ≡ j
  one_block q i j k l a b c d = elim (cases_order i j) [
    | inl e ↦ e
    | inr (inl e) ↦ absurd (omega (arith, rises (suc i) j e (omega arith)))
    | inr (inr e) ↦ absurd (omega (arith, rises (suc j) i e (omega arith)))
  ]

  -- the block of a place
  abbrev pub Found : ℕ → Type 0
  Found q = (i : ℕ) × (n : ℕ) × (i < source_rows w) × (start i ≤ q) × (q < start (suc i)) × BlockOf w start i n

  search : (k q : ℕ) → k ≤ source_rows w → q < start k → Found q
  search zero q l h = absurd (omega (arith, st.first))
  search (suc k) q l h = elim (cases_lt q (start k)) [
    | inl e ↦ search k q (omega arith) e
    | inr e ↦ elim (st.stands k l) [ inl g ↦ absurd (omega (arith, g.next)) | inr b ↦ (k, b.0, l, e, h, b.1) ]
  ]

  pub found : (q : ℕ) → q < length w.rows → Found q
  found q l = search (source_rows w) q (omega arith) (omega (arith, st.long))

  -- what stands at a place of a block: a load of a temporary, the row, or its store
  abbrev pub LoadAt : ℕ → ℕ → ℕ → Type 0
  LoadAt q i n = (q < start i + n) × ((line_of w q).op ≡ Load) × (w.source.vars ≤ (line_of w q).d)

  abbrev pub StoreAt : ℕ → ℕ → ℕ → Type 0
  StoreAt q i n =
      (q ≡ suc (start i + n)) × (start (suc i) ≡ suc q) × ((shape (row i).op).d ≡ true) × (spilled w.places (row i).d ≡ true) × (w.source.vars ≤ (line_of w (start i + n)).d) × ((line_of w q).op ≡ Store) × ((line_of w q).a ≡ (line_of w (start i + n)).d)

  abbrev pub KindAt : ℕ → ℕ → ℕ → Type 0
  KindAt q i n = LoadAt q i n ⊎ ((q ≡ start i + n) ⊎ StoreAt q i n)

  pub kind : (q i n : ℕ) → BlockOf w start i n → start i ≤ q → q < start (suc i) → KindAt q i n
  kind q i n f lo hi = elim (cases_order q (start i + n)) [
    | inl e ↦ inr (inl e)
    | inr (inl e) ↦ (let z : q ≡ start i + (q - start i) = omega arith in inl (e, rw z (f.block.loads.load (q - start i) (omega arith)), rw z (f.block.loads.temporary (q - start i) (omega arith))))
    | inr (inr e) ↦ elim (cases_Bool (shape (row i).op).d) [
      | inr x ↦ absurd (omega (arith, f.ends x))
      | inl x ↦ elim (f.block.d x) [
        | inl r ↦ absurd (omega (arith, r.2))
        | inr r ↦ (let z : q ≡ suc (start i + n) = omega (arith, r.2) in inr (inr (z, omega (arith, r.2), x, r.0, r.1, rw z r.3, rw z r.4)))
      ]
    ]
  ]

  -- an operand of the row in its block: itself, or a temporary that a load before it writes
  abbrev pub Named : ℕ → ℕ → ℕ → ℕ → Type 0
  Named i n v x = ((spilled w.places v ≡ false) × (x ≡ v)) ⊎ ((spilled w.places v ≡ true) × (w.source.vars ≤ x) × ((k : ℕ) × (k < n) × ((line_of w (start i + k)).d ≡ x)))

  pub operand : (i n v x : ℕ) → BlockOf w start i n → Operand w.source w.places (line_of w) (start i) n v x → Named i n v x
  operand i n v x f (inl e) = inl e
  operand i n v x f (inr (s, (k, l, d, _, _))) = inr (s, rw (← d) (f.block.loads.temporary k l), (k, l, d))
