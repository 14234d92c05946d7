-- What well-formed rows satisfy, and where the blocks of a working program start.
use Rattle.std.proofs.Common.{◌≡◌, ℕ, zero, suc, ◌+◌, ◌-◌, ◌*◌, ◌<◌, ◌≤◌, Bool, true, false, List, length, get_or, replicate, sym, refl, ap, ◌∙◌, inl, inr, arith}
use Rattle.std.proofs.lemmas.List.{get_or_past, get_or-replicate, length-replicate}
use Rattle.std.proofs.lemmas.Bool.{cases_Bool, cases_lt, cases_eq, eqb-true, cond-true, both_ways}
use Rattle.counting.specs.Counting.{sum}
use Rattle.rows.specs.declared.Op.{Op}
use Rattle.rows.specs.declared.Op.TheVariants.{End, Const, Copy, Add, Sub, And, Xor, Widen, Narrow, Input, Output, Jump, Less, Load, Store}
use Rattle.rows.specs.declared.Row.{Row}
use Rattle.rows.specs.Rows.{shape, copies, opcode, fits, end_row, Program, row_at}
use Rattle.packing.specs.Inverse.{WellRow, WellFormed}
use Rattle.compiling.specs.Working.{Working, admitted, no_place, is_slot, spilled}
use Rattle.compiling.specs.declared.Place.{Place}
use Rattle.simulation.specs.Static.{Sound, row_of}
use Rattle.standing.specs.Standing.{bit, source_rows, line_of, fetched, Filled, spare, Standing, WellFormedSound, AdmittedStands}
use Rattle.standing.proofs.Round.{is_copy}

-- a test that the row end fails passes only of rows that there are
pub present : (t : Op → Bool) (rows : List Row) (q : ℕ) → t End ≡ false → t (row_at rows q).op ≡ true → q < length rows
present t rows q e y = elim (cases_lt q (length rows)) [
  | inl h ↦ h
  | inr h ↦ absurd (both_ways _ (ap (λ (r : Row). t r.op) (get_or_past rows q end_row h) ∙ e) y)
]

no_slot : (op : Op) → opcode op ≤ 12 → (shape op).slot ≡ false
no_slot End h = refl
no_slot Const h = refl
no_slot Copy h = refl
no_slot Add h = refl
no_slot Sub h = refl
no_slot And h = refl
no_slot Xor h = refl
no_slot Widen h = refl
no_slot Narrow h = refl
no_slot Input h = refl
no_slot Output h = refl
no_slot Jump h = refl
no_slot Less h = refl
no_slot Load h = absurd (omega arith)
no_slot Store h = absurd (omega arith)

pub copy_falls : (op : Op) → copies op ≡ true → (shape op).falls ≡ true
copy_falls op e = rw (is_copy op e) refl

pub ends_bare : (op : Op) → (shape op).falls ≡ false → (shape op).d ≡ false
ends_bare op e = grind arith

copy_fits : (op : Op) (d a b : ℕ) → copies op ≡ true → fits op d a b ≡ true → d ≡ a
copy_fits op d a b e h = eqb-true d a (rw (is_copy op e) at h)

module _ (p : Program) (wf : WellFormed p) where
  well : (i : ℕ) → i < length p.rows → WellRow p.vars (length p.rows) (λ k. get_or p.classes k 0) (row_of p i)
  well i h = wf.rows i h

  well_if : (t : Op → Bool) (i : ℕ) → t End ≡ false → t (row_of p i).op ≡ true → WellRow p.vars (length p.rows) (λ k. get_or p.classes k 0) (row_of p i)
  well_if t i e y = well i (present t p.rows i e y)

  pub sound : Sound p
  sound = record {
    some = wf.some;
    most = wf.most;
    below = λ i h y. elim (cases_eq (suc i) (length p.rows)) [
      | inl e ↦ (let z : i ≡ length p.rows - 1 = omega arith in absurd (both_ways _ (ap (λ (j : ℕ). (shape (row_of p j).op).falls) z ∙ wf.last) y))
      | inr e ↦ omega arith
    ];
    target = λ i h y. (well i h).target.within y;
    var_a = λ i y. (well_if (λ op. (shape op).a) i refl y).a.within y;
    var_b = λ i y. (well_if (λ op. (shape op).b) i refl y).b.within y;
    var_d = λ i y. (well_if (λ op. (shape op).d) i refl y).d.within y;
    class_d = λ i y. (well_if (λ op. (shape op).d) i refl y).dclass ∙ cond-true _ _ _ y;
    class_a = λ i y.
        let r = well_if copies i refl y in
        let yd : (shape (row_of p i).op).d ≡ true = rw (is_copy _ y) refl in
        sym (r.dclass ∙ cond-true _ _ _ yd ∙ copy_fits (row_of p i).op _ _ _ y r.suits);
    plain = λ i. elim (cases_lt i (length p.rows)) [
      | inl h ↦ no_slot _ (well i h).source
      | inr h ↦ ap (λ (r : Row). (shape r.op).slot) (get_or_past p.rows i end_row h)
    ];
  }

  -- ---- before the first round

  none_spilled : (v : ℕ) → spilled (replicate p.vars no_place) v ≡ false
  none_spilled v = elim (cases_lt v p.vars) [
    | inl h ↦ ap (λ (z : Place). is_slot z.home) (get_or-replicate p.vars v no_place no_place h)
    | inr h ↦ ap (λ (z : Place). is_slot z.home) (get_or_past (replicate p.vars no_place) v no_place (omega (arith, length-replicate p.vars no_place)))
  ]

  none_fetched : (read : Bool) (v : ℕ) → bit (fetched (replicate p.vars no_place) read v) ≡ 0
  none_fetched true v = rw (none_spilled v) refl
  none_fetched false v = refl

  spare_none : (n : ℕ) → sum (spare (λ i. i)) n ≡ 0
  unfolding sum
  spare_none zero = refl
  spare_none (suc n) = omega (arith, spare_none n)

  at_zero : (i : ℕ) → row_at p.rows (i + 0) ≡ row_of p i
  at_zero i = let e : i + 0 ≡ i = omega arith in ap (row_at p.rows) e

  filled_first : (i : ℕ) → i < length p.rows → Filled p (replicate p.vars no_place) (row_at p.rows) (λ j. j) i 0
  filled_first i h = record {
    block = record {
      few = omega arith;
      loads = record { load = λ k b. absurd (omega arith); temporary = λ k b. absurd (omega arith); twice = λ j k l b. absurd (omega arith) };
      op = ap (λ r. r.op) (at_zero i);
      dclass = ap (λ r. r.dclass) (at_zero i);
      constant = ap (λ r. r.constant) (at_zero i);
      target = λ _. ap (λ r. r.target) (at_zero i);
      a = λ _. inl (none_spilled _, ap (λ r. r.a) (at_zero i));
      b = λ _. inl (none_spilled _, ap (λ r. r.b) (at_zero i));
      d = λ _. inl (none_spilled _, ap (λ r. r.d) (at_zero i), omega arith);
      none = λ _ _. omega arith;
    };
    counts = omega (arith, none_fetched (shape (row_of p i).op).a (row_of p i).a, none_fetched (shape (row_of p i).op).b (row_of p i).b);
    ends = λ _. omega arith;
  }

  pub first_stands : Standing (admitted p) (λ i. i)
  first_stands = record {
    well_formed = wf;
    first = refl;
    stands = λ i h. inr (0, filled_first i h);
    long = refl;
    places = length-replicate p.vars no_place;
    classes = omega (arith, wf.each, spare_none (length p.rows));
    class = λ v h. refl;
    small = λ v. elim (cases_lt v p.vars) [ inl h ↦ wf.classes v h | inr h ↦ omega (arith, get_or_past p.classes v 0 (omega (arith, wf.each))) ];
    slots = omega arith;
    slot = λ v y. absurd (both_ways _ (none_spilled v) y);
    named_a = λ q y. inl (sound.var_a q y, none_spilled _);
    named_b = λ q y. inl (sound.var_b q y, none_spilled _);
    named_d = λ q y. inl (sound.var_d q y, none_spilled _);
    class_d = λ q y. sound.class_d q y;
    class_a = λ q y. (well_if (λ op. (shape op).a) q refl y).aclass ∙ cond-true _ _ _ y;
    target = λ q y. let h = present (λ op. (shape op).target) p.rows q refl y in ((row_of p q).target, sound.target q h y, refl);
    written = λ t lo hi. absurd (omega (arith, wf.each));
    once = λ q r x y lo e. absurd (omega (arith, sound.var_d q x));
  }

pub well_formed_sound : WellFormedSound
well_formed_sound p wf = sound p wf

pub admitted_stands : AdmittedStands
admitted_stands p wf = first_stands p wf

-- ---- where blocks start

module _ (w : Working) (start : ℕ → ℕ) (st : Standing w start) where
  pub filled_ends : (i n : ℕ) → Filled w.source w.places (line_of w) start i n → (start i + n < start (suc i)) × (start (suc i) ≤ start i + 4)
  filled_ends i n f = elim (cases_Bool (shape (row_of w.source i).op).d) [
    | inr e ↦ (omega (arith, f.ends e), omega (arith, f.ends e, f.block.few))
    | inl e ↦ elim (f.block.d e) [ inl x ↦ (omega (arith, x.2), omega (arith, x.2, f.block.few)) | inr x ↦ (omega (arith, x.2), omega (arith, x.2, f.block.few)) ]
  ]

  pub step : (i : ℕ) → i < source_rows w → (start i ≤ start (suc i)) × (start (suc i) ≤ start i + 4)
  step i h = elim (st.stands i h) [
    | inl g ↦ (omega (arith, g.next), omega (arith, g.next))
    | inr b ↦ (let e = filled_ends i b.0 b.1 in (omega (arith, e.0), e.1))
  ]

  pub rises : (i d j : ℕ) → i + d ≡ j → j ≤ source_rows w → start i ≤ start j
  rises i zero j e h = let q : i ≡ j = omega arith in rw q (omega arith)
  rises i (suc d) zero e h = absurd (omega arith)
  rises i (suc d) (suc j) e h = omega (arith, rises i d j (omega arith) (omega arith), (step j h).0)

  last_block : (i : ℕ) → suc i ≡ source_rows w → start i < start (suc i)
  last_block i e = elim (st.stands i (omega arith)) [
    | inl g ↦
        (let z : i ≡ length w.source.rows - 1 = omega arith in
        absurd (both_ways _ (ap (λ (j : ℕ). (shape (row_of w.source j).op).falls) z ∙ st.well_formed.last) (copy_falls _ g.copy)))
    | inr b ↦ omega (arith, (filled_ends i b.0 b.1).0)
  ]

  -- every block starts at a row that there is
  pub starts_inside : (t : ℕ) → t < source_rows w → start t < length w.rows
  starts_inside t h =
      let i : ℕ = source_rows w - 1 in
      let e : suc i ≡ source_rows w = omega (arith, st.well_formed.some) in
      omega (arith, rises t (i - t) i (omega arith) (omega arith), last_block i e, ap start e, st.long)

  pub high : (i : ℕ) → i < source_rows w → start (suc i) ≤ length w.rows
  high i h = omega (arith, rises (suc i) (source_rows w - suc i) (source_rows w) (omega arith) (omega arith), st.long)

  pub starts_le : (k : ℕ) → k ≤ source_rows w → start k ≤ 4 * k
  starts_le zero h = omega (arith, st.first)
  starts_le (suc k) h = omega (arith, starts_le k (omega arith), (step k h).1)

  pub spare_le : (k : ℕ) → k < source_rows w → spare start k ≤ 3
  spare_le k h = omega (arith, (step k h).1)
