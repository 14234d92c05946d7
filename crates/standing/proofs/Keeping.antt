-- What stands before a round that spills stands after it.
use Rattle.std.proofs.Common.{◌≡◌, ℕ, zero, suc, ◌+◌, ◌-◌, ◌*◌, ◌<◌, ◌≤◌, Bool, true, false, ◌&&◌, ◌⊎◌, List, [], length, get_or, sym, refl, ap, ◌∙◌, subst, inl, inr, arith}
use Rattle.std.proofs.lemmas.Bool.{cases_Bool, cases_lt, and_parts, and_right, cond-true, cond-false, both_ways, true≢false}
use Rattle.counting.specs.Counting.{sum}
use Rattle.counting.proofs.Sums.{sum_mono, sum_le, count_le}
use Rattle.sets.specs.Sets.{has}
use Rattle.rows.specs.declared.Op.{Op}
use Rattle.rows.specs.declared.Op.TheVariants.{End}
use Rattle.rows.specs.declared.Row.{Row}
use Rattle.rows.specs.Rows.{shape, copies, row_at}
use Rattle.rounds.specs.Round.{Outcome}
use Rattle.compiling.specs.declared.Place.{Place}
use Rattle.compiling.specs.Working.{Working, spilled}
use Rattle.compiling.specs.Blocks.{assembled}
use Rattle.compiling.specs.Spill.{Order, spill_order, places_spilled}
use Rattle.compiling.specs.Rewrite.{class_in, inner, rewritten}
use Rattle.simulation.specs.Static.{row_of, Inner}
use Rattle.standing.specs.Standing.{bit, source_rows, line_of, Filled, Named, spare, Standing, Spills, RewrittenStands, StandingBounded, JumpsInside, StandingStands}
use Rattle.standing.proofs.Lines.{locate, one_part}
use Rattle.standing.proofs.Parts as parts
use Rattle.standing.proofs.Parts.{la, lb, sd, before, spread, names, spread_in, names_in, bit_true, bit_false, new_index}
use Rattle.standing.proofs.Round.{Fresh, not_now, stays_out, slot_stays, stays_in, filled', grows, gone', n', ends_above}
use Rattle.standing.proofs.Sources.{sound, present, starts_inside, high, starts_le, spare_le}
use Rattle.standing.proofs.Slots.{fresh, low, places_length, slot_below_lem, slots_count}

and_rest : (x y : Bool) → x ≡ true → (x && y) ≡ false → y ≡ false
and_rest true y e h = h
and_rest false y e h = absurd (both_ways false refl e)

module _ (w : Working) (start : ℕ → ℕ) (o : Outcome) (st : Standing w start) (sp : Spills w o) where
  abbrev s : Order
  s = spill_order w o

  abbrev classes : List ℕ
  classes = w.classes

  abbrev rows : List Row
  rows = w.rows

  abbrev vars : ℕ
  vars = w.source.vars

  abbrev after : List Place
  after = places_spilled w o

  abbrev row : ℕ → Row
  row q = row_at rows q

  abbrev made : ℕ → Row
  made q = parts.made s classes rows q

  abbrev pos : ℕ → ℕ
  pos q = parts.pos s classes rows q

  abbrev tmp : ℕ → ℕ
  tmp q = parts.tmp s classes rows q

  abbrev total : ℕ
  total = length (assembled (parts.bs s classes rows))

  abbrev classes_after : List ℕ
  classes_after = parts.classes_after s classes rows

  abbrev Kind : ℕ → ℕ → Type 0
  Kind q p = parts.Kind s classes rows q p

  fr : Fresh w.source w.places after s classes
  fr = fresh w start o st sp

  vars_low : vars ≤ length classes
  vars_low = low w start o st sp

  older : (q : ℕ) → (shape (row q).op).d ≡ true → (row q).d < length classes
  older q y = elim (st.named_d q y) [ inl e ↦ omega (arith, vars_low, e.0) | inr e ↦ e.1 ]

  -- ---- blocks

  abbrev start' : ℕ → ℕ
  start' i = pos (start i)

  -- the block of row i stands again, and has as many more temporaries as rows
  abbrev Again : ℕ → Type 0
  Again i = (Inner w.source after start' i ⊎ ((n : ℕ) × Filled w.source after made start' i n)) × (tmp (start (suc i)) + spare start i ≡ tmp (start i) + spare start' i)

  again : (i : ℕ) → i < source_rows w → Again i
  again i h = elim (st.stands i h) [
    | inl g ↦ (
      inl (record {
        copy = g.copy;
        d = stays_out w.source w.places after s classes fr _ g.d;
        a = stays_out w.source w.places after s classes fr _ g.a;
        same = slot_stays w.source w.places after s classes fr _ g.d ∙ g.same ∙ sym (slot_stays w.source w.places after s classes fr _ g.a);
        next = ap pos g.next;
      }),
      omega (arith, g.next, ap pos g.next, ap tmp g.next),
    )
    | inr b ↦ filled i h b.0 b.1
  ]
    where
      filled : (i : ℕ) → i < source_rows w → (n : ℕ) → Filled w.source w.places (line_of w) start i n → Again i
      filled i h n f =
          let so = sound w.source st.well_formed in
          let tg : (shape (row_of w.source i).op).target ≡ true → start (row_of w.source i).target < length rows = λ y. starts_inside w start st _ (so.target i h y) in
          let hi = high w start st i h in
          elim (cases_Bool (inner s (row (start i + n)))) [
            | inl y ↦
                (let g = gone' w.source w.places after s classes fr rows start i n f older tg hi y in
                (inl g.0, omega (arith, g.1.0, g.1.1, g.0.next)))
            | inr y ↦
                (let g = grows w.source w.places after s classes fr rows start i n f older tg hi y in
                let up = ends_above w.source w.places after s classes fr rows start i n f older tg hi in (
                  inr (n' w.source w.places after s classes fr rows start i n f older tg hi, filled' w.source w.places after s classes fr rows start i n f older tg hi y (so.var_a i) (so.var_b i)),
                  omega (arith, g, up, parts.tmp_mono s classes rows (start i) (start (suc i)) (omega arith)),
                ))
          ]

  spares : (k : ℕ) → k ≤ source_rows w → tmp (start k) + sum (spare start) k ≡ length classes + sum (spare start') k
  unfolding sum
  spares zero h = omega (arith, ap tmp st.first)
  spares (suc k) h = omega (arith, spares k (omega arith), (again k h).1)

  -- ---- rows

  abbrev Named' : ℕ → Type 0
  Named' v = ((v < vars) × (spilled after v ≡ false)) ⊎ ((vars ≤ v) × (v < length classes_after))

  tmp_below : (p k : ℕ) → p < length rows → k < names s (row p) → tmp p + k < length classes_after
  tmp_below p k h l = omega (arith, parts.classes_length s classes rows, parts.tmp_step s classes rows p, parts.tmp_mono s classes rows (suc p) (length rows) h)

  new_name : (p k v : ℕ) → p < length rows → k < names s (row p) → v ≡ tmp p + k → Named' v
  new_name p k v h l e = inr (omega (arith, vars_low), omega (arith, tmp_below p k h l))

  old_name : (v : ℕ) → Named w v → has s.out v ≡ false → Named' v
  old_name v (inl e) n = inl (e.0, stays_in w.source w.places after s classes fr v e.1 n)
  old_name v (inr e) n = inr (e.0, omega (arith, parts.classes_length s classes rows, e.1))

  old_class : (v : ℕ) → Named w v → class_in classes_after v ≡ class_in classes v
  old_class v (inl e) = parts.class_old s classes rows v (omega (arith, vars_low, e.0))
  old_class v (inr e) = parts.class_old s classes rows v e.1

  -- a row that writes writes a new temporary, or what it wrote
  abbrev FreshD : ℕ → ℕ → Type 0
  FreshD q p = (k : ℕ) × (k < names s (row p)) × (q ≡ pos p + k) × ((made q).d ≡ tmp p + k)

  abbrev KeptD : ℕ → ℕ → Type 0
  KeptD q p = ((shape (row p).op).d ≡ true) × (q ≡ pos p + before s (row p)) × ((made q).d ≡ (row p).d) × (has s.out (row p).d ≡ false)

  module _ (q p : ℕ) (h : p < length rows) (ni : inner s (row p) ≡ false) where
    nm : names s (row p) ≡ before s (row p) + bit (sd s (row p))
    nm = names_in s (row p) ni

    name_a : (shape (made q).op).a ≡ true → Kind q p → Named' (made q).a × ((made q).aclass ≡ class_in classes_after (made q).a)
    name_a x (inl (_, _, e)) = absurd (true≢false (sym x ∙ ap (λ r. (shape r.op).a) e))
    name_a x (inr (inl (_, _, e))) = absurd (true≢false (sym x ∙ ap (λ r. (shape r.op).a) e))
    name_a x (inr (inr (inl (_, e)))) =
        let y : (shape (row p).op).a ≡ true = sym (ap (λ r. (shape r.op).a) e) ∙ x in
        elim (cases_Bool (la s (row p))) [
          | inl t ↦
              (let z : (made q).a ≡ tmp p = ap (λ r. r.a) e ∙ cond-true _ _ _ t in
              (new_name p 0 (made q).a h (omega (arith, nm, bit_true _ t)) (omega (arith, z)), ap (λ r. r.aclass) e ∙ st.class_a p y ∙ sym (ap (class_in classes_after) z ∙ parts.class_a s classes rows p h ni t)))
          | inr t ↦
              (let z : (made q).a ≡ (row p).a = ap (λ r. r.a) e ∙ cond-false _ _ _ t in
              let old = st.named_a p y in
              (subst Named' (sym z) (old_name (row p).a old (and_rest _ _ y t)), ap (λ r. r.aclass) e ∙ st.class_a p y ∙ sym (ap (class_in classes_after) z ∙ old_class (row p).a old)))
        ]
    name_a x (inr (inr (inr (t, _, e)))) =
        let z : (made q).a ≡ tmp p + before s (row p) = ap (λ r. r.a) e in
        (new_name p (before s (row p)) (made q).a h (omega (arith, nm, bit_true _ t)) z, ap (λ r. r.aclass) e ∙ sym (ap (class_in classes_after) z ∙ parts.class_d s classes rows p h ni t))

    name_b : (shape (made q).op).b ≡ true → Kind q p → Named' (made q).b
    name_b x (inl (_, _, e)) = absurd (true≢false (sym x ∙ ap (λ r. (shape r.op).b) e))
    name_b x (inr (inl (_, _, e))) = absurd (true≢false (sym x ∙ ap (λ r. (shape r.op).b) e))
    name_b x (inr (inr (inl (_, e)))) =
        let y : (shape (row p).op).b ≡ true = sym (ap (λ r. (shape r.op).b) e) ∙ x in
        elim (cases_Bool (lb s (row p))) [
          | inl t ↦ new_name p (bit (la s (row p))) (made q).b h (omega (arith, nm, bit_true _ t)) (ap (λ r. r.b) e ∙ cond-true _ _ _ t)
          | inr t ↦ subst Named' (sym (ap (λ r. r.b) e ∙ cond-false _ _ _ t)) (old_name (row p).b (st.named_b p y) (and_rest _ _ y t))
        ]
    name_b x (inr (inr (inr (_, _, e)))) = absurd (true≢false (sym x ∙ ap (λ r. (shape r.op).b) e))

    wrote : (shape (made q).op).d ≡ true → Kind q p → (FreshD q p ⊎ KeptD q p) × ((made q).dclass ≡ class_in classes_after (made q).d)
    wrote x (inl (t, at, e)) =
        (inl (0, omega (arith, nm, bit_true _ t), omega arith, ap (λ r. r.d) e ∙ omega arith), ap (λ r. r.dclass) e ∙ sym (ap (λ r. class_in classes_after r.d) e ∙ parts.class_a s classes rows p h ni t))
    wrote x (inr (inl (t, at, e))) =
        (inl (bit (la s (row p)), omega (arith, nm, bit_true _ t), at, ap (λ r. r.d) e), ap (λ r. r.dclass) e ∙ sym (ap (λ r. class_in classes_after r.d) e ∙ parts.class_b s classes rows p h ni t))
    wrote x (inr (inr (inl (at, e)))) =
        let y : (shape (row p).op).d ≡ true = sym (ap (λ r. (shape r.op).d) e) ∙ x in
        elim (cases_Bool (sd s (row p))) [
          | inl t ↦
              (let z : (made q).d ≡ tmp p + before s (row p) = ap (λ r. r.d) e ∙ cond-true _ _ _ t in
              (inl (before s (row p), omega (arith, nm, bit_true _ t), at, z), ap (λ r. r.dclass) e ∙ st.class_d p y ∙ sym (ap (class_in classes_after) z ∙ parts.class_d s classes rows p h ni t)))
          | inr t ↦
              (let z : (made q).d ≡ (row p).d = ap (λ r. r.d) e ∙ cond-false _ _ _ t in
              (inr (y, at, z, and_rest _ _ y t), ap (λ r. r.dclass) e ∙ st.class_d p y ∙ sym (ap (class_in classes_after) z ∙ old_class (row p).d (st.named_d p y))))
        ]
    wrote x (inr (inr (inr (_, _, e)))) = absurd (true≢false (sym x ∙ ap (λ r. (shape r.op).d) e))

    name_d : (FreshD q p ⊎ KeptD q p) → Named' (made q).d
    name_d (inl (k, l, at, z)) = new_name p k (made q).d h l z
    name_d (inr (y, at, z, n)) = subst Named' (sym z) (old_name (row p).d (st.named_d p y) n)

    goes_on_lem : (shape (made q).op).target ≡ true → Kind q p → (t : ℕ) × (t < source_rows w) × ((made q).target ≡ start' t)
    goes_on_lem x (inl (_, _, e)) = absurd (true≢false (sym x ∙ ap (λ r. (shape r.op).target) e))
    goes_on_lem x (inr (inl (_, _, e))) = absurd (true≢false (sym x ∙ ap (λ r. (shape r.op).target) e))
    goes_on_lem x (inr (inr (inl (_, e)))) =
        let y : (shape (row p).op).target ≡ true = sym (ap (λ r. (shape r.op).target) e) ∙ x in
        let (t, b, z) = st.target p y in
        (t, b, ap (λ r. r.target) e ∙ cond-true _ _ _ y ∙ ap (parts.landing s classes rows) z ∙ parts.landing_at s classes rows (start t) (starts_inside w start st t b))
    goes_on_lem x (inr (inr (inr (_, _, e)))) = absurd (true≢false (sym x ∙ ap (λ r. (shape r.op).target) e))

  there : (p j : ℕ) → p < length rows → j < spread s (row p) → pos p + j < total
  there p j h l = omega (arith, parts.made_length s classes rows, parts.pos_step s classes rows p h, sum_mono (λ k. length (get_or (parts.bs s classes rows) k [])) (suc p) (length rows) h)

  in_line : (t : Op → Bool) (q : ℕ) → t End ≡ false → t (made q).op ≡ true → parts.Came s classes rows q
  in_line t q e x = parts.came s classes rows q (present t (assembled (parts.bs s classes rows)) q e x)

  -- ---- a temporary is written in just one place

  abbrev Writes : ℕ → Type 0
  Writes q = (p : ℕ) × (p < length rows) × (FreshD q p ⊎ KeptD q p)

  writes : (q : ℕ) → (shape (made q).op).d ≡ true → Writes q
  writes q x = let (p, h, ni, k) = in_line (λ op. (shape op).d) q refl x in (p, h, (wrote q p h ni x k).0)

  only_place : (q r : ℕ) → Writes q → Writes r → vars ≤ (made q).d → (made q).d ≡ (made r).d → q ≡ r
  only_place q r (p, h, inl (k, l, at, z)) (u, g, inl (j, m, by, y)) lo e =
      let pu : p ≡ u = one_part (λ i. names s (row_at rows i)) p u k j l m (omega arith) in
      omega (arith, ap pos pu, ap tmp pu)
  only_place q r (p, h, inl (k, l, at, z)) (u, g, inr (x, by, y, n)) lo e = absurd (omega (arith, older u x))
  only_place q r (p, h, inr (v, at, z, m)) (u, g, inl (j, l, by, y)) lo e = absurd (omega (arith, older p v))
  only_place q r (p, h, inr (v, at, z, m)) (u, g, inr (x, by, y, n)) lo e =
      let pu : p ≡ u = st.once p u v x (omega arith) (sym z ∙ e ∙ y) in
      at ∙ ap (λ (i : ℕ). pos i + before s (row i)) pu ∙ sym by

  abbrev Written : ℕ → Type 0
  Written t = (q : ℕ) × (q < total) × ((shape (made q).op).d ≡ true) × ((made q).d ≡ t)

  old_written : (t q : ℕ) → vars ≤ t → q < length rows → (shape (row q).op).d ≡ true → (row q).d ≡ t → Written t
  old_written t q lo h x e =
      let n : has s.out (row q).d ≡ false = not_now w.source w.places after s classes fr (row q).d (omega arith) in
      let ni : inner s (row q) ≡ false = elim (cases_Bool (inner s (row q))) [
        | inr y ↦ y
        | inl y ↦ absurd (both_ways _ n (and_parts (has s.out (row q).d) _ (and_parts (has s.out (row q).d && has s.out (row q).a) _ (and_parts (copies (row q).op) _ y).1).0).0)
      ] in
      let c = parts.core_at s classes rows q h ni in
      (pos q + before s (row q), there q (before s (row q)) h (omega (arith, spread_in s (row q) ni)), ap (λ r. (shape r.op).d) c ∙ x, ap (λ r. r.d) c ∙ cond-false _ _ _ (and_right _ _ n) ∙ e)

  new_written : (t p : ℕ) → p < length rows → tmp p ≤ t → t < tmp p + names s (row p) → Written t
  new_written t p h lo hi = elim (cases_Bool (inner s (row p))) [
    | inl y ↦ (let none : names s (row p) ≡ 0 = cond-true _ _ _ y in absurd (omega arith))
    | inr y ↦ elim (cases_lt t (tmp p + before s (row p))) [
      | inl e ↦ elim (new_index (la s (row p)) (lb s (row p)) (tmp p) t lo e) [
        | inl x ↦
            (let c = parts.load_a_lem s classes rows p h y x.0 in let z : pos p + 0 ≡ pos p = omega arith in
            (pos p, rw z at (there p 0 h (omega (arith, spread_in s (row p) y))), ap (λ r. (shape r.op).d) c, ap (λ r. r.d) c ∙ sym x.1))
        | inr x ↦
            (let c = parts.load_b_lem s classes rows p h y x.0 in
            (pos p + bit (la s (row p)), there p (bit (la s (row p))) h (omega (arith, spread_in s (row p) y)), ap (λ r. (shape r.op).d) c, ap (λ r. r.d) c ∙ sym x.1))
      ]
      | inr e ↦ elim (cases_Bool (sd s (row p))) [
        | inl x ↦
            (let c = parts.core_at s classes rows p h y in
            let z : tmp p + before s (row p) ≡ t = omega (arith, names_in s (row p) y, bit_true _ x) in
            (pos p + before s (row p), there p (before s (row p)) h (omega (arith, spread_in s (row p) y)), ap (λ r. (shape r.op).d) c ∙ (and_parts (shape (row p).op).d _ x).0, ap (λ r. r.d) c ∙ cond-true _ _ _ x ∙ z))
        | inr x ↦ absurd (omega (arith, names_in s (row p) y, bit_false _ x))
      ]
    ]
  ]

  some_place : (t : ℕ) → vars ≤ t → t < length classes_after → Written t
  some_place t lo hi = elim (cases_lt t (length classes)) [
    | inl e ↦ (let (q, h, x, z) = st.written t lo e in old_written t q lo h x z)
    | inr e ↦
        (let (p, h, a, b) = locate (λ k. names s (row_at rows k)) (length rows) (t - length classes) (omega (arith, parts.classes_length s classes rows)) in
        new_written t p h (omega arith) (omega arith))
  ]

  first' : start' 0 ≡ 0
  unfolding sum
  first' = ap pos st.first

  pub stands_after : Standing (rewritten w o) start'
  unfolding rewritten
  stands_after = record {
    well_formed = st.well_formed;
    first = first';
    stands = λ i h. (again i h).0;
    long = parts.made_length s classes rows ∙ ap pos st.long;
    places = places_length w start o st sp;
    classes = omega (arith, parts.classes_length s classes rows, ap tmp st.long, spares (source_rows w) (omega arith), st.classes);
    class = λ v h. parts.class_old s classes rows v (omega (arith, vars_low)) ∙ st.class v h;
    small = parts.class_small s classes rows st.small;
    slots = slots_count w start o st sp;
    slot = slot_below_lem w start o st sp;
    named_a = λ q x. let (p, h, ni, k) = in_line (λ op. (shape op).a) q refl x in (name_a q p h ni x k).0;
    named_b = λ q x. let (p, h, ni, k) = in_line (λ op. (shape op).b) q refl x in name_b q p h ni x k;
    named_d = λ q x. let (p, h, ni, k) = in_line (λ op. (shape op).d) q refl x in name_d q p h ni (wrote q p h ni x k).0;
    class_d = λ q x. let (p, h, ni, k) = in_line (λ op. (shape op).d) q refl x in (wrote q p h ni x k).1;
    class_a = λ q x. let (p, h, ni, k) = in_line (λ op. (shape op).a) q refl x in (name_a q p h ni x k).1;
    target = λ q x. let (p, h, ni, k) = in_line (λ op. (shape op).target) q refl x in goes_on_lem q p h ni x k;
    written = some_place;
    once = λ q r x y lo e. only_place q r (writes q x) (writes r y) lo e;
  }

pub rewritten_stands : RewrittenStands
rewritten_stands w start o st sp = stands_after w start o st sp

pub standing_bounded : StandingBounded
standing_bounded w start st =
    let wf = st.well_formed in
    let rows : length w.rows ≤ 4 * source_rows w = omega (arith, st.long, starts_le w start st (source_rows w) (omega arith)) in
    let classes : length w.classes ≤ w.source.vars + 3 * source_rows w = omega (arith, st.classes, sum_le (spare start) 3 (source_rows w) (spare_le w start st)) in
    let slots : w.slots ≤ w.source.vars = omega (arith, st.slots, count_le (spilled w.places) w.source.vars) in
    record { rows = rows; most_rows = omega (arith, wf.most); classes = classes; most_classes = omega (arith, wf.most, wf.vars); slots = slots; most_slots = omega (arith, wf.vars) }

pub jumps_inside : JumpsInside
jumps_inside w start st q x = let (t, h, e) = st.target q x in rw e (starts_inside w start st t h)

pub standing_stands : StandingStands
standing_stands w start st i h = elim (st.stands i h) [ inl g ↦ inl g | inr b ↦ inr (b.0, b.1.block) ]
