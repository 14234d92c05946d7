-- Temporaries that are neighbours are the two loads of one block, before and after merging.
use Rattle.std.proofs.Common.{◌≡◌, ℕ, zero, suc, ◌+◌, ◌-◌, ◌<◌, ◌≤◌, Bool, true, false, cond, not, ◌&&◌, ◌||◌, eqb, ltb, ◌⊎◌, List, length, get_or, sym, refl, ap, ◌∙◌, subst, inl, inr, arith}
use Rattle.std.proofs.lemmas.List.{get_or_past}
use Rattle.std.proofs.lemmas.Bool.{cases_Bool, cases_lt, cases_eq, cases_order, both_ways, true≢false, and_parts, and_from, lt-ltb, ltb-true, eqb-true, not_from_false}
use Rattle.sets.specs.Sets.{has}
use Rattle.rows.specs.declared.Op.{Op}
use Rattle.rows.specs.declared.Op.TheVariants.{Copy, Load, Store}
use Rattle.rows.specs.declared.Row.{Row}
use Rattle.rows.specs.Rows.{shape, copies, fits, Program, row_at}
use Rattle.registers.specs.Model.{Model}
use Rattle.rounds.specs.Liveness.{live_after}
use Rattle.rounds.specs.Interference.{Graph, beside, neighbours, class_at, node_at, interference}
use Rattle.rounds.specs.Round.{those, graph_of}
use Rattle.rounds.proofs.Members.{has_those}
use Rattle.compiling.specs.Working.{Working, spilled, place_of, no_place, is_slot, unspilled}
use Rattle.compiling.specs.Rewrite.{class_in}
use Rattle.simulation.specs.Static.{row_of, class_of, slot_of, Operand}
use Rattle.interfering.specs.Living.{read_at, written_at, goes_on, lives_before, lives_after}
use Rattle.interfering.specs.Edges.{Names, Neighbours, Meets, Proper as Tidy}
use Rattle.interfering.proofs.Living.{after_only}
use Rattle.interfering.proofs.Edges.{interferes, proper}
use Rattle.merging.specs.Merging.{Alike, Coalesces, Between, Gathers}
use Rattle.merging.proofs.Rounds.{round_merges}
use Rattle.colouring.specs.Selecting.{Proper}
use Rattle.colouring.specs.Removing.{Paired}
use Rattle.standing.specs.Standing.{source_rows, line_of, Filled, Standing, Named}
use Rattle.transfer.specs.Inside.{BlockOf, Inside}
use Rattle.transfer.specs.Paired.{StandingInOrder, Couple, graph_before, graph_after, ThreeClasses, Pairs, NeighboursCouple, TemporariesPaired}
use Rattle.transfer.proofs.Parts.{read_which, goes_which, write_which, writes_below, is_copy}
use Rattle.transfer.proofs.Blocks.{block_end, one_block, Found, found, kind}
use Rattle.transfer.proofs.Inside.{inside}

past_none : (w : Working) (v : ℕ) → length w.places ≤ v → spilled w.places v ≡ false
past_none w v l = rw (get_or_past w.places v no_place l) refl

pub node_has : (w : Working) (v : ℕ) → has (unspilled w) v ≡ (ltb v (length w.classes) && not (spilled w.places v))
unfolding unspilled
node_has w v = has_those (λ v. not (spilled w.places v)) (length w.classes) v

module _ (w : Working) (start : ℕ → ℕ) (st : Standing w start) where
  -- ---- the rows are in order

  node : (v : ℕ) → Named w v → has (unspilled w) v ≡ true
  node v (inl (l, s)) = node_has w v ∙ and_from _ _ (lt-ltb _ _ (omega (arith, st.classes))) (not_from_false _ s)
  node v (inr (l, b)) = node_has w v ∙ and_from _ _ (lt-ltb _ _ b) (not_from_false _ (past_none w v (omega (arith, st.places))))

  pub names : Names w.classes (unspilled w) w.rows
  names = record {
    named = λ i v h. elim h [
      | inl r ↦ elim (read_which (line_of w i) v r) [ inl (x, e) ↦ rw e (node _ (st.named_a i x)) | inr (x, e) ↦ rw e (node _ (st.named_b i x)) ]
      | inr d ↦ (let (x, e) = write_which (line_of w i) v d in rw e (node _ (st.named_d i x)))
    ];
    below = λ v h. ltb-true _ _ (and_parts (ltb v (length w.classes)) _ (sym (node_has w v) ∙ h)).0;
  }

  copy_shape : (r : Row) → copies r.op ≡ true → ((shape r.op).d ≡ true) × ((shape r.op).a ≡ true)
  copy_shape r h = let e = is_copy _ h in (ap (λ (o : Op). (shape o).d) e, ap (λ (o : Op). (shape o).a) e)

  -- the class of what stands for an operand is the operand's
  operand_class : (i n v x : ℕ) → BlockOf w start i n → v < w.source.vars → Operand w.source w.places (line_of w) (start i) n v x → class_in w.classes x ≡ class_of w.source v
  operand_class i n v x f l (inl (_, e)) = rw e (st.class v l)
  operand_class i n v x f l (inr (_, (k, kn, d, _, c))) =
      let ld : (line_of w (start i + k)).op ≡ Load = f.block.loads.load k kn in
      ap (class_in w.classes) (sym d) ∙ sym (st.class_d (start i + k) (rw ld refl)) ∙ c

  pub alike : Alike w.classes w.rows
  alike q h = elim (cases_lt q (length w.rows)) [
    | inr l ↦ absurd (true≢false (sym h ∙ rw (get_or_past w.rows q _ l) refl))
    | inl l ↦ (let (i, n, il, lo, hi, f) = found w start st q l in
        let (xd, xa) = copy_shape (line_of w q) h in
        elim (kind w start st q i n f lo hi) [
          | inl (_, o, _) ↦ absurd (true≢false (sym h ∙ rw o refl))
          | inr (inr (_, _, _, _, _, o, _)) ↦ absurd (true≢false (sym h ∙ rw o refl))
          | inr (inl z) ↦ core q i n il f z h xd
        ])
  ]
    where
      core : (q i n : ℕ) → i < source_rows w → BlockOf w start i n → q ≡ start i + n → copies (line_of w q).op ≡ true → (shape (line_of w q).op).d ≡ true → class_in w.classes (line_of w q).d ≡ class_in w.classes (line_of w q).a
      core q i n il f z h xd =
          let h' : copies (row_of w.source i).op ≡ true = rw (z, f.block.op) at h in
          let (sd, sa) = copy_shape (row_of w.source i) h' in
          let well = st.well_formed.rows i il in
          let dc : (row_of w.source i).dclass ≡ class_of w.source (row_of w.source i).d = well.dclass ∙ rw sd refl in
          let op : (row_of w.source i).op ≡ Copy = is_copy _ h' in
          let same : class_of w.source (row_of w.source i).d ≡ class_of w.source (row_of w.source i).a = eqb-true _ _ (ap (λ (o : Op). fits o (class_of w.source (row_of w.source i).d) (class_of w.source (row_of w.source i).a) (class_of w.source (row_of w.source i).b)) (sym op) ∙ well.suits) in
          let left : class_in w.classes (line_of w q).d ≡ class_of w.source (row_of w.source i).d = sym (st.class_d q xd) ∙ ap (λ (z : ℕ). (line_of w z).dclass) z ∙ f.block.dclass ∙ dc in
          let right : class_in w.classes (line_of w (start i + n)).a ≡ class_of w.source (row_of w.source i).a = operand_class i n _ _ f (well.a.within sa) (f.block.a sa) in
          left ∙ same ∙ sym right ∙ ap (λ (z : ℕ). class_in w.classes (line_of w z).a) (sym z)

  -- ---- temporaries that meet

  meets : (q t x : ℕ) → w.source.vars ≤ x → Meets w.rows q t x → Couple w start t x
  meets q t x big (wr, lv, ne) =
      let (d, e) = write_which (line_of w q) t wr in
      let (j, g, lj) = after_only w.rows q x lv in
      elim (goes_which q (line_of w q) j g) [
        | inl (y, _) ↦ absurd (both_ways _ (writes_below _ d).0 y)
        | inr (_, z) ↦ at e (inside w start st (suc q) x big (subst (λ (p : ℕ). lives_before w.rows p x ≡ true) z lj))
      ]
    where
      at : t ≡ (line_of w q).d → Inside w start (suc q) x → Couple w start t x
      at e (i, n, l, f, inl (k, kn, dk, lo, hi)) =
          let z : start i + (q - start i) ≡ q = omega arith in
          let dq : (line_of w (start i + (q - start i))).d ≡ t = ap (λ (p : ℕ). (line_of w p).d) z ∙ sym e in
          (i, n, q - start i, k, l, f, omega arith, kn, (λ s. ne (sym dq ∙ ap (λ (p : ℕ). (line_of w (start i + p)).d) s ∙ dk)), dq, dk)
      at e (i, n, l, f, inr (s, dv, hi, _, _)) = let z : start i + n ≡ q = omega arith in absurd (ne (e ∙ ap (λ (p : ℕ). (line_of w p).d) (sym z) ∙ dv))

  turned : (t x : ℕ) → Couple w start t x → Couple w start x t
  turned t x (i, n, j, k, l, f, jn, kn, ne, dj, dk) = (i, n, k, j, l, f, kn, jn, (λ e. ne (sym e)), dk, dj)

  pub couple : (t x : ℕ) → w.source.vars ≤ t → w.source.vars ≤ x → has (neighbours (graph_before w) t) x ≡ true → Couple w start t x
  couple t x bt bx h = of ((interferes w.classes (unspilled w) w.rows names).edge_only t x h)
    where
      of : Neighbours w.rows t x → Couple w start t x
      of (q, inl m) = meets q t x bx m
      of (q, inr m) = turned x t (meets q x t bt m)

  partner : (t x y : ℕ) → w.source.vars ≤ t → Couple w start t x → Couple w start t y → x ≡ y
  partner t x y big (i, n, q, r, l, f, qn, rn, ne, dq, dr) (j, m, u, v, k, g, um, vm, nf, du, dv) =
      let lq : (line_of w (start i + q)).op ≡ Load = f.block.loads.load q qn in
      let lu : (line_of w (start j + u)).op ≡ Load = g.block.loads.load u um in
      let same : start i + q ≡ start j + u = st.once (start i + q) (start j + u) (rw lq refl) (rw lu refl) (omega arith) (dq ∙ sym du) in
      let ij : i ≡ j = one_block w start st (start i + q) i j l k (omega arith) (omega (arith, block_end w start st i n f)) (omega arith) (omega (arith, block_end w start st j m g)) in
      let s : start i ≡ start j = ap start ij in
      let rv : start i + r ≡ start j + v = omega (arith, f.block.few, g.block.few) in
      sym dr ∙ ap (λ (p : ℕ). (line_of w p).d) rv ∙ dv

  pub single : (t x y : ℕ) → w.source.vars ≤ t → w.source.vars ≤ x → w.source.vars ≤ y → has (neighbours (graph_before w) t) x ≡ true → has (neighbours (graph_before w) t) y ≡ true → x ≡ y
  single t x y bt bx by h k = partner t x y bt (couple t x bt bx h) (couple t y bt by k)

  -- ---- and after merging

  module _ (m : Model) where
    merges : Coalesces w.source.vars (graph_before w) (graph_after m w) × Tidy (graph_after m w)
    merges = round_merges m w.source.vars w.classes (unspilled w) w.rows names alike

    alone : (v t : ℕ) → w.source.vars ≤ t → node_at (graph_after m w) v ≡ t → v ≡ t
    alone v t big e = elim (cases_eq v t) [
      | inl z ↦ z
      | inr ne ↦ absurd (omega (arith, (merges.0.source v t (sym (merges.0.itself v) ∙ ap (node_at (graph_after m w)) e) ne).1))
    ]

    unmerged : (t x : ℕ) → w.source.vars ≤ t → w.source.vars ≤ x → has (neighbours (graph_after m w) t) x ≡ true → has (neighbours (graph_before w) t) x ≡ true
    unmerged t x bt bx h =
        let (_, (a, b, ea, eb, k)) = merges.0.edges.only t x h in
        subst (λ (z : ℕ). has (neighbours (graph_before w) z) x ≡ true) (alone a t bt ea) (subst (λ (z : ℕ). has (neighbours (graph_before w) a) z ≡ true) (alone b x bx eb) k)

    before_class : (v : ℕ) → class_at (graph_before w) v ≡ class_in w.classes v
    unfolding interference
    before_class v = refl

    pub pairs : ThreeClasses w → Pairs m w
    pairs three = record {
      before = record { classed = λ v. rw (before_class v) (three v); partner = single };
      before_proper = (let p = proper w.classes (unspilled w) w.rows names in record { inside = p.below; both_ways = p.symmetric; loopless = p.loopless });
      after = record {
        classed = λ v. let e : class_at (graph_after m w) v ≡ class_in w.classes v = ap (λ (cs : List ℕ). get_or cs v 0) merges.0.classes ∙ before_class v in rw e (three v);
        partner = λ t x y bt bx by h k. single t x y bt bx by (unmerged t x bt bx h) (unmerged t y bt by k);
      };
      after_proper = (let p = merges.1 in record { inside = p.below; both_ways = p.symmetric; loopless = p.loopless });
    }

pub in_order : StandingInOrder
in_order w start st = (names w start st, alike w start st)

pub neighbours_couple : NeighboursCouple
neighbours_couple = couple

pub temporaries_paired : TemporariesPaired
temporaries_paired m w start st three = pairs w start st m three
