-- A round that spills leaves each source row its block.
use Rattle.std.proofs.Common.{◌≡◌, ℕ, zero, suc, ◌+◌, ◌-◌, ◌<◌, ◌≤◌, Bool, true, false, ◌&&◌, List, length, sym, refl, ap, ◌∙◌, inl, inr, add-zero, add-suc, arith}
use Rattle.std.proofs.lemmas.Bool.{cases_Bool, cases_lt, eqb-true, and_parts, and_from, and_right, and_left, cond-true, cond-false, both_ways}
use Rattle.sets.specs.Sets.{has}
use Rattle.rows.specs.declared.Op.{Op}
use Rattle.rows.specs.declared.Op.TheVariants.{Copy, Load, Store}
use Rattle.rows.specs.declared.Row.{Row}
use Rattle.rows.specs.Rows.{shape, copies, Program, row_at}
use Rattle.compiling.specs.declared.Place.{Place}
use Rattle.compiling.specs.Working.{place_of, is_slot, number_of, spilled}
use Rattle.compiling.specs.Spill.{Order, slot_in}
use Rattle.compiling.specs.Rewrite.{class_in, inner}
use Rattle.simulation.specs.Static.{row_of, class_of, slot_of, Loads, Operand, Stored, Block, Inner}
use Rattle.standing.specs.Standing.{bit, fetched, Filled}
use Rattle.standing.proofs.Parts.{la, lb, sd, before, spread, names, spread_in, names_in, bit_true, bit_false, new_index, pos, tmp, made, landing, load_a, load_b, core_of, store_d, pos_step, tmp_step, landing_at, load_a_lem, load_b_lem, core_at, store_at}

pub is_copy : (op : Op) → copies op ≡ true → op ≡ Copy
is_copy op e = grind arith

-- what a round may count on: it spills source variables that are not spilled yet, and gives them places; the others keep theirs
pub record Fresh (p : Program) (places after : List Place) (s : Order) (classes : List ℕ) : Type 0 where
  pub vars : (v : ℕ) → has s.out v ≡ true → v < p.vars
  pub new : (v : ℕ) → has s.out v ≡ true → spilled places v ≡ false
  pub now : (v : ℕ) → has s.out v ≡ true → (spilled after v ≡ true) × (slot_of after v ≡ slot_in s v)
  pub old : (v : ℕ) → has s.out v ≡ false → place_of after v ≡ place_of places v
  pub class : (v : ℕ) → v < p.vars → class_in classes v ≡ class_of p v
  pub low : p.vars ≤ length classes

bit_le : (t : Bool) → bit t ≤ 1
bit_le true = omega arith
bit_le false = omega arith

module _ (p : Program) (places after : List Place) (s : Order) (classes : List ℕ) (fr : Fresh p places after s classes) where
  pub not_now : (v : ℕ) → p.vars ≤ v → has s.out v ≡ false
  not_now v b = elim (cases_Bool (has s.out v)) [ inr e ↦ e | inl e ↦ absurd (omega (arith, fr.vars v e)) ]

  pub was_out : (v : ℕ) → spilled places v ≡ true → has s.out v ≡ false
  was_out v y = elim (cases_Bool (has s.out v)) [ inr e ↦ e | inl e ↦ absurd (both_ways _ (fr.new v e) y) ]

  pub stays_out : (v : ℕ) → spilled places v ≡ true → spilled after v ≡ true
  stays_out v y = ap (λ (z : Place). is_slot z.home) (fr.old v (was_out v y)) ∙ y

  pub slot_stays : (v : ℕ) → spilled places v ≡ true → slot_of after v ≡ slot_of places v
  slot_stays v y = ap (λ (z : Place). number_of z.home) (fr.old v (was_out v y))

  pub stays_in : (v : ℕ) → spilled places v ≡ false → has s.out v ≡ false → spilled after v ≡ false
  stays_in v y n = ap (λ (z : Place). is_slot z.home) (fr.old v n) ∙ y

  module _ (rows : List Row) (start : ℕ → ℕ) where
    abbrev w : ℕ → Row
    w q = row_at rows q

    abbrev w' : ℕ → Row
    w' q = made s classes rows q

    abbrev po : ℕ → ℕ
    po q = pos s classes rows q

    abbrev te : ℕ → ℕ
    te q = tmp s classes rows q

    abbrev pub start' : ℕ → ℕ
    start' i = pos s classes rows (start i)

    te_low : (q : ℕ) → p.vars ≤ te q
    te_low q = omega (arith, fr.low)

    te_new : (q : ℕ) → length classes ≤ te q
    te_new q = omega arith

    -- a load stays as it is, in its place
    load_stays : (q : ℕ) → q < length rows → (w q).op ≡ Load → p.vars ≤ (w q).d →
        (po (suc q) ≡ suc (po q)) × (te (suc q) ≡ te q) × ((w' (po q)).op ≡ Load) × ((w' (po q)).d ≡ (w q).d) × ((w' (po q)).slot ≡ (w q).slot) × ((w' (po q)).dclass ≡ (w q).dclass)
    load_stays q k op v =
        let nd = not_now (w q).d v in
        let ni : inner s (w q) ≡ false = rw op refl in
        let be : before s (w q) ≡ 0 = rw op refl in
        let sn : sd s (w q) ≡ false = rw (op, nd) refl in
        let zs : bit (sd s (w q)) ≡ 0 = bit_false _ sn in
        let e : po q ≡ po q + before s (w q) = omega arith in
        let c : w' (po q) ≡ core_of s classes rows q = ap w' e ∙ core_at s classes rows q k ni in (
          omega (arith, pos_step s classes rows q k, spread_in s (w q) ni),
          omega (arith, tmp_step s classes rows q, names_in s (w q) ni),
          ap (λ r. r.op) c ∙ op,
          ap (λ r. r.d) c ∙ cond-false _ _ _ sn,
          ap (λ r. r.slot) c,
          ap (λ r. r.dclass) c,
        )

    loads_pos : (q n k : ℕ) → Loads p w q n → q + n < length rows → k ≤ n → (po (q + k) ≡ po q + k) × (te (q + k) ≡ te q)
    loads_pos q n zero ld h l = (ap po (add-zero q) ∙ omega arith, ap te (add-zero q))
    loads_pos q n (suc k) ld h l =
        let one = load_stays (q + k) (omega arith) (ld.load k l) (ld.temporary k l) in
        let rest = loads_pos q n k ld h (omega arith) in
        (ap po (add-suc q k) ∙ omega (arith, one.0, rest.0), ap te (add-suc q k) ∙ one.1 ∙ rest.1)

    -- an operand that is read is counted once: spilled before, or now
    counted : (q n v x : ℕ) (read : Bool) → Loads p w q n → (read ≡ true → Operand p places w q n v x) → bit (fetched places read v) + bit (read && has s.out x) ≡ bit (fetched after read v)
    counted q n v x false ld op = refl
    counted q n v x true ld op = elim (op refl) [
      | inl e ↦ elim (cases_Bool (has s.out v)) [
        | inl y ↦ (let xo : has s.out x ≡ true = rw e.1 y in rw (e.0, xo, (fr.now v y).0) refl)
        | inr y ↦ (let xo : has s.out x ≡ false = rw e.1 y in rw (e.0, xo, stays_in v e.0 y) refl)
      ]
      | inr e ↦ (let (k, b, dk, _, _) = e.1 in rw (e.0, not_now x (rw (← dk) (ld.temporary k b)), stays_out v e.0) refl)
    ]

    module _ (i n : ℕ) (f : Filled p places w start i n) (older : (q : ℕ) → (shape (w q).op).d ≡ true → (w q).d < length classes)
        (targets : (shape (row_of p i).op).target ≡ true → start (row_of p i).target < length rows) (high : start (suc i) ≤ length rows) where
      abbrev b : Block p places w start i n
      b = f.block

      abbrev c : ℕ
      c = start i + n

      abbrev r : Row
      r = w c

      abbrev pub n' : ℕ
      n' = n + before s r

      pub ends_above : c < start (suc i)
      ends_above = elim (cases_Bool (shape (row_of p i).op).d) [
        | inr e ↦ omega (arith, f.ends e)
        | inl e ↦ elim (b.d e) [ inl x ↦ omega (arith, x.2) | inr x ↦ omega (arith, x.2) ]
      ]

      c_in : c < length rows
      c_in = omega (arith, ends_above)

      pos_c : po c ≡ start' i + n
      pos_c = (loads_pos (start i) n n b.loads c_in (omega arith)).0

      tmp_c : te c ≡ te (start i)
      tmp_c = (loads_pos (start i) n n b.loads c_in (omega arith)).1

      counts' : n' ≡ bit (fetched after (shape (row_of p i).op).a (row_of p i).a) + bit (fetched after (shape (row_of p i).op).b (row_of p i).b)
      counts' =
          let xa = counted (start i) n (row_of p i).a r.a (shape (row_of p i).op).a b.loads b.a in
          let xb = counted (start i) n (row_of p i).b r.b (shape (row_of p i).op).b b.loads b.b in
          rw b.op (omega (arith, f.counts, xa, xb))

      module _ (ni : inner s r ≡ false) where
        at_a : la s r ≡ true → w' (start' i + n) ≡ load_a s classes rows c
        at_a y = ap w' (sym pos_c) ∙ load_a_lem s classes rows c c_in ni y

        at_b : lb s r ≡ true → w' (start' i + (n + bit (la s r))) ≡ load_b s classes rows c
        at_b y = let e : start' i + (n + bit (la s r)) ≡ po c + bit (la s r) = omega (arith, pos_c) in ap w' e ∙ load_b_lem s classes rows c c_in ni y

        at_core : w' (start' i + n') ≡ core_of s classes rows c
        at_core = let e : start' i + n' ≡ po c + before s r = omega (arith, pos_c) in ap w' e ∙ core_at s classes rows c c_in ni

        at_store : sd s r ≡ true → w' (suc (start' i + n')) ≡ store_d s classes rows c
        at_store y = let e : suc (start' i + n') ≡ suc (po c + before s r) = omega (arith, pos_c) in ap w' e ∙ store_at s classes rows c c_in ni y

        fresh_at : (q : ℕ) → n ≤ q → q < n' → ((w' (start' i + q)).op ≡ Load) × ((w' (start' i + q)).d ≡ te c + (q - n))
        fresh_at q lo hi = elim (new_index (la s r) (lb s r) n q lo hi) [
          | inl e ↦ (let z = at_a e.0 in rw e.1 (ap (λ z. z.op) z, ap (λ z. z.d) z ∙ omega arith))
          | inr e ↦ (let z = at_b e.0 in rw e.1 (ap (λ z. z.op) z, ap (λ z. z.d) z ∙ omega arith))
        ]

        old_at : (q : ℕ) → q < n → ((w' (start' i + q)).op ≡ Load) × ((w' (start' i + q)).d ≡ (w (start i + q)).d) × ((w' (start' i + q)).slot ≡ (w (start i + q)).slot) × ((w' (start' i + q)).dclass ≡ (w (start i + q)).dclass)
        old_at q h =
            let st = load_stays (start i + q) (omega (arith, c_in)) (b.loads.load q h) (b.loads.temporary q h) in
            let e : po (start i + q) ≡ start' i + q = (loads_pos (start i) n q b.loads c_in (omega arith)).0 in
            rw (← e) (st.2, st.3, st.4, st.5)

        old_below : (q : ℕ) → q < n → (w (start i + q)).d < length classes
        old_below q h = older (start i + q) (rw (b.loads.load q h) refl)

        loads' : Loads p w' (start' i) n'
        loads' = record {
          load = λ q k. elim (cases_lt q n) [ inl e ↦ (old_at q e).0 | inr e ↦ (fresh_at q e k).0 ];
          temporary = λ q k. elim (cases_lt q n) [ inl e ↦ rw (old_at q e).1 (b.loads.temporary q e) | inr e ↦ omega (arith, (fresh_at q e k).1, te_low c) ];
          twice = λ q t lt k same. elim (cases_lt t n) [
            | inl e ↦ b.loads.twice q t lt e (sym (old_at q (omega arith)).1 ∙ same ∙ (old_at t e).1)
            | inr e ↦ elim (cases_lt q n) [
              | inl d ↦ omega (arith, (fresh_at t e k).1, (old_at q d).1, old_below q d, te_new c)
              | inr d ↦ omega (arith, (fresh_at t e k).1, (fresh_at q d (omega arith)).1)
            ]
          ];
        }

        -- an operand, at the place of its new load if it has one
        operand : (v x y at : ℕ) (here : Bool) → v < p.vars → here ≡ has s.out x →
            (here ≡ true → (at < n') × ((w' (start' i + at)).d ≡ y) × ((w' (start' i + at)).slot ≡ slot_in s x) × ((w' (start' i + at)).dclass ≡ class_in classes x)) →
            (here ≡ false → y ≡ x) → Operand p places w (start i) n v x → Operand p after w' (start' i) n' v y
        operand v x y at here vl hn yes' no' (inl e) = elim (cases_Bool here) [
          | inl t ↦ (let g = yes' t in let out : has s.out v ≡ true = ap (has s.out) (sym e.1) ∙ sym hn ∙ t in
              inr ((fr.now v out).0, (at, g.0, g.1, g.2 ∙ ap (slot_in s) e.1 ∙ sym (fr.now v out).1, g.3 ∙ ap (class_in classes) e.1 ∙ fr.class v vl)))
          | inr t ↦ inl (stays_in v e.0 (ap (has s.out) (sym e.1) ∙ sym hn ∙ t), no' t ∙ e.1)
        ]
        operand v x y at here vl hn yes' no' (inr e) =
            let (q, k, dq, sq, bq) = e.1 in
            let not_here : here ≡ false = hn ∙ not_now x (rw (← dq) (b.loads.temporary q k)) in
            let was = old_at q k in
            inr (stays_out v e.0, (q, omega arith, was.1 ∙ dq ∙ sym (no' not_here), was.2 ∙ sq ∙ sym (slot_stays v e.0), was.3 ∙ bq))

        after_core : sd s r ≡ false → po (suc c) ≡ suc (start' i + n')
        after_core z = omega (arith, pos_c, pos_step s classes rows c c_in, spread_in s r ni, bit_false _ z)

        store_stays : suc c < length rows → (w (suc c)).op ≡ Store → p.vars ≤ (w (suc c)).a →
            (po (suc (suc c)) ≡ suc (po (suc c))) × ((w' (po (suc c))).op ≡ Store) × ((w' (po (suc c))).a ≡ (w (suc c)).a) × ((w' (po (suc c))).slot ≡ (w (suc c)).slot) × (te (suc (suc c)) ≡ te (suc c))
        store_stays k op v =
            let q : ℕ = suc c in
            let na = not_now (w q).a v in
            let mi : inner s (w q) ≡ false = rw op refl in
            let ln : la s (w q) ≡ false = rw (op, na) refl in
            let be : before s (w q) ≡ 0 = rw (op, na) refl in
            let sn : sd s (w q) ≡ false = rw op refl in
            let zs : bit (sd s (w q)) ≡ 0 = bit_false _ sn in
            let z : po q ≡ po q + before s (w q) = omega arith in
            let e : w' (po q) ≡ core_of s classes rows q = ap w' z ∙ core_at s classes rows q k mi in (
              omega (arith, pos_step s classes rows q k, spread_in s (w q) mi),
              ap (λ r. r.op) e ∙ op,
              ap (λ r. r.a) e ∙ cond-false _ _ _ ln,
              ap (λ r. r.slot) e,
              omega (arith, tmp_step s classes rows q, names_in s (w q) mi),
            )

        result : (shape (row_of p i).op).d ≡ true → Stored p places w c (row_of p i).d (start (suc i)) → Stored p after w' (start' i + n') (row_of p i).d (start' (suc i))
        result yw (inl e) = elim (cases_Bool (has s.out (row_of p i).d)) [
          | inr z ↦
              (let sn : sd s r ≡ false = and_right _ _ (ap (has s.out) e.1 ∙ z) in
              inl (stays_in _ e.0 z, ap (λ r. r.d) at_core ∙ cond-false _ _ _ sn ∙ e.1, ap po e.2 ∙ after_core sn))
          | inl z ↦
              (let sy : sd s r ≡ true = and_from _ _ (rw b.op yw) (ap (has s.out) e.1 ∙ z) in
              let core_d : (w' (start' i + n')).d ≡ te c + before s r = ap (λ r. r.d) at_core ∙ cond-true _ _ _ sy in
              let st = at_store sy in
              let nx : po (suc c) ≡ suc (suc (start' i + n')) = omega (arith, pos_c, pos_step s classes rows c c_in, spread_in s r ni, bit_true _ sy) in
              inr ((fr.now _ z).0, omega (arith, core_d, te_low c), ap po e.2 ∙ nx, ap (λ r. r.op) st, ap (λ r. r.a) st ∙ sym core_d, ap (λ r. r.slot) st ∙ ap (slot_in s) e.1 ∙ sym (fr.now _ z).1))
        ]
        result yw (inr e) =
            let sn : sd s r ≡ false = and_right _ _ (not_now r.d e.1) in
            let ac = after_core sn in
            let st = store_stays (omega (arith, e.2)) e.3 (rw e.4 e.1) in
            let core_d : (w' (start' i + n')).d ≡ r.d = ap (λ r. r.d) at_core ∙ cond-false _ _ _ sn in
            inr (
              stays_out _ e.0,
              rw core_d e.1,
              ap po e.2 ∙ st.0 ∙ ap suc ac,
              ap (λ q. (w' q).op) (sym ac) ∙ st.1,
              ap (λ q. (w' q).a) (sym ac) ∙ st.2 ∙ e.4 ∙ sym core_d,
              ap (λ q. (w' q).slot) (sym ac) ∙ st.3 ∙ e.5 ∙ sym (slot_stays _ e.0),
            )

        target' : (shape (row_of p i).op).target ≡ true → (w' (start' i + n')).target ≡ start' (row_of p i).target
        target' j =
            let yes : (shape r.op).target ≡ true = rw b.op j in
            ap (λ r. r.target) at_core ∙ cond-true _ _ _ yes ∙ ap (landing s classes rows) (b.target j) ∙ landing_at s classes rows (start (row_of p i).target) (targets j)

        module _ (var_a : (shape (row_of p i).op).a ≡ true → (row_of p i).a < p.vars) (var_b : (shape (row_of p i).op).b ≡ true → (row_of p i).b < p.vars) where
          block' : Block p after w' start' i n'
          block' = record {
            few = omega (arith, counts', bit_le (fetched after (shape (row_of p i).op).a (row_of p i).a), bit_le (fetched after (shape (row_of p i).op).b (row_of p i).b));
            loads = loads';
            op = ap (λ r. r.op) at_core ∙ b.op;
            dclass = ap (λ r. r.dclass) at_core ∙ b.dclass;
            constant = ap (λ r. r.constant) at_core ∙ b.constant;
            target = target';
            a = λ x. operand (row_of p i).a r.a (w' (start' i + n')).a n (la s r) (var_a x) (rw (b.op, x) refl)
                (λ t. let z = at_a t in (omega (arith, bit_true _ t), ap (λ r. r.d) z ∙ sym (ap (λ r. r.a) at_core ∙ cond-true _ _ _ t), ap (λ r. r.slot) z, ap (λ r. r.dclass) z))
                (λ t. ap (λ r. r.a) at_core ∙ cond-false _ _ _ t) (b.a x);
            b = λ x. operand (row_of p i).b r.b (w' (start' i + n')).b (n + bit (la s r)) (lb s r) (var_b x) (rw (b.op, x) refl)
                (λ t. let z = at_b t in (omega (arith, bit_true _ t), ap (λ r. r.d) z ∙ sym (ap (λ r. r.b) at_core ∙ cond-true _ _ _ t), ap (λ r. r.slot) z, ap (λ r. r.dclass) z))
                (λ t. ap (λ r. r.b) at_core ∙ cond-false _ _ _ t) (b.b x);
            d = λ y. result y (b.d y);
            none = λ nw fl. ap po (b.none nw fl) ∙ after_core (and_left (shape r.op).d (has s.out r.d) (rw b.op nw));
          }

          pub filled' : Filled p after w' start' i n'
          filled' = record {
            block = block';
            counts = counts';
            ends = λ nw. ap po (f.ends nw) ∙ after_core (and_left (shape r.op).d (has s.out r.d) (rw b.op nw));
          }

        -- as many new temporaries as new rows
        pub grows : (start' (suc i) + te (start i) ≡ start' i + (start (suc i) - start i) + te (start (suc i)))
        grows = elim (cases_Bool (shape (row_of p i).op).d) [
          | inr nw ↦ (let e = f.ends nw in
              let sn : sd s r ≡ false = and_left (shape r.op).d (has s.out r.d) (rw b.op nw) in
              omega (arith, e, after_core sn, ap po e, ap te e, tmp_c, tmp_step s classes rows c, names_in s r ni, bit_false _ sn))
          | inl yw ↦ elim (b.d yw) [
            | inl e ↦ omega (arith, e.2, ap po e.2, ap te e.2, pos_c, pos_step s classes rows c c_in, spread_in s r ni, tmp_c, tmp_step s classes rows c, names_in s r ni)
            | inr e ↦
                (let sn : sd s r ≡ false = and_right _ _ (not_now r.d e.1) in
                let st = store_stays (omega (arith, e.2)) e.3 (rw e.4 e.1) in
                omega (arith, e.2, ap po e.2, ap te e.2, st.0, st.4, after_core sn, tmp_c, tmp_step s classes rows c, names_in s r ni, bit_false _ sn))
          ]
        ]

      -- a copy inside one spilled node goes
      pub gone' : inner s r ≡ true → Inner p after start' i × ((start (suc i) ≡ suc (start i)) × (te (start (suc i)) ≡ te (start i)))
      gone' y =
          let x1 = and_parts (copies r.op) _ y in
          let x2 = and_parts (has s.out r.d && has s.out r.a) _ x1.1 in
          let x3 = and_parts (has s.out r.d) _ x2.0 in
          let oc : (row_of p i).op ≡ Copy = sym b.op ∙ is_copy r.op x1.0 in
          let a_same : (r.a ≡ (row_of p i).a) × (spilled places (row_of p i).a ≡ false) = elim (b.a (rw oc refl)) [
            | inl e ↦ (e.1, e.0)
            | inr e ↦ (let (q, k, dq, _, _) = e.1 in absurd (omega (arith, fr.vars r.a x3.1, b.loads.temporary q k)))
          ] in
          let d_same : (r.d ≡ (row_of p i).d) × (start (suc i) ≡ suc c) = elim (b.d (rw oc refl)) [
            | inl e ↦ (e.1, e.2)
            | inr e ↦ absurd (omega (arith, fr.vars r.d x3.0, e.1))
          ] in
          let none : n ≡ 0 = f.counts ∙ rw (oc, a_same.1) refl in
          let dd = fr.now (row_of p i).d (ap (has s.out) (sym d_same.0) ∙ x3.0) in
          let ao = fr.now (row_of p i).a (ap (has s.out) (sym a_same.0) ∙ x3.1) in
          let flat : spread s r ≡ 0 = cond-true _ _ _ y in
          let bare : names s r ≡ 0 = cond-true _ _ _ y in (
            record {
              copy = rw oc refl;
              d = dd.0;
              a = ao.0;
              same = dd.1 ∙ ap (slot_in s) (sym d_same.0) ∙ eqb-true _ _ x2.1 ∙ ap (slot_in s) a_same.0 ∙ sym ao.1;
              next = ap po d_same.1 ∙ omega (arith, pos_c, pos_step s classes rows c c_in);
            },
            (omega (arith, d_same.1), ap te d_same.1 ∙ omega (arith, tmp_step s classes rows c, tmp_c)),
          )
