-- One source row is one block of the working program.
use Rattle.std.proofs.Common.{◌≡◌, ℕ, zero, suc, ◌+◌, ◌%◌, ◌^◌, ◌<◌, ◌≤◌, Bool, true, false, cond, List, sym, refl, ap, ◌∙◌, inl, inr, add-zero, mod-eq_of_lt, arith}
use Rattle.std.proofs.lemmas.Bool.{cases_Bool, cases_eq, cond-true, cond-false, and_parts, and_from, both_ways, true≢false}
use Rattle.rows.specs.declared.Op.TheVariants.{Load, Store}
use Rattle.rows.specs.declared.Row.{Row}
use Rattle.rows.specs.Rows.{shape, copies, bits, Program}
use Rattle.compiling.specs.declared.Place.{Place}
use Rattle.compiling.specs.Working.{spilled}
use Rattle.machine.specs.Machine.{is_running, put, Effect}
use Rattle.machine.specs.Players.{Player, at, writes_now, next_row, stepped}
use Rattle.machine.proofs.Effects.{jumped_may, falls_may}
use Rattle.simulation.specs.Static.{row_of, class_of, Sound, Lively, slot_of, Shares, Loads, Operand, Block, Inner, Stands}
use Rattle.simulation.proofs.Effects.{effect_same, effect_slots, with_slots, lifted, load_at, store_at, write_on, value_small, put_same, put_other, is_copy, copy_effect, arrives, ran_outcome, stop_outcome}

-- what the home of a variable holds: its slot, or its own cell
abbrev pub home : List Place → Player → ℕ → ℕ
home h m v = cond (spilled h v) (m.shared.slots (slot_of h v)) (m.numbers v)

-- the working player m has what the source player p has
pub record Like (s : Program) (live : ℕ → ℕ → Bool) (h : List Place) (start : ℕ → ℕ) (p m : Player) : Type 0 where
  pub input_as : m.shared.input ≡ p.shared.input
  pub output_as : m.shared.output ≡ p.shared.output
  pub outcome_as : m.shared.outcome ≡ p.shared.outcome
  pub row_as : is_running p.shared.outcome ≡ true → m.row ≡ start p.row
  pub holds : is_running p.shared.outcome ≡ true → (v : ℕ) → v < s.vars → live p.row v ≡ true → home h m v ≡ p.numbers v
  pub small : (v : ℕ) → p.numbers v < 2 ^ bits (class_of s v)

-- what a working row must find so that a copy may fall away
abbrev pub Fit : (ℕ → Row) → Player → Type 0
Fit w m = copies (w m.row).op ≡ true → (is_running m.shared.outcome ≡ true) × (m.numbers (w m.row).a < 2 ^ bits (w m.row).dclass)

abbrev pub Goes : (ℕ → Row) → Player → ℕ → Player → Type 0
Goes w m zero e = m ≡ e
Goes w m (suc l) e = Fit w m × Goes w (stepped w m) l e

-- snoc
steps_more : (w : ℕ → Row) (m : Player) (l : ℕ) (e : Player) → Goes w m l e → Fit w e → Goes w m (suc l) (stepped w e)
steps_more w m zero e st ft = (rw st ft, ap (stepped w) st)
steps_more w m (suc l) e st ft = (st.0, steps_more w (stepped w m) l e st.1 ft)

module _ (s : Program) (w : ℕ → Row) (p : ℕ) (m : Player) (at_p : m.row ≡ p) (running : is_running m.shared.outcome ≡ true) where
  -- after n loads
  record Loaded (n : ℕ) (e : Player) : Type 0 where
    steps : Goes w m n e
    row_as : e.row ≡ p + n
    shared_as : e.shared ≡ m.shared
    vars : (v : ℕ) → v < s.vars → e.numbers v ≡ m.numbers v
    temps : (q : ℕ) → q < n → e.numbers (w (p + q)).d ≡ m.shared.slots (w (p + q)).slot % 2 ^ bits (w (p + q)).dclass

  loaded_more : (n : ℕ) (e : Player) → Loaded n e → Loads s w p (suc n) → Loaded (suc n) (stepped w e)
  unfolding stepped
  loaded_more n e was ld =
      let here : w e.row ≡ w (p + n) = ap w was.row_as in
      let op : (w e.row).op ≡ Load = ap (λ r. r.op) here ∙ ld.load n (omega arith) in
      let u = load_at w e op (ap (λ h. is_running h.outcome) was.shared_as ∙ running) in
      let wr : writes_now w e ≡ true = rw (u, op) refl in
      record {
        steps = steps_more w m n e was.steps (λ c. absurd (true≢false (sym c ∙ rw op)));
        row_as = rw u (rw was.row_as (omega arith));
        shared_as = rw u was.shared_as;
        vars = λ v h. rw wr (put_other e.numbers _ _ v (λ q. omega (arith, ld.temporary n (omega arith), ap (λ r. r.d) here)) ∙ was.vars v h);
        temps = λ q h. rw wr (elim (cases_eq q n) [
          | inl k ↦ put_same e.numbers _ _ (w (p + q)).d (ap (λ j. (w (p + j)).d) k ∙ sym (ap (λ r. r.d) here)) ∙ ap (λ z. z.value) u ∙ rw (here, was.shared_as, k) refl
          | inr k ↦ put_other e.numbers _ _ (w (p + q)).d (λ z. ld.twice q n (omega arith) (omega arith) (z ∙ ap (λ r. r.d) here)) ∙ was.temps q (omega arith)
        ]);
      }

  loaded : (n : ℕ) → Loads s w p n → (e : Player) × Loaded n e
  loaded zero ld = (m, record { steps = refl; row_as = at_p ∙ omega arith; shared_as = refl; vars = λ v h. refl; temps = λ q h. absurd (omega arith) })
  loaded (suc n) ld =
      let r = loaded n (record { load = λ q h. ld.load q (omega arith); temporary = λ q h. ld.temporary q (omega arith); twice = λ q r h k. ld.twice q r h (omega arith) }) in
      (stepped w r.0, loaded_more n r.0 r.1 ld)

-- the row itself, after its loads
module _ (s : Program) (sd : Sound s) (live : ℕ → ℕ → Bool) (lv : Lively (row_of s) live) (h : List Place) (ok : Shares s live h) (w : ℕ → Row) (start : ℕ → ℕ)
    (p m : Player) (like : Like s live h start p m) (running : is_running p.shared.outcome ≡ true) where
  abbrev r : Row
  r = row_of s p.row

  step_small : (v : ℕ) → (stepped (row_of s) p).numbers v < 2 ^ (bits (class_of s v))
  unfolding stepped
  step_small v = elim (cases_Bool (writes_now (row_of s) p)) [
    | inr off ↦ rw off (like.small v)
    | inl onn ↦ rw onn (elim (cases_eq v r.d) [
      | inl q ↦ rw (put_same p.numbers r.d (at (row_of s) p).value v q, q, ← (sd.class_d p.row (and_parts _ _ onn).0)) (value_small r (p.numbers r.a) (p.numbers r.b) p.shared)
      | inr q ↦ rw (put_other p.numbers r.d (at (row_of s) p).value v q) (like.small v)
    ])
  ]

  -- a dropped copy
  gone : Inner s h start p.row → Like s live h start (stepped (row_of s) p) m
  unfolding stepped
  gone g =
      let c = g.copy in
      let o = is_copy r.op c in
      let q = copy_effect r (p.numbers r.a) (p.numbers r.b) p.shared c running (rw (← (sd.class_a p.row c)) (like.small r.a)) in
      let wr : writes_now (row_of s) p ≡ true = rw (q, o) refl in
      let live-a = lv.reads_a p.row (rw o refl) in
      let var_a = sd.var_a p.row (rw o refl) in
      record {
        input_as = rw q like.input_as;
        output_as = rw q like.output_as;
        outcome_as = rw q like.outcome_as;
        row_as = λ _. rw q (like.row_as running ∙ sym g.next);
        holds = λ _ v b l. rw (wr, q) (elim (cases_eq v r.d) [
          | inl e ↦ ap (home h m) e ∙ cond-true _ _ _ g.d ∙ ap m.shared.slots g.same ∙ sym (cond-true _ _ _ g.a) ∙ like.holds running r.a var_a live-a ∙ sym (put_same p.numbers _ _ v e)
          | inr e ↦ like.holds running v b (arrives (row_of s) live lv p v l (λ _. e)) ∙ sym (put_other p.numbers _ _ v e)
        ]);
        small = step_small;
      }

  module _ (n : ℕ) (blk : Block s h w start p.row n) (e : Player) (ld : Loaded s w (start p.row) m (like.row_as running) (ap is_running like.outcome_as ∙ running) n e) where
    abbrev c : ℕ
    c = start p.row + n

    abbrev u : Effect
    u = at (row_of s) p

    operand : (v x : ℕ) → v < s.vars → live p.row v ≡ true → Operand s h w (start p.row) n v x → e.numbers x ≡ p.numbers v
    operand v x b l (inl o) = ap e.numbers o.1 ∙ ld.vars v b ∙ sym (cond-false _ _ _ o.0) ∙ like.holds running v b l
    operand v x b l (inr o) =
        let (q, qn, dq, sq, bq) = o.1 in
        let val : m.shared.slots (slot_of h v) ≡ p.numbers v = sym (cond-true _ _ _ o.0) ∙ like.holds running v b l in
        ap e.numbers (sym dq) ∙ ld.temps q qn ∙ rw (sq, bq, val) (mod-eq_of_lt (like.small v))

    row_is : w e.row ≡ w c
    row_is = ap w ld.row_as

    get_a : (shape r.op).a ≡ true → e.numbers (w c).a ≡ p.numbers r.a
    get_a x = operand r.a (w c).a (sd.var_a p.row x) (lv.reads_a p.row x) (blk.a x)

    get_b : (shape r.op).b ≡ true → e.numbers (w c).b ≡ p.numbers r.b
    get_b x = operand r.b (w c).b (sd.var_b p.row x) (lv.reads_b p.row x) (blk.b x)

    core_same : at w e ≡ lifted m.shared.slots u
    core_same = rw (row_is, ld.shared_as)
        (effect_same (w c) _ _ _ _ m.shared (λ x. get_a (rw blk.op at x)) (λ x. get_b (rw blk.op at x))
        ∙ effect_slots r (w c) (p.numbers r.a) (p.numbers r.b) p.shared m.shared blk.op blk.dclass blk.constant (sd.plain p.row) like.input_as like.output_as like.outcome_as)

    core_writes_now : writes_now w e ≡ writes_now (row_of s) p
    core_writes_now = rw (core_same, row_is, blk.op) refl

    record Cored (f : Player) : Type 0 where
      steps : Goes w m (suc n) f
      row_as : f.row ≡ cond u.ran (cond u.jumped (w c).target (suc c)) c
      shared_as : f.shared ≡ with_slots m.shared.slots u.shared
      off : writes_now (row_of s) p ≡ false → (v : ℕ) → v < s.vars → f.numbers v ≡ m.numbers v
      new : writes_now (row_of s) p ≡ true → f.numbers (w c).d ≡ u.value
      old : writes_now (row_of s) p ≡ true → (v : ℕ) → v < s.vars → (v ≡ (w c).d → ⊥) → f.numbers v ≡ m.numbers v

    cored : Cored (stepped w e)
    unfolding stepped
    cored = record {
      steps = steps_more w m n e ld.steps (λ k.
          let k' : copies r.op ≡ true = rw (row_is, blk.op) at k in (
            ap (λ z. is_running z.outcome) ld.shared_as ∙ ap is_running like.outcome_as ∙ running,
            rw (row_is, get_a (rw (is_copy r.op k') refl), blk.dclass, ← (sd.class_a p.row k')) (like.small r.a),
          ));
      row_as = rw (core_same, row_is, ld.row_as) refl;
      shared_as = rw core_same refl;
      off = λ z v b. rw (core_writes_now, z) (ld.vars v b);
      new = λ z. rw (core_writes_now, z, core_same, row_is) (put_same e.numbers _ _ (w c).d refl);
      old = λ z v b d. rw (core_writes_now, z, core_same, row_is) (put_other e.numbers _ _ v d ∙ ld.vars v b);
    }

    module _ (f : Player) (cd : Cored f) where
      slots_as : (v : ℕ) → f.shared.slots v ≡ m.shared.slots v
      slots_as v = ap (λ z. z.slots v) cd.shared_as

      -- a home that nothing touched
      home_kept : (v : ℕ) → f.numbers v ≡ m.numbers v → home h f v ≡ home h m v
      home_kept v q = rw (q, slots_as (slot_of h v)) refl

      ended : u.ran ≡ false → Like s live h start (stepped (row_of s) p) f
      unfolding stepped
      ended z = record {
        input_as = ap (λ z. z.input) cd.shared_as;
        output_as = ap (λ z. z.output) cd.shared_as;
        outcome_as = ap (λ z. z.outcome) cd.shared_as;
        row_as = λ k. absurd (both_ways _ (stop_outcome r (p.numbers r.a) (p.numbers r.b) p.shared z running) k);
        holds = λ k. absurd (both_ways _ (stop_outcome r (p.numbers r.a) (p.numbers r.b) p.shared z running) k);
        small = step_small;
      }

      silent : u.ran ≡ true → (shape r.op).d ≡ false → Like s live h start (stepped (row_of s) p) f
      unfolding stepped
      silent z nw =
          let off : writes_now (row_of s) p ≡ false = rw nw refl in
          record {
            input_as = ap (λ z. z.input) cd.shared_as;
            output_as = ap (λ z. z.output) cd.shared_as;
            outcome_as = ap (λ z. z.outcome) cd.shared_as;
            row_as = λ _. cd.row_as ∙ rw z (elim (cases_Bool u.jumped) [
              | inl t ↦ rw t (blk.target (jumped_may r (p.numbers r.a) (p.numbers r.b) p.shared t))
              | inr t ↦ rw t (sym (blk.none nw (falls_may r (p.numbers r.a) (p.numbers r.b) p.shared z t)))
            ]);
            holds = λ _ v b l. rw off (home_kept v (cd.off off v b) ∙ like.holds running v b (arrives (row_of s) live lv p v l (λ y. absurd (both_ways _ off y))));
            small = step_small;
          }

      module _ (z : u.ran ≡ true) (yw : (shape r.op).d ≡ true) where
        onn : writes_now (row_of s) p ≡ true
        onn = and_from (shape r.op).d u.ran yw z

        tk : u.jumped ≡ false
        tk = write_on r (p.numbers r.a) (p.numbers r.b) p.shared yw

        next : next_row (row_of s) p ≡ suc p.row
        next = rw (z, tk) refl

        in_register_lem : spilled h r.d ≡ false → (w c).d ≡ r.d → start (suc p.row) ≡ suc c → Like s live h start (stepped (row_of s) p) f
        unfolding stepped
        in_register_lem ns dd nx = record {
          input_as = ap (λ z. z.input) cd.shared_as;
          output_as = ap (λ z. z.output) cd.shared_as;
          outcome_as = ap (λ z. z.outcome) cd.shared_as;
          row_as = λ _. cd.row_as ∙ rw (z, tk) (sym nx);
          holds = λ _ v b l. rw onn (elim (cases_eq v r.d) [
            | inl q ↦ ap (home h f) q ∙ cond-false _ _ _ ns ∙ ap f.numbers (sym dd) ∙ cd.new onn ∙ sym (put_same p.numbers _ _ v q)
            | inr q ↦ home_kept v (cd.old onn v b (λ k. q (k ∙ dd))) ∙ like.holds running v b (arrives (row_of s) live lv p v l (λ _. q)) ∙ sym (put_other p.numbers _ _ v q)
          ]);
          small = step_small;
        }

        -- the Store
        f_pc : f.row ≡ suc c
        f_pc = cd.row_as ∙ rw (z, tk) refl

        f_done : is_running f.shared.outcome ≡ true
        f_done = ap (λ z. is_running z.outcome) cd.shared_as ∙ ap is_running (ran_outcome r (p.numbers r.a) (p.numbers r.b) p.shared z) ∙ running

        stored : spilled h r.d ≡ true → s.vars ≤ (w c).d → (v : ℕ) → v < s.vars → live (next_row (row_of s) p) v ≡ true →
            cond (spilled h v) (put f.shared.slots (slot_of h r.d) u.value (slot_of h v)) (f.numbers v) ≡ put p.numbers r.d u.value v
        stored sp tmp v b l = elim (cases_eq v r.d) [
          | inl q ↦ cond-true _ _ _ (ap (spilled h) q ∙ sp) ∙ put_same f.shared.slots _ _ _ (ap (slot_of h) q) ∙ sym (put_same p.numbers _ _ v q)
          | inr q ↦
              (let was : home h m v ≡ p.numbers v = like.holds running v b (arrives (row_of s) live lv p v l (λ _. q)) in
              let goal : cond (spilled h v) (put f.shared.slots (slot_of h r.d) u.value (slot_of h v)) (f.numbers v) ≡ p.numbers v = elim (cases_Bool (spilled h v)) [
                | inr nv ↦ cond-false _ _ _ nv ∙ cd.old onn v b (λ k. omega arith) ∙ sym (cond-false _ _ _ nv) ∙ was
                | inl sv ↦ cond-true _ _ _ sv ∙ elim (cases_eq (slot_of h v) (slot_of h r.d)) [
                  | inr k ↦ put_other f.shared.slots _ _ _ k ∙ slots_as (slot_of h v) ∙ sym (cond-true _ _ _ sv) ∙ was
                  | inl k ↦
                      (let both = ok.alone p.row v yw sp (rw next at l) q sv k in
                      let cp = copy_effect r (p.numbers r.a) (p.numbers r.b) p.shared both.0 running (rw (← (sd.class_a p.row both.0)) (like.small r.a)) in
                      put_same f.shared.slots _ _ _ k ∙ ap (λ z. z.value) cp ∙ ap p.numbers (sym both.1))
                ]
              ] in
              goal ∙ sym (put_other p.numbers _ _ v q))
        ]

        in_slot_lem : spilled h r.d ≡ true → s.vars ≤ (w c).d → start (suc p.row) ≡ suc (suc c) → (w (suc c)).op ≡ Store → (w (suc c)).a ≡ (w c).d → (w (suc c)).slot ≡ slot_of h r.d →
            Goes w m (suc (suc n)) (stepped w f) × Like s live h start (stepped (row_of s) p) (stepped w f)
        unfolding stepped
        in_slot_lem sp tmp nx so sa ss =
            let st = store_at w f (rw f_pc so) (rw (f_pc, ss) (ok.few r.d (sd.var_d p.row yw) sp)) f_done in
            let o : (w f.row).op ≡ Store = rw f_pc so in
            let wr : writes_now w f ≡ false = rw o refl in
            let σ : (at w f).shared ≡ with_slots (put f.shared.slots (slot_of h r.d) u.value) f.shared = st.2 ∙ rw (f_pc, ss, sa, cd.new onn) refl in (
              steps_more w m (suc n) f cd.steps (λ k. absurd (true≢false (sym k ∙ rw o))),
              record {
                input_as = ap (λ z. z.input) σ ∙ ap (λ z. z.input) cd.shared_as;
                output_as = ap (λ z. z.output) σ ∙ ap (λ z. z.output) cd.shared_as;
                outcome_as = ap (λ z. z.outcome) σ ∙ ap (λ z. z.outcome) cd.shared_as;
                row_as = λ _. rw (st.0, st.1, z, tk) (ap suc f_pc ∙ sym nx);
                holds = λ _ v b l. rw (onn, wr, σ) (stored sp tmp v b l);
                small = step_small;
              },
            )

-- one source row is one block: at most four rows, none only for a copy
pub record Carried (s : Program) (live : ℕ → ℕ → Bool) (h : List Place) (w : ℕ → Row) (start : ℕ → ℕ) (p m : Player) (l : ℕ) (e : Player) : Type 0 where
  pub few : l ≤ 4
  pub steps : Goes w m l e
  pub like : Like s live h start (stepped (row_of s) p) e
  pub some : copies (row_of s p.row).op ≡ false → (0 < l) × (copies (w m.row).op ≡ false)

first_row : (s : Program) (h : List Place) (w : ℕ → Row) (start : ℕ → ℕ) (i n : ℕ) → Block s h w start i n → copies (row_of s i).op ≡ false → copies (w (start i)).op ≡ false
first_row s h w start i zero b nc = rw (← (add-zero (start i)), b.op) nc
first_row s h w start i (suc n) b nc = rw (← (add-zero (start i)), b.loads.load 0 (omega arith)) refl

module _ (s : Program) (sd : Sound s) (live : ℕ → ℕ → Bool) (lv : Lively (row_of s) live) (h : List Place) (ok : Shares s live h) (w : ℕ → Row) (start : ℕ → ℕ)
    (p m : Player) (like : Like s live h start p m) (running : is_running p.shared.outcome ≡ true) where
  block_done : (n : ℕ) (blk : Block s h w start p.row n) (e : Player) (ld : Loaded s w (start p.row) m (like.row_as running) (ap is_running like.outcome_as ∙ running) n e) →
      (l : ℕ) × (f : Player) × Carried s live h w start p m l f
  block_done n blk e ld =
      let f = stepped w e in
      let cd = cored s sd live lv h ok w start p m like running n blk e ld in
      let u = at (row_of s) p in
      let some : copies (row_of s p.row).op ≡ false → copies (w m.row).op ≡ false = λ nc. rw (like.row_as running) (first_row s h w start p.row n blk nc) in
      elim (cases_Bool u.ran) [
        | inr z ↦ (suc n, f, record { few = omega (arith, blk.few); steps = cd.steps; like = ended s sd live lv h ok w start p m like running n blk e ld f cd z; some = λ nc. (omega arith, some nc) })
        | inl z ↦ elim (cases_Bool (shape (row_of s p.row).op).d) [
          | inr nw ↦ (suc n, f, record { few = omega (arith, blk.few); steps = cd.steps; like = silent s sd live lv h ok w start p m like running n blk e ld f cd z nw; some = λ nc. (omega arith, some nc) })
          | inl yw ↦ elim (blk.d yw) [
            | inl a ↦ (suc n, f, record { few = omega (arith, blk.few); steps = cd.steps; like = in_register_lem s sd live lv h ok w start p m like running n blk e ld f cd z yw a.0 a.1 a.2; some = λ nc. (omega arith, some nc) })
            | inr a ↦
                (let done = in_slot_lem s sd live lv h ok w start p m like running n blk e ld f cd z yw a.0 a.1 a.2 a.3 a.4 a.5 in
                (suc (suc n), stepped w f, record { few = omega (arith, blk.few); steps = done.0; like = done.1; some = λ nc. (omega arith, some nc) }))
          ]
        ]
      ]

  pub carried : Stands s h w start p.row → (l : ℕ) × (f : Player) × Carried s live h w start p m l f
  carried (inl g) = (0, m, record { few = omega arith; steps = refl; like = gone s sd live lv h ok w start p m like running g; some = λ nc. absurd (both_ways _ nc g.copy) })
  carried (inr b) =
      let x = loaded s w (start p.row) m (like.row_as running) (ap is_running like.outcome_as ∙ running) b.0 b.1.loads in
      block_done b.0 b.1 x.0 x.1
