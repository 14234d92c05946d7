-- A source variable without a slot is live before a source row just if it is before the row's block.
use Rattle.std.proofs.Common.{◌≡◌, ℕ, zero, suc, ◌+◌, ◌-◌, ◌<◌, ◌≤◌, Bool, true, false, cond, not, ◌&&◌, ◌||◌, ◌⊎◌, List, length, sym, refl, ap, ◌∙◌, subst, inl, inr, add-zero, add-suc, arith}
use Rattle.std.proofs.lemmas.Bool.{cases_Bool, cases_lt, cases_eq, cases_order, both_ways, true≢false, or_left, or_right, and_from, not_from_false}
use Rattle.rows.specs.declared.Op.TheVariants.{Copy, Load, Store}
use Rattle.rows.specs.declared.Row.{Row}
use Rattle.rows.specs.Rows.{shape, copies, Program}
use Rattle.compiling.specs.Working.{Working, spilled}
use Rattle.simulation.specs.Static.{row_of, Inner}
use Rattle.interfering.specs.Living.{read_at, written_at, goes_on, lives_before, lives_after}
use Rattle.interfering.proofs.Living.{live_holds, reads_inside, goes_inside, before_holds, after_only, after_each}
use Rattle.standing.specs.Standing.{source_rows, line_of, Filled, Standing}
use Rattle.transfer.specs.Inside.{BlockOf}
use Rattle.transfer.specs.Transfer.{Unplaced, LivenessTransfers}
use Rattle.transfer.proofs.Parts.{read_which, read_a, read_b, goes_which, goes_target, goes_below, write_which, write_d, writes_other, is_copy}
use Rattle.transfer.proofs.Blocks.{row, aim, var_a, var_b, var_d, block_end, rises, Found, found, KindAt, kind, Named, operand}

-- live before a row that reads it, or that does not write it and goes on to where it is live
module _ (rows : List Row) (v : ℕ) (small : v < 448) where
  pub lives_read : (i : ℕ) → read_at rows i v ≡ true → lives_before rows i v ≡ true
  lives_read i h = before_holds rows i v small ∙ or_left _ _ h

  pub lives_on : (i j : ℕ) → goes_on rows i j ≡ true → written_at rows i v ≡ false → lives_before rows j v ≡ true → lives_before rows i v ≡ true
  lives_on i j g no' h = before_holds rows i v small ∙ or_right (read_at rows i v) _ (and_from _ _ (after_each rows i j v g h) (not_from_false _ no'))

-- live only before rows that there are
pub live_inside : (rows : List Row) (i v : ℕ) → lives_before rows i v ≡ true → i < length rows
live_inside rows i v h = live_holds rows (λ i v. i < length rows) (λ i v h. reads_inside rows i v h) (λ i j v g _ _. goes_inside rows i j g) i v h

module _ (w : Working) (start : ℕ → ℕ) (st : Standing w start) where
  abbrev pub src : List Row
  src = w.source.rows

  pub small : (v : ℕ) → Unplaced w v → v < 448
  small v u = omega (arith, u.0, st.well_formed.vars)

  -- ---- the row in its block

  module _ (i n : ℕ) (l : i < source_rows w) (f : BlockOf w start i n) (v : ℕ) (u : Unplaced w v) where
    abbrev core : ℕ
    core = start i + n

    pub core_reads : read_at src i v ≡ true → read_at w.rows (start i + n) v ≡ true
    core_reads h = elim (read_which (row_of w.source i) v h) [
      | inl (x, e) ↦ elim (operand w start st i n _ _ f (f.block.a x)) [
        | inl (s, c) ↦ subst (λ (z : ℕ). read_at w.rows (start i + n) z ≡ true) (c ∙ sym e) (read_a (line_of w (start i + n)) (rw f.block.op x))
        | inr (s, _, _) ↦ absurd (both_ways _ u.1 (rw e s))
      ]
      | inr (x, e) ↦ elim (operand w start st i n _ _ f (f.block.b x)) [
        | inl (s, c) ↦ subst (λ (z : ℕ). read_at w.rows (start i + n) z ≡ true) (c ∙ sym e) (read_b (line_of w (start i + n)) (rw f.block.op x))
        | inr (s, _, _) ↦ absurd (both_ways _ u.1 (rw e s))
      ]
    ]

    pub core_reads_back : read_at w.rows (start i + n) v ≡ true → read_at src i v ≡ true
    core_reads_back h = elim (read_which (line_of w (start i + n)) v h) [
      | inl (x, e) ↦ (let x' : (shape (row_of w.source i).op).a ≡ true = rw f.block.op at x in
          elim (operand w start st i n _ _ f (f.block.a x')) [
            | inl (s, c) ↦ subst (λ (z : ℕ). read_at src i z ≡ true) (sym c ∙ sym e) (read_a (row_of w.source i) x')
            | inr (s, big, _) ↦ absurd (omega (arith, u.0, e))
          ])
      | inr (x, e) ↦ (let x' : (shape (row_of w.source i).op).b ≡ true = rw f.block.op at x in
          elim (operand w start st i n _ _ f (f.block.b x')) [
            | inl (s, c) ↦ subst (λ (z : ℕ). read_at src i z ≡ true) (sym c ∙ sym e) (read_b (row_of w.source i) x')
            | inr (s, big, _) ↦ absurd (omega (arith, u.0, e))
          ])
    ]

    pub core_writes : written_at src i v ≡ true → (written_at w.rows (start i + n) v ≡ true) × (start (suc i) ≡ suc (start i + n))
    core_writes h =
        let (x, e) = write_which (row_of w.source i) v h in
        elim (f.block.d x) [
          | inl (s, c, nx) ↦ (subst (λ (z : ℕ). written_at w.rows (start i + n) z ≡ true) (c ∙ sym e) (write_d (line_of w (start i + n)) (rw f.block.op x)), nx)
          | inr r ↦ absurd (both_ways _ u.1 (rw e r.0))
        ]

    pub core_writes_back : written_at w.rows (start i + n) v ≡ true → (written_at src i v ≡ true) × (start (suc i) ≡ suc (start i + n))
    core_writes_back h =
        let (x, e) = write_which (line_of w (start i + n)) v h in
        let x' : (shape (row_of w.source i).op).d ≡ true = rw f.block.op at x in
        elim (f.block.d x') [
          | inl (s, c, nx) ↦ (subst (λ (z : ℕ). written_at src i z ≡ true) (sym c ∙ sym e) (write_d (row_of w.source i) x'), nx)
          | inr r ↦ absurd (omega (arith, u.0, e, r.1))
        ]

    -- back over the loads
    over : (d k : ℕ) → k + d ≡ n → lives_before w.rows (start i + n) v ≡ true → lives_before w.rows (start i + k) v ≡ true
    over zero k e h = let z : k ≡ n = omega arith in rw z h
    over (suc d) k e h =
        let ld : (line_of w (start i + k)).op ≡ Load = f.block.loads.load k (omega arith) in
        lives_on w.rows v (small v u) (start i + k) (suc (start i + k)) (goes_below (start i + k) (line_of w (start i + k)) (rw ld refl))
        (writes_other (line_of w (start i + k)) v (λ _ z. omega (arith, u.0, f.block.loads.temporary k (omega arith))))
        (rw (← (add-suc (start i) k)) (over d (suc k) (omega arith) h))

    pub from_core : lives_before w.rows (start i + n) v ≡ true → lives_before w.rows (start i) v ≡ true
    from_core h = rw add-zero at (over n 0 (omega arith) h)

    -- from the next block to what is right behind the row
    pub behind : (shape (row_of w.source i).op).falls ≡ true → lives_before w.rows (start (suc i)) v ≡ true → lives_before w.rows (suc (start i + n)) v ≡ true
    behind x h = elim (cases_Bool (shape (row_of w.source i).op).d) [
      | inr e ↦ rw (f.ends e) at h
      | inl e ↦ elim (f.block.d e) [
        | inl r ↦ rw r.2 at h
        | inr r ↦ (let c = suc (start i + n) in
            let so : (line_of w (suc (start i + n))).op ≡ Store = r.3 in
            lives_on w.rows v (small v u) (suc (start i + n)) (suc (suc (start i + n))) (goes_below (suc (start i + n)) (line_of w (suc (start i + n))) (rw so refl))
            (writes_other (line_of w (suc (start i + n))) v (λ y _. true≢false (sym y ∙ rw so refl)))
            (rw r.2 at h))
      ]
    ]

    -- where the row goes on in the source, it does in its block
    pub core_goes : (j : ℕ) → goes_on src i j ≡ true → lives_before w.rows (start j) v ≡ true → (k : ℕ) × (goes_on w.rows (start i + n) k ≡ true) × (lives_before w.rows k v ≡ true)
    core_goes j g h = elim (goes_which i (row_of w.source i) j g) [
      | inl (x, e) ↦ ((line_of w (start i + n)).target, goes_target (start i + n) (line_of w (start i + n)) (rw f.block.op x), rw (f.block.target x, ← e) h)
      | inr (x, e) ↦ (suc (start i + n), goes_below (start i + n) (line_of w (start i + n)) (rw f.block.op x), behind x (rw e at h))
    ]

    core_quiet : written_at src i v ≡ false → written_at w.rows (start i + n) v ≡ false
    core_quiet no' = elim (cases_Bool (written_at w.rows (start i + n) v)) [ inl e ↦ absurd (both_ways _ no' (core_writes_back e).0) | inr e ↦ e ]

    pub source_quiet : written_at w.rows (start i + n) v ≡ false → written_at src i v ≡ false
    source_quiet no' = elim (cases_Bool (written_at src i v)) [ inl e ↦ absurd (both_ways _ no' (core_writes e).0) | inr e ↦ e ]

    pub block_back : (j : ℕ) → goes_on src i j ≡ true → written_at src i v ≡ false → lives_before w.rows (start j) v ≡ true → lives_before w.rows (start i) v ≡ true
    block_back j g no' h = let (k, go, lk) = core_goes j g h in from_core (lives_on w.rows v (small v u) (start i + n) k go (core_quiet no') lk)

  -- ---- an inner copy

  module _ (i : ℕ) (g : Inner w.source w.places start i) (v : ℕ) (u : Unplaced w v) where
    inner_op : (row_of w.source i).op ≡ Copy
    inner_op = is_copy _ g.copy

    inner_reads : read_at src i v ≡ true → ⊥
    inner_reads h = elim (read_which (row_of w.source i) v h) [
      | inl (x, e) ↦ both_ways _ u.1 (rw e g.a)
      | inr (x, e) ↦ true≢false (sym x ∙ rw inner_op refl)
    ]

    pub inner_writes : written_at src i v ≡ true → ⊥
    inner_writes h = let (x, e) = write_which (row_of w.source i) v h in both_ways _ u.1 (rw e g.d)

    inner_goes : (j : ℕ) → goes_on src i j ≡ true → j ≡ suc i
    inner_goes j h = elim (goes_which i (row_of w.source i) j h) [
      | inl (x, e) ↦ absurd (true≢false (sym x ∙ rw inner_op refl))
      | inr (x, e) ↦ e
    ]

    inner_on : lives_before src (suc i) v ≡ true → lives_before src i v ≡ true
    inner_on h = lives_on src v (small v u) i (suc i) (goes_below i (row_of w.source i) (rw inner_op refl))
        (writes_other (row_of w.source i) v (λ x e. both_ways _ u.1 (rw e g.d))) h

  -- ---- from the source to the working rows

  pub into : (i v : ℕ) → Unplaced w v → lives_before src i v ≡ true → lives_before w.rows (start i) v ≡ true
  into i v u h = live_holds src (λ i v. Unplaced w v → lives_before w.rows (start i) v ≡ true) first back i v h u
    where
      first : (i v : ℕ) → read_at src i v ≡ true → Unplaced w v → lives_before w.rows (start i) v ≡ true
      first i v h u = let l = reads_inside src i v h in elim (st.stands i l) [
        | inl g ↦ absurd (inner_reads i g v u h)
        | inr (n, f) ↦ from_core i n l f v u (lives_read w.rows v (small v u) (start i + n) (core_reads i n l f v u h))
      ]

      back : (i j v : ℕ) → goes_on src i j ≡ true → written_at src i v ≡ false → (Unplaced w v → lives_before w.rows (start j) v ≡ true) → Unplaced w v → lives_before w.rows (start i) v ≡ true
      back i j v g no' h u = let l = goes_inside src i j g in elim (st.stands i l) [
        | inl x ↦ rw (inner_goes i x v u j g, x.next) at (h u)
        | inr (n, f) ↦ block_back i n l f v u j g no' (h u)
      ]

  -- ---- and back

  slide : (v : ℕ) → Unplaced w v → (d i j : ℕ) → i + d ≡ j → j ≤ source_rows w → start i ≡ start j → lives_before src j v ≡ true → lives_before src i v ≡ true
  slide v u zero i j e l s h = let z : i ≡ j = omega arith in rw z h
  slide v u (suc d) i j e l s h = elim (st.stands i (omega arith)) [
    | inr (n, f) ↦ absurd (omega (arith, block_end w start st i n f, rises w start st (suc i) j (omega arith) l))
    | inl g ↦ inner_on i g v u (slide v u d (suc i) j (omega arith) l (omega (arith, g.next)) h)
  ]

  -- where v is live in the source, seen from place q in the block of row i
  abbrev Seen : ℕ → ℕ → ℕ → ℕ → Type 0
  Seen q v i n = (start i ≤ q → q ≤ start i + n → lives_before src i v ≡ true) × (q ≡ suc (start i + n) → q < start (suc i) → lives_before src (suc i) v ≡ true)

  abbrev Shows : ℕ → ℕ → Type 0
  Shows q v = (q < length w.rows) × (Unplaced w v → (i n : ℕ) → i < source_rows w → BlockOf w start i n → Seen q v i n)

  landing : (t v : ℕ) → Unplaced w v → t ≤ source_rows w → Shows (start t) v → lives_before src t v ≡ true
  landing t v u tl (ql, sh) =
      let (j, n, l, lo, hi, f) = found w start st (start t) ql in
      elim (cases_lt j t) [
        | inl e ↦ absurd (omega (arith, rises w start st (suc j) t e tl))
        | inr e ↦ (let up = rises w start st t j e (omega arith) in
            slide v u (j - t) t j (omega arith) (omega arith) (omega arith) ((sh u j n l f).0 lo (omega arith)))
      ]

  shows : (q v : ℕ) → lives_before w.rows q v ≡ true → Shows q v
  shows q v h = live_holds w.rows Shows first back q v h
    where
      first : (q v : ℕ) → read_at w.rows q v ≡ true → Shows q v
      first q v h = (reads_inside w.rows q v h, λ u i n l f. (λ lo hi. inn u i n l f lo hi, λ e hi. beyond u i n l f e hi))
        where
          inn : Unplaced w v → (i n : ℕ) → i < source_rows w → BlockOf w start i n → start i ≤ q → q ≤ start i + n → lives_before src i v ≡ true
          inn u i n l f lo hi = elim (kind w start st q i n f lo (omega (arith, block_end w start st i n f))) [
            | inl (_, o, _) ↦ (elim (read_which (line_of w q) v h) [ inl (x, _) ↦ absurd (true≢false (sym x ∙ rw o refl)) | inr (x, _) ↦ absurd (true≢false (sym x ∙ rw o refl)) ])
            | inr (inl z) ↦ lives_read src v (small v u) i (core_reads_back i n l f v u (subst (λ (z : ℕ). read_at w.rows z v ≡ true) z h))
            | inr (inr r) ↦ absurd (omega (arith, r.0))
          ]

          beyond : Unplaced w v → (i n : ℕ) → i < source_rows w → BlockOf w start i n → q ≡ suc (start i + n) → q < start (suc i) → lives_before src (suc i) v ≡ true
          beyond u i n l f e hi = elim (kind w start st q i n f (omega arith) hi) [
            | inl r ↦ absurd (omega (arith, r.0))
            | inr (inl z) ↦ absurd (omega arith)
            | inr (inr (_, _, _, _, big, o, a)) ↦ elim (read_which (line_of w q) v h) [
              | inl (x, e) ↦ absurd (omega (arith, u.0, e, a))
              | inr (x, _) ↦ absurd (true≢false (sym x ∙ rw o refl))
            ]
          ]

      back : (q j v : ℕ) → goes_on w.rows q j ≡ true → written_at w.rows q v ≡ false → Shows j v → Shows q v
      back q j v g no' (jl, sh) = (goes_inside w.rows q j g, λ u i n l f. (λ lo hi. inn u i n l f lo hi, λ e hi. beyond u i n l f e hi))
        where
          inn : Unplaced w v → (i n : ℕ) → i < source_rows w → BlockOf w start i n → start i ≤ q → q ≤ start i + n → lives_before src i v ≡ true
          inn u i n l f lo hi = elim (kind w start st q i n f lo (omega (arith, block_end w start st i n f))) [
            | inl (lt, o, _) ↦ elim (goes_which q (line_of w q) j g) [
              | inl (x, _) ↦ absurd (true≢false (sym x ∙ rw o refl))
              | inr (_, e) ↦ (sh u i n l f).0 (omega arith) (omega arith)
            ]
            | inr (inr r) ↦ absurd (omega (arith, r.0))
            | inr (inl z) ↦ (let quiet : written_at src i v ≡ false = source_quiet i n l f v u (subst (λ (z : ℕ). written_at w.rows z v ≡ false) z no') in
                elim (goes_which q (line_of w q) j g) [
                  | inl (x, e) ↦ (let x' : (shape (row_of w.source i).op).target ≡ true = rw (z, f.block.op) at x in
                      let t = (row_of w.source i).target in
                      let to : j ≡ start (row_of w.source i).target = e ∙ ap (λ (z : ℕ). (line_of w z).target) z ∙ f.block.target x' in
                      lives_on src v (small v u) i (row_of w.source i).target (goes_target i (row_of w.source i) x') quiet
                      (landing (row_of w.source i).target v u (omega (arith, aim w start st i l x')) (subst (λ (z : ℕ). Shows z v) to (jl, sh))))
                  | inr (x, e) ↦ (let x' : (shape (row_of w.source i).op).falls ≡ true = rw (z, f.block.op) at x in
                      lives_on src v (small v u) i (suc i) (goes_below i (row_of w.source i) x') quiet
                      (elim (cases_lt j (start (suc i))) [
                        | inl k ↦ (sh u i n l f).1 (omega arith) k
                        | inr k ↦ (let to : j ≡ start (suc i) = omega (arith, block_end w start st i n f) in landing (suc i) v u l (subst (λ (z : ℕ). Shows z v) to (jl, sh)))
                      ]))
                ])
          ]

          beyond : Unplaced w v → (i n : ℕ) → i < source_rows w → BlockOf w start i n → q ≡ suc (start i + n) → q < start (suc i) → lives_before src (suc i) v ≡ true
          beyond u i n l f e hi = elim (kind w start st q i n f (omega arith) hi) [
            | inl r ↦ absurd (omega (arith, r.0))
            | inr (inl z) ↦ absurd (omega arith)
            | inr (inr (_, nx, _, _, _, o, _)) ↦ elim (goes_which q (line_of w q) j g) [
              | inl (x, _) ↦ absurd (true≢false (sym x ∙ rw o refl))
              | inr (_, to) ↦ landing (suc i) v u l (subst (λ (z : ℕ). Shows z v) (to ∙ sym nx) (jl, sh))
            ]
          ]

  pub out_of : (i v : ℕ) → i ≤ source_rows w → Unplaced w v → lives_before w.rows (start i) v ≡ true → lives_before src i v ≡ true
  out_of i v l u h = landing i v u l (shows (start i) v h)

  pub alike : (i v : ℕ) → i ≤ source_rows w → Unplaced w v → lives_before src i v ≡ lives_before w.rows (start i) v
  alike i v l u = elim (cases_Bool (lives_before src i v)) [
    | inl e ↦ e ∙ sym (into i v u e)
    | inr e ↦ elim (cases_Bool (lives_before w.rows (start i) v)) [ inl f ↦ absurd (both_ways _ e (out_of i v l u f)) | inr f ↦ e ∙ sym f ]
  ]

pub liveness_transfers : LivenessTransfers
liveness_transfers = alike
