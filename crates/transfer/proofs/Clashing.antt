-- Source variables without a slot have a hard edge by a source row just if they have one by a working row.
use Rattle.std.proofs.Common.{◌≡◌, ℕ, zero, suc, ◌+◌, ◌-◌, ◌<◌, ◌≤◌, Bool, true, false, cond, not, ◌&&◌, ◌||◌, ◌⊎◌, length, sym, refl, ap, ◌∙◌, subst, inl, inr, arith}
use Rattle.std.proofs.lemmas.Bool.{cases_Bool, both_ways, true≢false, and_parts, and_from}
use Rattle.rows.specs.declared.Op.{Op}
use Rattle.rows.specs.declared.Op.TheVariants.{Load, Store}
use Rattle.rows.specs.declared.Row.{Row}
use Rattle.rows.specs.Rows.{shape, copies, row_at}
use Rattle.compiling.specs.Working.{Working, spilled}
use Rattle.simulation.specs.Static.{row_of}
use Rattle.interfering.specs.Living.{read_at, written_at, goes_on, lives_before, lives_after}
use Rattle.interfering.specs.Edges.{Meets, copies_from, Clashes, Neighbours, Hard}
use Rattle.interfering.proofs.Living.{writes_inside, after_only, after_each}
use Rattle.standing.specs.Standing.{source_rows, line_of, Standing}
use Rattle.transfer.specs.Inside.{BlockOf}
use Rattle.transfer.specs.Transfer.{Unplaced, HardAlike, HardEdgesTransfer}
use Rattle.transfer.proofs.Parts.{goes_which, goes_below, write_which, writes_below}
use Rattle.transfer.proofs.Blocks.{Found, found, kind}
use Rattle.transfer.proofs.Living.{src, core_reads, core_reads_back, core_writes, core_writes_back, core_goes, inner_writes, into, out_of}

module _ (w : Working) (start : ℕ → ℕ) (st : Standing w start) where
  module _ (i n : ℕ) (l : i < source_rows w) (f : BlockOf w start i n) (y : ℕ) (u : Unplaced w y) where
    core_copies : copies (line_of w (start i + n)).op ≡ copies (row_of w.source i).op
    core_copies = ap copies f.block.op

    pub copies_into : copies_from w.source.rows i y ≡ false → copies_from w.rows (start i + n) y ≡ false
    copies_into h = elim (cases_Bool (copies_from w.rows (start i + n) y)) [
      | inr e ↦ e
      | inl e ↦ (let (c, r) = and_parts (copies (line_of w (start i + n)).op) _ e in absurd (both_ways _ h (and_from _ _ (sym core_copies ∙ c) (core_reads_back w start st i n l f y u r))))
    ]

    pub copies_back : copies_from w.rows (start i + n) y ≡ false → copies_from w.source.rows i y ≡ false
    copies_back h = elim (cases_Bool (copies_from w.source.rows i y)) [
      | inr e ↦ e
      | inl e ↦ (let (c, r) = and_parts (copies (row_of w.source i).op) _ e in absurd (both_ways _ h (and_from _ _ (core_copies ∙ c) (core_reads w start st i n l f y u r))))
    ]

    pub after_into : lives_after w.source.rows i y ≡ true → lives_after w.rows (start i + n) y ≡ true
    after_into h =
        let (j, g, lj) = after_only w.source.rows i y h in
        let (k, go, lk) = core_goes w start st i n l f y u j g (into w start st j y u lj) in
        after_each w.rows (start i + n) k y go lk

    pub after_back : start (suc i) ≡ suc (start i + n) → (shape (row_of w.source i).op).d ≡ true → lives_after w.rows (start i + n) y ≡ true → lives_after w.source.rows i y ≡ true
    after_back nx x h =
        let (j, g, lj) = after_only w.rows (start i + n) y h in
        let x' : (shape (line_of w (start i + n)).op).d ≡ true = rw f.block.op x in
        elim (goes_which (start i + n) (line_of w (start i + n)) j g) [
          | inl (z, _) ↦ absurd (both_ways _ (writes_below _ x').0 z)
          | inr (_, e) ↦ after_each w.source.rows i (suc i) y (goes_below i (row_of w.source i) (writes_below _ x).1)
              (out_of w start st (suc i) y l u (subst (λ (p : ℕ). lives_before w.rows p y ≡ true) (e ∙ sym nx) lj))
        ]

  meet_into : (i x y : ℕ) → Unplaced w x → Unplaced w y → Meets w.source.rows i x y →
      (q : ℕ) × Meets w.rows q x y × (copies_from w.source.rows i y ≡ false → copies_from w.rows q y ≡ false)
  meet_into i x y ux uy (wr, lv, ne) =
      let l : i < source_rows w = writes_inside w.source.rows i x wr in
      elim (st.stands i l) [
        | inl g ↦ absurd (inner_writes w start st i g x ux wr)
        | inr (n, f) ↦ (start i + n, ((core_writes w start st i n l f x ux wr).0, after_into i n l f y uy lv, ne), copies_into i n l f y uy)
      ]

  meet_back : (q x y : ℕ) → Unplaced w x → Unplaced w y → Meets w.rows q x y →
      (i : ℕ) × Meets w.source.rows i x y × (copies_from w.rows q y ≡ false → copies_from w.source.rows i y ≡ false)
  meet_back q x y ux uy c =
      let (i, n, l, lo, hi, f) = found w start st q (writes_inside w.rows q x c.0) in
      let (d, e) = write_which (line_of w q) x c.0 in
      elim (kind w start st q i n f lo hi) [
        | inl (_, _, big) ↦ absurd (omega (arith, ux.0, e))
        | inr (inr (_, _, _, _, _, o, _)) ↦ absurd (true≢false (sym d ∙ rw o refl))
        | inr (inl z) ↦ core i n l f z (subst (λ (p : ℕ). Meets w.rows p x y) z c)
      ]
    where
      core : (i n : ℕ) → i < source_rows w → BlockOf w start i n → q ≡ start i + n → Meets w.rows (start i + n) x y →
          (i : ℕ) × Meets w.source.rows i x y × (copies_from w.rows q y ≡ false → copies_from w.source.rows i y ≡ false)
      core i n l f z (wr, lv, ne) =
          let (ws, nx) = core_writes_back w start st i n l f x ux wr in
          (i, (ws, after_back i n l f y uy nx (write_which (row_of w.source i) x ws).0 lv, ne), λ cp. copies_back i n l f y uy (subst (λ (p : ℕ). copies_from w.rows p y ≡ false) z cp))

  clash_into : (i x y : ℕ) → Unplaced w x → Unplaced w y → Clashes w.source.rows i x y → (q : ℕ) × Clashes w.rows q x y
  clash_into i x y ux uy (mt, cp) = let (q, k, c) = meet_into i x y ux uy mt in (q, (k, c cp))

  clash_back : (q x y : ℕ) → Unplaced w x → Unplaced w y → Clashes w.rows q x y → (i : ℕ) × Clashes w.source.rows i x y
  clash_back q x y ux uy (mt, cp) = let (i, k, c) = meet_back q x y ux uy mt in (i, (k, c cp))

  pub near_into : (x y : ℕ) → Unplaced w x → Unplaced w y → Neighbours w.source.rows x y → Neighbours w.rows x y
  near_into x y ux uy h = elim h.1 [ inl c ↦ (let (q, k, _) = meet_into h.0 x y ux uy c in (q, inl k)) | inr c ↦ (let (q, k, _) = meet_into h.0 y x uy ux c in (q, inr k)) ]

  pub near_back : (x y : ℕ) → Unplaced w x → Unplaced w y → Neighbours w.rows x y → Neighbours w.source.rows x y
  near_back x y ux uy h = elim h.1 [ inl c ↦ (let (q, k, _) = meet_back h.0 x y ux uy c in (q, inl k)) | inr c ↦ (let (q, k, _) = meet_back h.0 y x uy ux c in (q, inr k)) ]

  pub hard_alike : (x y : ℕ) → Unplaced w x → Unplaced w y → HardAlike w x y
  hard_alike x y ux uy = record {
    into = λ h. elim h.1 [ inl c ↦ (let (q, k) = clash_into h.0 x y ux uy c in (q, inl k)) | inr c ↦ (let (q, k) = clash_into h.0 y x uy ux c in (q, inr k)) ];
    back = λ h. elim h.1 [ inl c ↦ (let (q, k) = clash_back h.0 x y ux uy c in (q, inl k)) | inr c ↦ (let (q, k) = clash_back h.0 y x uy ux c in (q, inr k)) ];
  }

pub hard_edges_transfer : HardEdgesTransfer
hard_edges_transfer = hard_alike
