-- A temporary is live only inside its block.
use Rattle.std.proofs.Common.{◌≡◌, ℕ, zero, suc, ◌+◌, ◌-◌, ◌<◌, ◌≤◌, Bool, true, false, cond, not, ◌&&◌, ◌||◌, ◌⊎◌, length, sym, refl, ap, ◌∙◌, subst, inl, inr, arith}
use Rattle.std.proofs.lemmas.Bool.{cases_Bool, cases_lt, cases_eq, cases_order, both_ways, true≢false}
use Rattle.rows.specs.declared.Op.TheVariants.{Load, Store}
use Rattle.rows.specs.declared.Row.{Row}
use Rattle.rows.specs.Rows.{shape, Program}
use Rattle.compiling.specs.Working.{Working, spilled}
use Rattle.simulation.specs.Static.{row_of}
use Rattle.interfering.specs.Living.{read_at, written_at, goes_on, lives_before}
use Rattle.interfering.proofs.Living.{live_holds, reads_inside, goes_inside}
use Rattle.standing.specs.Standing.{source_rows, line_of, Filled, Standing}
use Rattle.transfer.specs.Inside.{BlockOf, Loaded, Made, Inside, TemporariesInside}
use Rattle.transfer.proofs.Parts.{read_which, goes_which, write_d}
use Rattle.transfer.proofs.Blocks.{row, var_a, var_b, block_end, rises, Found, found, KindAt, kind, Named, operand}

module _ (w : Working) (start : ℕ → ℕ) (st : Standing w start) where
  -- no block starts inside a block
  pub no_landing : (t v : ℕ) → t ≤ source_rows w → Inside w start (start t) v → ⊥
  no_landing t v l (i, n, il, f, inl (k, kn, d, lo, hi)) = elim (cases_lt i t) [
    | inl e ↦ omega (arith, rises w start st (suc i) t e l, block_end w start st i n f)
    | inr e ↦ omega (arith, rises w start st t i e (omega arith))
  ]
  no_landing t v l (i, n, il, f, inr (e, d, hi, _, _)) = elim (cases_lt i t) [
    | inl k ↦ omega (arith, rises w start st (suc i) t k l)
    | inr k ↦ omega (arith, rises w start st t i k (omega arith))
  ]

  abbrev Holds : ℕ → ℕ → Type 0
  Holds q v = (v < w.source.vars) ⊎ Inside w start q v

  named : (i n v x q : ℕ) → i < source_rows w → BlockOf w start i n → q ≡ start i + n → v < w.source.vars → Named w start st i n v x → Holds q x
  named i n v x q l f e small (inl r) = inl (rw r.1 small)
  named i n v x q l f e small (inr (s, big, (k, kn, d))) = inr (i, n, l, f, inl (k, kn, d, omega arith, omega arith))

  first : (q v : ℕ) → read_at w.rows q v ≡ true → Holds q v
  first q v h = at (found w start st q (reads_inside w.rows q v h)) (read_which (line_of w q) v h)
    where
      at : Found w start st q → (((shape (line_of w q).op).a ≡ true) × (v ≡ (line_of w q).a)) ⊎ (((shape (line_of w q).op).b ≡ true) × (v ≡ (line_of w q).b)) → Holds q v
      at (i, n, l, lo, hi, f) (inl (x, e)) = elim (kind w start st q i n f lo hi) [
        | inl (_, o, _) ↦ absurd (true≢false (sym x ∙ rw o refl))
        | inr (inl z) ↦ (let x' : (shape (row w start st i).op).a ≡ true = rw (z, f.block.op) at x in
            let y : (line_of w q).a ≡ (line_of w (start i + n)).a = rw z refl in
            rw (e, y) (named i n _ _ q l f z (var_a w start st i l x') (operand w start st i n _ _ f (f.block.a x'))))
        | inr (inr (z, nx, x', s, big, o, a)) ↦ inr (i, n, l, f, inr (z, sym a ∙ sym e, omega arith, x', o))
      ]
      at (i, n, l, lo, hi, f) (inr (x, e)) = elim (kind w start st q i n f lo hi) [
        | inl (_, o, _) ↦ absurd (true≢false (sym x ∙ rw o refl))
        | inr (inl z) ↦ (let x' : (shape (row w start st i).op).b ≡ true = rw (z, f.block.op) at x in
            let y : (line_of w q).b ≡ (line_of w (start i + n)).b = rw z refl in
            rw (e, y) (named i n _ _ q l f z (var_b w start st i l x') (operand w start st i n _ _ f (f.block.b x'))))
        | inr (inr (z, nx, x', s, big, o, a)) ↦ absurd (true≢false (sym x ∙ rw o refl))
      ]

  unwritten : (q v : ℕ) → written_at w.rows q v ≡ false → (shape (line_of w q).op).d ≡ true → (line_of w q).d ≡ v → ⊥
  unwritten q v no' x e = both_ways _ no' (subst (λ (z : ℕ). written_at w.rows q z ≡ true) e (write_d (line_of w q) x))

  back : (q j v : ℕ) → goes_on w.rows q j ≡ true → written_at w.rows q v ≡ false → Holds j v → Holds q v
  back q j v g no' (inl e) = inl e
  back q j v g no' (inr s) = elim (goes_which q (line_of w q) j g) [
    | inl (x, e) ↦ (let (t, tl, z) = st.target q x in absurd (no_landing t v (omega arith) (subst (λ (p : ℕ). Inside w start p v) (e ∙ z) s)))
    | inr (x, e) ↦ inr (on (subst (λ (p : ℕ). Inside w start p v) e s))
  ]
    where
      on : Inside w start (suc q) v → Inside w start q v
      on (i, n, l, f, inl (k, kn, d, lo, hi)) = elim (cases_eq (start i + k) q) [
        | inl e ↦ absurd (unwritten q v no' (rw (← e, f.block.loads.load k kn) refl) (rw (← e) d))
        | inr e ↦ (i, n, l, f, inl (k, kn, d, omega arith, omega arith))
      ]
      on (i, n, l, f, inr (e, d, hi, x, o)) =
          let z : q ≡ start i + n = omega arith in
          absurd (unwritten q v no' (rw (z, f.block.op) x) (rw z d))

  pub inside : (q t : ℕ) → w.source.vars ≤ t → lives_before w.rows q t ≡ true → Inside w start q t
  inside q t big h = elim (live_holds w.rows Holds first back q t h) [ inl e ↦ absurd (omega arith) | inr e ↦ e ]

pub temporaries_inside : TemporariesInside
temporaries_inside = inside
