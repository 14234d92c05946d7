-- One working row is one row of code, or a copy that falls away.
use Rattle.std.proofs.Common.{◌≡◌, ℕ, zero, suc, ◌+◌, ◌%◌, ◌^◌, ◌<◌, ◌≤◌, Bool, true, false, cond, eqb, ◌⊎◌, sym, refl, ap, ◌∙◌, inl, inr, mod-eq_of_lt, arith, pow_mono}
use Rattle.std.proofs.lemmas.Bool.{cases_Bool, cases_eq, eqb-true, cond-true, and_parts, both_ways}
use Rattle.sets.specs.Sets.{when}
use Rattle.rows.specs.declared.Row.{Row}
use Rattle.rows.specs.Rows.{shape, copies, bits}
use Rattle.registers.specs.Model.{Model}
use Rattle.compiling.specs.Emit.{idle}
use Rattle.machine.specs.Machine.{effect}
use Rattle.machine.specs.Players.{Player, running, at, writes_now, next_row, stepped}
use Rattle.machine.proofs.Effects.{jumped_may}
use Rattle.simulation.specs.Static.{Lively}
use Rattle.simulation.proofs.Effects.{effect_same, write_on, value_small, put_same, put_other, is_copy, copy_effect, arrives}

-- one row of code, on a bank that keeps what its write promises, but for the width of other registers: so there always is a next row
pub record Plays (m : Model) (w : ℕ → Row) (c e : Player) : Type 0 where
  pub row_is : e.row ≡ next_row w c
  pub shared_is : e.shared ≡ (at w c).shared
  pub keeps : writes_now w c ≡ false → e.numbers ≡ c.numbers
  pub writes : writes_now w c ≡ true → (w c.row).d < m.count → e.numbers (w c.row).d ≡ (at w c).value % 2 ^ (m.width (w c.row).d)
  pub spares : writes_now w c ≡ true → (s : ℕ) → m.overlaps (w c.row).d s ≡ false → e.numbers s ≡ c.numbers s

-- registers for the rows w on a bank m
pub record Given (m : Model) (w : ℕ → Row) (live : ℕ → ℕ → Bool) (reg : ℕ → ℕ) : Type 0 where
  pub apart : (i v : ℕ) → (shape (w i).op).d ≡ true → live (suc i) v ≡ true → (v ≡ (w i).d → ⊥) →
      (m.overlaps (reg (w i).d) (reg v) ≡ false) ⊎ ((idle reg (w i) ≡ true) × (v ≡ (w i).a))
  pub there : (i : ℕ) → (shape (w i).op).d ≡ true → reg (w i).d < m.count
  pub wide : (i : ℕ) → (shape (w i).op).d ≡ true → bits (w i).dclass ≤ m.width (reg (w i).d)

-- where row i stands in the code, or the next kept row
abbrev pub spot : (ℕ → ℕ) → (ℕ → Row) → ℕ → ℕ
spot reg w zero = 0
spot reg w (suc i) = spot reg w i + cond (idle reg (w i)) 0 1

-- the row of code for a row
abbrev pub landed : (ℕ → ℕ) → (ℕ → Row) → Row → Row
landed reg w r = record {
  op = r.op;
  weight = r.weight;
  dclass = r.dclass;
  aclass = r.aclass;
  d = when (shape r.op).d (reg r.d);
  a = when (shape r.op).a (reg r.a);
  b = when (shape r.op).b (reg r.b);
  target = cond (shape r.op).target (spot reg w r.target) 0;
  constant = r.constant;
  slot = r.slot;
}

abbrev pub IsCode : (ℕ → ℕ) → (ℕ → Row) → (ℕ → Row) → Type 0
IsCode reg w code = (i : ℕ) → idle reg (w i) ≡ false → code (spot reg w i) ≡ landed reg w (w i)

-- the code player stands where the working player stands, and holds what is live
pub record Matched (w : ℕ → Row) (live : ℕ → ℕ → Bool) (reg : ℕ → ℕ) (m c : Player) : Type 0 where
  pub row_as : c.row ≡ spot reg w m.row
  pub shared_as : c.shared ≡ m.shared
  pub holds : (v : ℕ) → live m.row v ≡ true → c.numbers (reg v) ≡ m.numbers v

module _ (f : Model) (w code : ℕ → Row) (live : ℕ → ℕ → Bool) (reg : ℕ → ℕ) (lv : Lively w live) (ok : Given f w live reg) (ic : IsCode reg w code) where
  same_row : (m c : Player) → Matched w live reg m c → idle reg (w m.row) ≡ false → code c.row ≡ landed reg w (w m.row)
  same_row m c mt kp = ap code mt.row_as ∙ ic m.row kp

  read_a : (m c : Player) → Matched w live reg m c → (shape (w m.row).op).a ≡ true → c.numbers (when (shape (w m.row).op).a (reg (w m.row).a)) ≡ m.numbers (w m.row).a
  read_a m c mt e = ap c.numbers (cond-true _ _ _ e) ∙ mt.holds _ (lv.reads_a m.row e)

  read_b : (m c : Player) → Matched w live reg m c → (shape (w m.row).op).b ≡ true → c.numbers (when (shape (w m.row).op).b (reg (w m.row).b)) ≡ m.numbers (w m.row).b
  read_b m c mt e = ap c.numbers (cond-true _ _ _ e) ∙ mt.holds _ (lv.reads_b m.row e)

  same_effect : (m c : Player) → Matched w live reg m c → idle reg (w m.row) ≡ false → at code c ≡ at w m
  unfolding effect
  same_effect m c mt kp = rw (same_row m c mt kp, mt.shared_as)
      (effect_same (w m.row) _ _ _ _ m.shared (read_a m c mt) (read_b m c mt))

  -- what one row of code does, said of the working program
  record Played (m c e : Player) : Type 0 where
    row_as : e.row ≡ spot reg w (next_row w m)
    shared_as : e.shared ≡ (at w m).shared
    keeps : writes_now w m ≡ false → e.numbers ≡ c.numbers
    writes : writes_now w m ≡ true → e.numbers (reg (w m.row).d) ≡ (at w m).value % 2 ^ (f.width (reg (w m.row).d))
    spares : writes_now w m ≡ true → (s : ℕ) → f.overlaps (reg (w m.row).d) s ≡ false → e.numbers s ≡ c.numbers s

  jumps_there : (m : Player) → (at w m).jumped ≡ true → cond (shape (w m.row).op).target (spot reg w (w m.row).target) 0 ≡ spot reg w (w m.row).target
  jumps_there m t = cond-true _ _ _ (jumped_may (w m.row) (m.numbers (w m.row).a) (m.numbers (w m.row).b) m.shared t)

  played : (m c e : Player) → Matched w live reg m c → idle reg (w m.row) ≡ false → Plays f code c e → Played m c e
  played m c e mt kp pl =
      let row = same_row m c mt kp in
      let same = same_effect m c mt kp in
      let pq : e.row ≡ cond (at w m).ran (cond (at w m).jumped (cond (shape (w m.row).op).target (spot reg w (w m.row).target) 0) (suc c.row)) c.row = rw (same, row) at pl.row_is in
      let there : writes_now w m ≡ true → when (shape (w m.row).op).d (reg (w m.row).d) ≡ reg (w m.row).d = λ z. cond-true (shape (w m.row).op).d (reg (w m.row).d) 0 (and_parts (shape (w m.row).op).d (at w m).ran z).0 in
      let wr : writes_now w m ≡ true → when (shape (w m.row).op).d (reg (w m.row).d) < f.count → e.numbers (when (shape (w m.row).op).d (reg (w m.row).d)) ≡ (at w m).value % 2 ^ (f.width (when (shape (w m.row).op).d (reg (w m.row).d))) = rw (same, row) at pl.writes in
      let sp : writes_now w m ≡ true → (s : ℕ) → f.overlaps (when (shape (w m.row).op).d (reg (w m.row).d)) s ≡ false → e.numbers s ≡ c.numbers s = rw (same, row) at pl.spares in
      record {
        row_as = pq ∙ elim (cases_Bool (at w m).ran) [
          | inr off ↦ rw off mt.row_as
          | inl ran ↦ rw ran (elim (cases_Bool (at w m).jumped) [
            | inl t ↦ rw t (jumps_there m t)
            | inr t ↦ rw (t, kp) (omega (arith, mt.row_as))
          ])
        ];
        shared_as = rw same at pl.shared_is;
        keeps = rw (same, row) at pl.keeps;
        writes = λ z. let y : reg (w m.row).d < f.count → e.numbers (reg (w m.row).d) ≡ (at w m).value % 2 ^ (f.width (reg (w m.row).d)) = rw (there z) at (wr z) in y (ok.there m.row (and_parts (shape (w m.row).op).d (at w m).ran z).0);
        spares = λ z. rw (there z) at (sp z);
      }

  to_next : (m : Player) (v : ℕ) → writes_now w m ≡ true → live (next_row w m) v ≡ true → live (suc m.row) v ≡ true
  to_next m v wr h =
      let parts = and_parts (shape (w m.row).op).d (at w m).ran wr in
      rw (parts.1, write_on (w m.row) (m.numbers (w m.row).a) (m.numbers (w m.row).b) m.shared parts.0) at h

  small : (m : Player) → writes_now w m ≡ true → (at w m).value < 2 ^ (f.width (reg (w m.row).d))
  small m wr =
      let parts = and_parts (shape (w m.row).op).d (at w m).ran wr in
      omega (arith, value_small (w m.row) (m.numbers (w m.row).a) (m.numbers (w m.row).b) m.shared, pow_mono (ok.wide m.row parts.0))

  pub kept : (m c e : Player) → Matched w live reg m c → idle reg (w m.row) ≡ false → Plays f code c e → Matched w live reg (stepped w m) e
  unfolding stepped
  kept m c e mt kp pl =
      let pd = played m c e mt kp pl in
      record {
        row_as = pd.row_as;
        shared_as = pd.shared_as;
        holds = λ v h. elim (cases_Bool (writes_now w m)) [
          | inr off ↦ rw off (ap (λ z. z (reg v)) (pd.keeps off) ∙ mt.holds v (arrives w live lv m v h (λ y. absurd (both_ways (writes_now w m) off y))))
          | inl onn ↦ rw onn (elim (cases_eq v (w m.row).d) [
            | inl q ↦ ap (λ z. e.numbers (reg z)) q ∙ pd.writes onn ∙ mod-eq_of_lt (small m onn) ∙ sym (put_same m.numbers _ _ v q)
            | inr q ↦ elim (ok.apart m.row v (and_parts _ _ onn).0 (to_next m v onn h) q) [
              | inl free ↦ pd.spares onn (reg v) free ∙ mt.holds v (arrives w live lv m v h (λ _ z. q z)) ∙ sym (put_other m.numbers _ _ v q)
              | inr bad ↦ absurd (both_ways _ kp bad.0)
            ]
          ])
        ];
      }

  pub passed : (m c : Player) → Matched w live reg m c → idle reg (w m.row) ≡ true → running m ≡ true → m.numbers (w m.row).a < 2 ^ bits (w m.row).dclass → Matched w live reg (stepped w m) c
  unfolding stepped
  passed m c mt dr z b =
      let r = w m.row in
      let parts = and_parts (copies r.op) (eqb (reg r.d) (reg r.a)) dr in
      let q = copy_effect r (m.numbers r.a) (m.numbers r.b) m.shared parts.0 z b in
      let wr : writes_now w m ≡ true = rw (q, is_copy r.op parts.0) refl in
      record {
        row_as = rw (q, dr) (mt.row_as ∙ omega arith);
        shared_as = rw q mt.shared_as;
        holds = λ v h. rw (wr, q) (elim (cases_eq v r.d) [
          | inl e ↦ ap (λ z. c.numbers (reg z)) e ∙ ap c.numbers (eqb-true _ _ parts.1) ∙ mt.holds r.a (lv.reads_a m.row (rw (is_copy r.op parts.0) refl)) ∙ sym (put_same m.numbers _ _ v e)
          | inr e ↦ mt.holds v (arrives w live lv m v h (λ _. e)) ∙ sym (put_other m.numbers _ _ v e)
        ]);
      }
