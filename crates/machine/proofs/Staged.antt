-- A call on a stage is one that the rules allow.
use Rattle.std.proofs.Common.{◌≡◌, ℕ, zero, suc, true, false, cond, sym, refl, ap, ◌∙◌, subst, inl, inr}
use Rattle.std.proofs.lemmas.Bool.{cases_Bool, cond-true, cond-false}
use Rattle.rows.specs.declared.Row.{Row}
use Rattle.rows.specs.Rows.{row_at}
use Rattle.registers.specs.Model.{Model, Written}
use Rattle.registers.specs.Runs.{held, patched}
use Rattle.registers.proofs.RunBits.{Wired, written}
use Rattle.machine.specs.Players.{running, at, writes_now, Steps, Runs}
use Rattle.machine.specs.Rehearsal.{Call, Restart, PlaySource, PlayCode, serves, Does}
use Rattle.machine.specs.OnBits.{OnBits, stepped_on, run_on, rows_on, Stage, served_on, called_on, Holds, Allowed}

module _ (m : Model) (low : ℕ → ℕ) (wired : Wired m low) where
  -- the numbers of a player are those of its bits
  abbrev Reads : OnBits → Type 0
  Reads s = s.player.numbers ≡ held m low s.contents

  steps : (w : ℕ → Row) (s : OnBits) → Reads s → Steps m w s.player (stepped_on m low w s).player
  unfolding stepped_on
  steps w s h = record {
    row = refl;
    shared = refl;
    kept = λ e. ap (held m low) (cond-false _ _ _ e) ∙ sym h;
    written = λ e. subst (λ f. Written m d v f (held m low x)) (sym h)
        (subst (λ y. Written m d v (held m low s.contents) (held m low y)) (sym (cond-true _ _ _ e)) (written m low s.contents d v wired));
  }
    where
      d : ℕ
      d = (w s.player.row).d

      v : ℕ
      v = (at w s.player).value

      x : ℕ
      x = cond (writes_now w s.player) (patched s.contents (low d) (m.width d) v) s.contents

  reads : (w : ℕ → Row) (s : OnBits) → Reads (stepped_on m low w s)
  unfolding stepped_on
  reads w s = refl

  module _ (w : ℕ → Row) (n : ℕ) (s : OnBits) where
    run_on_lem : running s.player ≡ true → run_on m low w s (suc n) ≡ run_on m low w (stepped_on m low w s) n
    unfolding run_on
    run_on_lem e = cond-true _ _ _ e

    run_off : running s.player ≡ false → run_on m low w s (suc n) ≡ s
    unfolding run_on
    run_off e = cond-false _ _ _ e

    rows_on_lem : running s.player ≡ true → rows_on m low w s (suc n) ≡ suc (rows_on m low w (stepped_on m low w s) n)
    unfolding rows_on
    rows_on_lem e = cond-true _ _ _ e

    rows_off : running s.player ≡ false → rows_on m low w s (suc n) ≡ 0
    unfolding rows_on
    rows_off e = cond-false _ _ _ e

  runs_none : (w : ℕ → Row) (s : OnBits) → Reads s → Runs m w s.player zero (rows_on m low w s zero) (run_on m low w s zero).player × Reads (run_on m low w s zero)
  unfolding run_on rows_on
  runs_none w s h = ((refl, refl), h)

  runs : (w : ℕ → Row) (n : ℕ) (s : OnBits) → Reads s → Runs m w s.player n (rows_on m low w s n) (run_on m low w s n).player × Reads (run_on m low w s n)
  runs w zero s h = runs_none w s h
  runs w (suc n) s h = elim (cases_Bool (running s.player)) [
    | inl e ↦
        let more = runs w n (stepped_on m low w s) (reads w s) in
        rw (run_on_lem w n s e, rows_on_lem w n s e) (inr (e, ((stepped_on m low w s).player, rows_on m low w (stepped_on m low w s) n, steps w s h, more.0, refl)), more.1)
    | inr e ↦ rw (run_off w n s e, rows_off w n s e) (inl (e, refl, refl), h)
  ]

  served : (call : Call) (s : Stage) → Holds m low s → serves call ≡ true →
      Does m call s.rehearsal (served_on m low call s).answer (served_on m low call s).stage.rehearsal × Holds m low (served_on m low call s).stage
  unfolding served_on
  served (Restart input) s h e = ((e, (refl, refl)), h)
  served (PlaySource n) s h e = ((e, (refl, refl)), h)
  served (PlayCode n) s h e =
      let (more, last) = runs (row_at s.rehearsal.code_rows) n (record { contents = s.contents; player = s.rehearsal.code }) h in
      ((e, (more, refl, refl)), last)

  pub allowed : Allowed m low
  unfolding called_on
  allowed call s h = elim (cases_Bool (serves call)) [
    | inl e ↦ rw e (served call s h e)
    | inr e ↦ rw e ((e, refl, refl), h)
  ]
