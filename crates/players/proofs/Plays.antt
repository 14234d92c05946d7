-- Rows of both players, one by one.
use Rattle.std.proofs.Common.{◌≡◌, ℕ, zero, suc, ◌+◌, ◌-◌, ◌<◌, Bool, true, false, cond, ◌&&◌, ◌⊎◌, List, length, set, Some, None, Option, sym, refl, ap, ◌∙◌, subst, inl, inr, add-zero, arith}
use Rattle.std.proofs.lemmas.List.{nil_from_length}
use Rattle.std.proofs.lemmas.Bool.{cond-true, cond-false, and_parts}
use Rattle.rows.specs.declared.Row.{Row}
use Rattle.rows.specs.Rows.{shape, row_at}
use Rattle.registers.specs.Model.{Model}
use Rattle.machine.specs.declared.Outcome.{Outcome}
use Rattle.machine.specs.Machine.{is_running, put, Shared, Effect, effect}
use Rattle.machine.specs.Players.{Player, running, at, writes_now, next_row, stepped, run, rows_played, Runs}
use Rattle.players.specs.declared.Player.{Player as Turning}
use Rattle.players.specs.declared.SourcePlayer.{SourcePlayer}
use Rattle.players.specs.declared.CodePlayer.{CodePlayer}
use Rattle.players.specs.Scripts.{Named}
use Rattle.players.specs.Playing.{numbers_in, shared_of, rows_of, player_of, source_of, code_of, leads, Turned, Plays, SourceStep, CodeStep}
use Rattle.players.proofs.Numbers.{put_set}

-- a number is given just where the test passes
gave : (b : Bool) (v u : ℕ) → Some v ≡ cond b (Some u) None → (b ≡ true) × (v ≡ u)
gave true v u e = (refl, cc)
gave false v u e = let z : ◌≡◌ {A = ℕ} 0 1 = cc in absurd (omega arith)

gave_none : (b : Bool) (u : ℕ) → None ≡ cond b (Some u) None → b ≡ false
gave_none true u e = let z : ◌≡◌ {A = ℕ} 0 1 = cc in absurd (omega arith)
gave_none false u e = refl

-- a row of the source player by its parts
steps_by : (w : ℕ → Row) (p q : Player) (e : Effect) → e ≡ at w p → q.row ≡ leads (w p.row) e p.row → q.shared ≡ e.shared →
    q.numbers ≡ cond ((shape (w p.row).op).d && e.ran) (put p.numbers (w p.row).d e.value) p.numbers → q ≡ stepped w p
unfolding stepped
steps_by w p q e is row shared numbers =
    let row' : q.row ≡ next_row w p = subst (λ (z : Effect). q.row ≡ leads (w p.row) z p.row) is row in
    let shared' : q.shared ≡ (at w p).shared = shared ∙ ap (λ (z : Effect). z.shared) is in
    let numbers' : q.numbers ≡ cond (writes_now w p) (put p.numbers (w p.row).d (at w p).value) p.numbers =
    subst (λ (z : Effect). q.numbers ≡ cond ((shape (w p.row).op).d && z.ran) (put p.numbers (w p.row).d z.value) p.numbers) is numbers in
    λ i. record { row = row' i; numbers = numbers' i; shared = shared' i }

-- what a player plays from here on, it plays after i rows
module _ {P : Type 0} (outcome : P → Outcome) (Step : P → P → Type 0) where
  abbrev pub Follows : (p first : P) → (n i : ℕ) → Type 0
  Follows p first n i = (k : ℕ) (q : P) → Plays outcome Step p (n - i) k q → Plays outcome Step first n (i + k) q

  rests : (p : P) (k : ℕ) → (is_running (outcome p) ≡ false) ⊎ (k ≡ 0) → Plays outcome Step p k 0 p
  rests p zero h = (refl, refl)
  rests p (suc k) (inl off) = inl (off, refl, refl)
  rests p (suc k) (inr z) = absurd (omega arith)

  module _ (p first : P) (n i : ℕ) (follows : Follows p first n i) where
    pub follows_more : (x : P) → i < n → is_running (outcome p) ≡ true → Step p x → Follows x first n (i + 1)
    follows_more x l on s k q more =
        let j : suc (n - (i + 1)) ≡ n - i = omega arith in
        let next : Plays outcome Step p (suc (n - (i + 1))) (suc k) q = inr (on, (x, k, s, more, refl)) in
        let all = follows (suc k) q (subst (λ (z : ℕ). Plays outcome Step p z (suc k) q) j next) in
        let t : i + suc k ≡ (i + 1) + k = omega arith in
        subst (λ (z : ℕ). Plays outcome Step first n z q) t all

    pub follows_none : (is_running (outcome p) ≡ false) ⊎ (n - i ≡ 0) → Plays outcome Step first n i p
    follows_none h = subst (λ (z : ℕ). Plays outcome Step first n z p) (add-zero i) (follows 0 p (rests p (n - i) h))

-- what a source player plays by its rows
module _ (w : ℕ → Row) (p : Player) where
  run_none : (run w p 0 ≡ p) × (rows_played w p 0 ≡ 0)
  unfolding run rows_played
  run_none = (refl, refl)

  run_off : (n : ℕ) → running p ≡ false → (run w p (suc n) ≡ p) × (rows_played w p (suc n) ≡ 0)
  unfolding run rows_played
  run_off n e = (cond-false (running p) _ _ e, cond-false (running p) _ _ e)

  run_more : (n : ℕ) → running p ≡ true → (run w p (suc n) ≡ run w (stepped w p) n) × (rows_played w p (suc n) ≡ suc (rows_played w (stepped w p) n))
  unfolding run rows_played
  run_more n e = (cond-true (running p) _ _ e, cond-true (running p) _ _ e)

pub source_plays : (n k : ℕ) (p q : SourcePlayer) → Plays (λ s. s.player.tape.outcome) SourceStep p n k q →
    (rows_of q.player ≡ rows_of p.player) × (source_of q ≡ run (row_at (rows_of p.player)) (source_of p) n) × (k ≡ rows_played (row_at (rows_of p.player)) (source_of p) n)
source_plays zero k p q (z, e) =
    let (r, c) = run_none (row_at (rows_of p.player)) (source_of p) in
    rw (e, z) (refl, sym r, sym c)
source_plays (suc n) k p q (inl (off, z, e)) =
    let (r, c) = run_off (row_at (rows_of p.player)) (source_of p) n off in
    rw (e, z) (refl, sym r, sym c)
source_plays (suc n) k p q (inr (on, (x, j, s, more, e))) =
    let w = row_at (rows_of p.player) in
    let (r, c) = run_more w (source_of p) n on in
    let (rows, run_x, count) = source_plays n j x q more in
    let run_w : source_of q ≡ run w (stepped w (source_of p)) n = (rw (s.rows, s.steps) at run_x) in
    let rows_w : j ≡ rows_played w (stepped w (source_of p)) n = (rw (s.rows, s.steps) at count) in
    (rows ∙ s.rows, run_w ∙ sym r, e ∙ ap suc rows_w ∙ sym c)

-- what a code player plays by the rows of its bank
pub code_plays : {B : Type 0} (model : B → Model) (contents : B → ℕ → ℕ) (n k : ℕ) (p q : CodePlayer B) → Plays (λ c. c.player.tape.outcome) (CodeStep model contents) p n k q →
    (rows_of q.player ≡ rows_of p.player) × (model q.bank ≡ model p.bank) × Runs (model p.bank) (row_at (rows_of p.player)) (code_of contents p) n k (code_of contents q)
code_plays model contents zero k p q (z, e) = rw e (refl, refl, (z, refl))
code_plays model contents (suc n) k p q (inl (off, z, e)) = rw e (refl, refl, inl (off, z, refl))
code_plays model contents (suc n) k p q (inr (on, (x, j, s, more, e))) =
    let (rows, file, runs) = code_plays model contents n j x q more in
    let runs_p : Runs (model p.bank) (row_at (rows_of p.player)) (code_of contents x) n j (code_of contents q) = rw (s.rows, s.file) at runs in
    (rows ∙ s.rows, file ∙ s.file, inr (on, (code_of contents x, j, s.steps, runs_p, e)))

-- a row of the source player by its turn
module _ (p : Turning) (vars : List ℕ) (row : Row) (x y : ℕ) (here : row ≡ row_at (rows_of p) p.row) (is_x : x ≡ numbers_in vars row.a) (is_y : y ≡ numbers_in vars row.b) where
  abbrev does : Effect
  does = effect (row_at (rows_of p) p.row) x y (shared_of p.tape (λ _. 0))

  abbrev writes : Bool
  writes = (shape (row_at (rows_of p) p.row).op).d && does.ran

  abbrev after : ℕ → ℕ
  after = cond writes (put (numbers_in vars) (row_at (rows_of p) p.row).d does.value) (numbers_in vars)

  pub source_row : (q : Turning) (slots : List ℕ) (numbers : ℕ → ℕ) (answer : Option ℕ) → length slots ≡ 0 → Turned (row_at (rows_of p) p.row) does p q (numbers_in slots) answer →
      numbers ≡ after → player_of q numbers (λ _. 0) ≡ stepped (row_at (rows_of p)) (player_of p (numbers_in vars) (λ _. 0))
  source_row q slots numbers answer none t e =
      let r = row_at (rows_of p) p.row in
      let h : Shared = shared_of p.tape (λ _. 0) in
      let is : does ≡ effect r (numbers_in vars r.a) (numbers_in vars r.b) h =
      ap (λ (z : ℕ). effect r z y h) (is_x ∙ ap (λ (z : Row). numbers_in vars z.a) here) ∙ ap (λ (z : ℕ). effect r (numbers_in vars r.a) z h) (is_y ∙ ap (λ (z : Row). numbers_in vars z.b) here) in
      let shared = subst (λ (z : List ℕ). shared_of q.tape (numbers_in z) ≡ does.shared) (nil_from_length slots none) t.shared in
      steps_by (row_at (rows_of p)) (player_of p (numbers_in vars) (λ _. 0)) (player_of q numbers (λ _. 0)) does is t.row shared e

  pub source_wrote : (v : ℕ) (answer : Option ℕ) → length vars ≡ 64 → Named (rows_of p) → answer ≡ Some v → answer ≡ cond writes (Some does.value) None → numbers_in (set vars row.d v) ≡ after
  source_wrote v answer long named is gives =
      let (w, u) = gave writes v does.value (sym is ∙ gives) in
      let d = (row_at (rows_of p) p.row).d in
      let lt : d < length vars = rw long ((named p.row).0 (and_parts _ _ w).0) in
      ap (λ (z : Row). numbers_in (set vars z.d v)) here ∙ put_set vars d v lt ∙ ap (put (numbers_in vars) d) u ∙ sym (cond-true writes _ _ w)

  pub source_kept : (answer : Option ℕ) → answer ≡ None → answer ≡ cond writes (Some does.value) None → numbers_in vars ≡ after
  source_kept answer is gives = sym (cond-false writes _ _ (gave_none writes does.value (sym is ∙ gives)))
