-- What the effect of a row is, by the answer of its opcode, and where a row may go.
use Rattle.std.proofs.Common.{◌≡◌, ℕ, ◌%◌, ◌^◌, true, false, ◌⊎◌, Ok, Err, Result, refl, inl, inr, arith}
use Rattle.std.proofs.lemmas.Bool.{cases_Bool, false≢true}
use Rattle.rows.specs.declared.Op.{Op}
use Rattle.rows.specs.declared.Row.{Row}
use Rattle.rows.specs.Rows.{shape, bits}
use Rattle.machine.specs.declared.Outcome.{Outcome}
use Rattle.machine.specs.Machine.{is_running, Shared, meaning, jumps, Effect, halted, effect}

pub cases_Result : {T E : Type 0} (r : Result T E) → ((v : T) × (r ≡ Ok v)) ⊎ ((e : E) × (r ≡ Err e))
cases_Result (Ok v) = inl (v, refl)
cases_Result (Err e) = inr (e, refl)

-- an ended player rests
pub rests : (r : Row) (x y : ℕ) (h : Shared) → is_running h.outcome ≡ false → effect r x y h ≡ halted h.outcome h
unfolding effect
rests r x y h z = rw z

module _ (r : Row) (x y : ℕ) (h : Shared) (on : is_running h.outcome ≡ true) where
  pub ends : (o : Outcome) → (meaning r.op x y r.constant r.slot h).answer ≡ Err o → effect r x y h ≡ halted o h
  unfolding effect
  ends o e = rw (on, e)

  pub runs_on : (v : ℕ) → (meaning r.op x y r.constant r.slot h).answer ≡ Ok v →
      effect r x y h ≡ record { shared = (meaning r.op x y r.constant r.slot h).shared; ran = true; value = v % 2 ^ bits r.dclass; jumped = jumps r.op x y }
  unfolding effect
  runs_on v e = rw (on, e)

-- a row that runs on goes to a row that it may go to
jumps_to : (o : Op) (x y : ℕ) → jumps o x y ≡ true → (shape o).target ≡ true
jumps_to o x y h = grind arith

falls_on : (o : Op) (x y k s : ℕ) (h : Shared) (v : ℕ) → (meaning o x y k s h).answer ≡ Ok v → jumps o x y ≡ false → (shape o).falls ≡ true
falls_on o x y k s h v e t = grind arith

-- each way in which a row has its effect
pub data Ways (r : Row) (x y : ℕ) (h : Shared) (u : Effect) : Type 0 where
  Rests : is_running h.outcome ≡ false → u ≡ halted h.outcome h → Ways r x y h u
  Ends : (o : Outcome) → is_running h.outcome ≡ true → (meaning r.op x y r.constant r.slot h).answer ≡ Err o → u ≡ halted o h → Ways r x y h u
  Goes : (v : ℕ) → is_running h.outcome ≡ true → (meaning r.op x y r.constant r.slot h).answer ≡ Ok v →
      u ≡ record { shared = (meaning r.op x y r.constant r.slot h).shared; ran = true; value = v % 2 ^ bits r.dclass; jumped = jumps r.op x y } → Ways r x y h u

pub ways : (r : Row) (x y : ℕ) (h : Shared) → Ways r x y h (effect r x y h)
ways r x y h = elim (cases_Bool (is_running h.outcome)) [
  | inr z ↦ Rests z (rests r x y h z)
  | inl z ↦ elim (cases_Result (meaning r.op x y r.constant r.slot h).answer) [
    | inl (v, e) ↦ Goes v z e (runs_on r x y h z v e)
    | inr (o, e) ↦ Ends o z e (ends r x y h z o e)
  ]
]

pub jumped_may : (r : Row) (x y : ℕ) (h : Shared) → (effect r x y h).jumped ≡ true → (shape r.op).target ≡ true
jumped_may r x y h t = elim (ways r x y h) [
  | Rests z e ↦ absurd (false≢true (rw e at t))
  | Ends o z a e ↦ absurd (false≢true (rw e at t))
  | Goes v z a e ↦ jumps_to r.op x y (rw e at t)
]

pub falls_may : (r : Row) (x y : ℕ) (h : Shared) → (effect r x y h).ran ≡ true → (effect r x y h).jumped ≡ false → (shape r.op).falls ≡ true
falls_may r x y h n t = elim (ways r x y h) [
  | Rests z e ↦ absurd (false≢true (rw e at n))
  | Ends o z a e ↦ absurd (false≢true (rw e at n))
  | Goes v z a e ↦ falls_on r.op x y r.constant r.slot h v a (rw e at t)
]
