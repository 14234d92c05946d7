-- The effect of a row by its meaning in words.
use Rattle.std.proofs.Common.{◌≡◌, ℕ, suc, ◌%◌, ◌^◌, ◌<◌, ◌≤◌, true, false, Ok, Err, Result, sym, refl, inl, inr, arith}
use Rattle.std.proofs.lemmas.Bool.{cases_Bool}
use Rattle.rows.specs.declared.Op.{Op}
use Rattle.rows.specs.declared.Row.{Row}
use Rattle.rows.specs.Rows.{shape, bits}
use Rattle.machine.specs.declared.Outcome.{Outcome}
use Rattle.machine.specs.Machine.{is_running, Shared, meaning, jumps, halted, effect}
use Rattle.machine.proofs.Effects.{ends, runs_on, jumped_may, falls_may}
use Rattle.players.specs.Playing.{in_word, Means, leads}
use Rattle.players.proofs.Numbers.{twice}

word_ended : (a : Result ℕ Outcome) (q : Outcome) → Err q ≡ in_word a → a ≡ Err q
word_ended (Ok v) q e = absurd cc
word_ended (Err o) q e = sym e

word_given : (a : Result ℕ Outcome) (v : ℕ) → Ok v ≡ in_word a → (u : ℕ) × (a ≡ Ok u) × (v ≡ u % 2 ^ 32)
word_given (Ok u) v e = (u, refl, cc)
word_given (Err o) v e = absurd cc

-- what ends a player leaves what is shared as it was
ending_same : (o : Op) (x y k s : ℕ) (h : Shared) (q : Outcome) → (meaning o x y k s h).answer ≡ Err q → (meaning o x y k s h).shared ≡ h
ending_same o x y k s h q e = grind arith

-- a row that writes nothing gives 0
idle_zero : (o : Op) (x y k s : ℕ) (h : Shared) (v : ℕ) → (shape o).d ≡ false → (meaning o x y k s h).answer ≡ Ok v → v ≡ 0
idle_zero o x y k s h v d e = grind arith

in_class : (r : Row) (x y : ℕ) (h : Shared) (v u : ℕ) → v ≡ u % 2 ^ 32 → (meaning r.op x y r.constant r.slot h).answer ≡ Ok u → ((shape r.op).d ≡ true → r.dclass ≤ 2) → v % 2 ^ bits r.dclass ≡ u % 2 ^ bits r.dclass
in_class r x y h v u w e narrow = elim (cases_Bool (shape r.op).d) [
  | inl d ↦ rw w (twice u r.dclass (narrow d))
  | inr d ↦ rw (w, idle_zero r.op x y r.constant r.slot h u d e)
]

module _ (r : Row) (x y : ℕ) (h : Shared) (on : is_running h.outcome ≡ true) where
  pub ended : (q : Outcome) (after : Shared) → Means (meaning r.op x y r.constant r.slot h) (Err q) after → effect r x y h ≡ halted q after
  ended q after m =
      let e = word_ended (meaning r.op x y r.constant r.slot h).answer q m.answer in
      rw (ends r x y h on q e, m.shared, ending_same r.op x y r.constant r.slot h q e) refl

  pub gone_on : (v : ℕ) (after : Shared) → Means (meaning r.op x y r.constant r.slot h) (Ok v) after → ((shape r.op).d ≡ true → r.dclass ≤ 2) →
      effect r x y h ≡ record { shared = after; ran = true; value = v % 2 ^ bits r.dclass; jumped = jumps r.op x y }
  gone_on v after m narrow =
      let (u, e, w) = word_given (meaning r.op x y r.constant r.slot h).answer v m.answer in
      rw (runs_on r x y h on u e, m.shared, in_class r x y h v u w e narrow) refl

-- a row that runs on leads to a row that it may go on to
pub leads_inside : (r : Row) (x y : ℕ) (h : Shared) (i n : ℕ) → i < n → ((shape r.op).target ≡ true → r.target < n) × ((shape r.op).falls ≡ true → suc i < n) → leads r (effect r x y h) i < n
leads_inside r x y h i n l (t, f) = elim (cases_Bool (effect r x y h).ran) [
  | inr off ↦ rw off l
  | inl ran ↦ rw ran (elim (cases_Bool (effect r x y h).jumped) [
    | inl j ↦ rw j (t (jumped_may r x y h j))
    | inr j ↦ rw j (f (falls_may r x y h ran j))
  ])
]
