-- Rows past the end are end rows, which use nothing: what is shown of the rows of a list holds at every place.
use Rattle.std.proofs.Common.{◌≡◌, ℕ, zero, suc, ◌<◌, ◌≤◌, Bool, true, false, List, [], ◌∷◌, map, length, get_or, refl, ap, ◌∙◌, inl, inr, arith}
use Rattle.std.proofs.lemmas.Bool.{cases_lt, both_ways}
use Rattle.rows.specs.declared.Op.{Op}
use Rattle.rows.specs.declared.Op.TheVariants.{End}
use Rattle.rows.specs.declared.Row.{Row}
use Rattle.rows.specs.Rows.{shape, end_row, row_at}
use Rattle.rounds.specs.Round.{Outcome}
use Rattle.compiling.specs.Working.{Working}
use Rattle.compiling.specs.Blocks.{assembled}
use Rattle.compiling.specs.Emit.{code_block, registers_of, emitted}
use Rattle.simulation.specs.Static.{Lively}

pub past : (rows : List Row) (i : ℕ) → length rows ≤ i → row_at rows i ≡ end_row
past [] i h = refl
past (r ∷ rs) zero h = absurd (omega arith)
past (r ∷ rs) (suc i) h = past rs i (omega arith)

-- a row that uses what an end row does not use is one of the list
pub inside : (uses : Op → Bool) → uses End ≡ false → (rows : List Row) (i : ℕ) → uses (row_at rows i).op ≡ true → i < length rows
inside uses off rows i onn = elim (cases_lt i (length rows)) [
  | inl h ↦ h
  | inr h ↦ absurd (both_ways (uses (row_at rows i).op) (ap (λ r. uses r.op) (past rows i h) ∙ off) onn)
]

-- liveness that is closed over the rows of a list is closed everywhere
pub lively_inside : (rows : List Row) (live : ℕ → ℕ → Bool) →
    ((i : ℕ) → i < length rows → (shape (row_at rows i).op).a ≡ true → live i (row_at rows i).a ≡ true) →
    ((i : ℕ) → i < length rows → (shape (row_at rows i).op).b ≡ true → live i (row_at rows i).b ≡ true) →
    ((i v : ℕ) → i < length rows → (shape (row_at rows i).op).falls ≡ true → live (suc i) v ≡ true → ((shape (row_at rows i).op).d ≡ true → v ≡ (row_at rows i).d → ⊥) → live i v ≡ true) →
    ((i v : ℕ) → i < length rows → (shape (row_at rows i).op).target ≡ true → live (row_at rows i).target v ≡ true → live i v ≡ true) →
    Lively (row_at rows) live
lively_inside rows live a b falls target = record {
  reads_a = λ i e. a i (inside (λ o. (shape o).a) refl rows i e) e;
  reads_b = λ i e. b i (inside (λ o. (shape o).b) refl rows i e) e;
  below = λ i v e. falls i v (inside (λ o. (shape o).falls) refl rows i e) e;
  target = λ i v e. target i v (inside (λ o. (shape o).target) refl rows i e) e;
}

-- the rows of an emitted program, as a static record has them
pub emitted_rows : (w : Working) (o : Outcome) → (emitted w o).rows ≡ assembled (map (code_block (λ v. get_or (registers_of o) v 0)) w.rows)
unfolding emitted
emitted_rows w o = refl
