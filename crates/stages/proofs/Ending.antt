-- The program of the row end alone can be played.
use Rattle.std.proofs.Common.{◌≡◌, ℕ, zero, suc, [], ◌∷◌, refl, arith}
use Rattle.rows.specs.Rows.{end_row, row_at}
use Rattle.histories.specs.Histories.{Playable, end_code}

quiet : (i : ℕ) → row_at (end_row ∷ []) i ≡ end_row
quiet zero = refl
quiet (suc i) = refl

pub end_plays : Playable end_code
end_plays = record {
  some = omega arith;
  most = omega arith;
  inside = λ i h. rw (quiet i) ((λ e. absurd (let z : ◌≡◌ {A = ℕ} 0 1 = cc in omega arith)), (λ e. absurd (let z : ◌≡◌ {A = ℕ} 0 1 = cc in omega arith)));
  named = λ i. rw (quiet i) ((λ e. absurd (let z : ◌≡◌ {A = ℕ} 0 1 = cc in omega arith)), refl);
  classed = λ i. rw (quiet i) (λ e. omega arith);
  code_some = omega arith;
  code_most = omega arith;
  code_inside = λ i h. rw (quiet i) ((λ e. absurd (let z : ◌≡◌ {A = ℕ} 0 1 = cc in omega arith)), (λ e. absurd (let z : ◌≡◌ {A = ℕ} 0 1 = cc in omega arith)));
  code_classed = λ i. rw (quiet i) (λ e. omega arith);
  vars = omega arith;
  places = refl;
  slots = omega arith;
  rounds = omega arith;
}
