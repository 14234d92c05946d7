-- Texts of several parts, each added behind the others.
use Rattle.std.proofs.Common.{◌≡◌, ℕ, List, ◌++◌, append_assoc}

pub eight : (x₀ t₁ t₂ t₃ t₄ t₅ t₆ t₇ t₈ : List ℕ) {x₁ x₂ x₃ x₄ x₅ x₆ x₇ x₈ : List ℕ} → x₁ ≡ x₀ ++ t₁ → x₂ ≡ x₁ ++ t₂ → x₃ ≡ x₂ ++ t₃ → x₄ ≡ x₃ ++ t₄ → x₅ ≡ x₄ ++ t₅ → x₆ ≡ x₅ ++ t₆ → x₇ ≡ x₆ ++ t₇ → x₈ ≡ x₇ ++ t₈ → x₈ ≡ x₀ ++ (t₁ ++ (t₂ ++ (t₃ ++ (t₄ ++ (t₅ ++ (t₆ ++ (t₇ ++ t₈)))))))
eight x₀ t₁ t₂ t₃ t₄ t₅ t₆ t₇ t₈ e₁ e₂ e₃ e₄ e₅ e₆ e₇ e₈ =
    rw (e₈, e₇, e₆, e₅, e₄, e₃, e₂, e₁) (simp append_assoc)

pub five : (x₀ t₁ t₂ t₃ t₄ t₅ : List ℕ) {x₁ x₂ x₃ x₄ x₅ : List ℕ} → x₁ ≡ x₀ ++ t₁ → x₂ ≡ x₁ ++ t₂ → x₃ ≡ x₂ ++ t₃ → x₄ ≡ x₃ ++ t₄ → x₅ ≡ x₄ ++ t₅ → x₅ ≡ x₀ ++ (t₁ ++ (t₂ ++ (t₃ ++ (t₄ ++ t₅))))
five x₀ t₁ t₂ t₃ t₄ t₅ e₁ e₂ e₃ e₄ e₅ = rw (e₅, e₄, e₃, e₂, e₁) (simp append_assoc)
