-- An element more in the array of a list.
use Rattle.std.proofs.Common.{◌≡◌, ℕ, ◌+◌, ◌-◌, ◌<◌, List, drop, replicate, set, sym, ap, ◌∙◌, arith}
use Rattle.std.proofs.lemmas.List.{length-set, drop-set-lt, drop-drop, drop-replicate}
use Rattle.lists.specs.Padding.{IsPadded}

pub pushed : {A : Type 0} (n : ℕ) (blank x : A) (items : List A) (count : ℕ) → IsPadded n blank items count → count < n → IsPadded n blank (set items count x) (count + 1)
pushed n blank x items count h lt = record {
  fits = omega arith;
  whole = length-set items count x ∙ h.whole;
  rest = drop-set-lt (count + 1) items count x (omega arith) ∙ (sym (drop-drop 1 count items) ∙ ap (drop 1) h.rest ∙ drop-replicate 1 (n - count) blank ∙ ap (λ (k : ℕ). replicate k blank) (let k : n - count - 1 ≡ n - (count + 1) = omega arith in k));
}
