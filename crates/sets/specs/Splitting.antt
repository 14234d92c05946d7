-- A node set gives its words back.
use Rattle.std.proofs.Common.{◌≡◌, ℕ, suc, ◌%◌, ◌^◌, ◌<◌, List, [], ◌∷◌, length, slice_index, sym, refl, ap, ap₂, ◌∙◌, mod-eq_of_lt}
use lib.Pow.{high, low}
use Rattle.std.proofs.lemmas.Nat.{pow_pos, mod_below}
use Rattle.sets.specs.declared.NodeSet.TheInside.{Inside}
use Rattle.sets.specs.Words.{joined, split, IsWords}

split_lem : (ws : List ℕ) → ((k : ℕ) → slice_index ws k < 2 ^ 64) → split (length ws) (joined ws) ≡ ws
unfolding split joined
split_lem [] h = refl
split_lem (w ∷ ws) h =
    let here : w % 2 ^ 64 < 2 ^ 64 = mod_below w (2 ^ 64) (pow_pos 64) in
    ap₂ ◌∷◌ (low (joined ws) 64 here ∙ mod-eq_of_lt (h 0)) (ap (split (length ws)) (high (joined ws) 64 here) ∙ split_lem ws (λ k. h (suc k)))

split_words : (ws : List ℕ) → IsWords ws → split 7 (joined ws) ≡ ws
split_words ws h = ap (λ (n : ℕ). split n (joined ws)) (sym h.0) ∙ split_lem ws h.1

-- one set has the same words
pub same_words : (xs ys : List ℕ) → IsWords xs → IsWords ys → joined xs ≡ joined ys → xs ≡ ys
same_words xs ys hx hy e = sym (split_words xs hx) ∙ ap (split 7) e ∙ split_words ys hy

pub split_joined : (s : Inside) → IsWords s.words → ◌≡◌ {A = Inside} (record { words = split 7 (joined s.words) }) s
split_joined s h = ap (λ (ws : List ℕ). let r : Inside = record { words = ws } in r) (split_words s.words h)
