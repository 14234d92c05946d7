-- Texts added one behind the other.
use Rattle.std.proofs.Common.{◌≡◌, ℕ, ◌+◌, ◌<◌, List, [], ◌∷◌, ◌++◌, length, get_or, take, drop, sym, ap, ◌∙◌, append_assoc, arith}
use Rattle.std.proofs.lemmas.List.{take_more, flat_map_more}
use Rattle.printing.specs.Texts.{behind, joined}

-- one thing more behind its mark
pub behind_more : {X : Type 0} (mark : ℕ) (text : X → List ℕ) (bs : List ℕ) (xs : List X) (i : ℕ) (x : X) {w y z : List ℕ} → i < length xs → x ≡ get_or xs i x → w ≡ bs ++ behind mark text (take i xs) → y ≡ w ++ (mark ∷ []) → z ≡ y ++ text x → z ≡ bs ++ behind mark text (take (i + 1) xs)
behind_more {X} mark text bs xs i x l here was e f =
    f
    ∙ ap (λ (ds : List ℕ). ds ++ text x) (e ∙ ap (λ (ds : List ℕ). ds ++ (mark ∷ [])) was)
    ∙ append_assoc (bs ++ behind mark text (take i xs)) (mark ∷ []) (text x)
    ∙ flat_map_more (λ (w : X). mark ∷ text w) bs (take i xs) x
    ∙ ap (λ (ws : List X). bs ++ behind mark text ws) (ap (λ (w : X). take i xs ++ (w ∷ [])) here ∙ sym (take_more xs i x l))

-- the first thing, and the others behind it
pub joined_first : {X : Type 0} (mark : ℕ) (none : List ℕ) (text : X → List ℕ) (bs : List ℕ) (xs : List X) (x : X) {y z : List ℕ} {rest : List X} → 0 < length xs → x ≡ get_or xs 0 x → rest ≡ drop 1 xs → y ≡ bs ++ text x → z ≡ y ++ behind mark text rest → z ≡ bs ++ joined mark none text xs
joined_first mark none text bs [] x l here left e f = absurd (omega arith)
joined_first {X} mark none text bs (w ∷ ws) x {y = y} l here left e f =
    f
    ∙ ap (λ (vs : List X). y ++ behind mark text vs) left
    ∙ ap (λ (ds : List ℕ). ds ++ behind mark text ws) (e ∙ ap (λ (v : X). bs ++ text v) here)
    ∙ append_assoc bs (text w) (behind mark text ws)
