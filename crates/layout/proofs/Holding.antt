-- The rows and the starts of blocks in a line, one block more.
use Rattle.std.proofs.Common.{◌≡◌, ℕ, suc, ◌+◌, ◌<◌, ◌≤◌, List, [], ◌∷◌, ◌++◌, map, length, get_or, take, sym, refl, ap, ◌∙◌, add-zero, add_assoc, zero-add, arith}
use Rattle.std.proofs.lemmas.List.{append_assoc, append-nil, length-append, length_push, map_more, take_all}
use Rattle.rows.specs.declared.Row.{Row}
use Rattle.compiling.specs.Blocks.{flat, starts, moved, assembled}
use Rattle.layout.specs.Layouts.{Holds}
use Rattle.layout.proofs.Lists.{front_append}

pub flat_push : {A : Type 0} (bs : List (List A)) (b : List A) → flat (bs ++ b ∷ []) ≡ flat bs ++ b
unfolding flat
flat_push [] b = append-nil b
flat_push (x ∷ xs) b = ap (λ l. x ++ l) (flat_push xs b) ∙ sym (append_assoc x (flat xs) b)

pub starts_push : (i : ℕ) (bs : List (List Row)) (b : List Row) → starts i (bs ++ b ∷ []) ≡ starts i bs ++ (i + length (flat bs)) ∷ []
unfolding flat starts
starts_push i [] b = rw add-zero
starts_push i (x ∷ xs) b = ap (λ l. i ∷ l) (rw (starts_push (i + length x) xs b, length-append x (flat xs), add_assoc))

starts_length : (i : ℕ) (bs : List (List Row)) → length (starts i bs) ≡ length bs
unfolding starts
starts_length i [] = refl
starts_length i (b ∷ bs) = ap suc (starts_length (i + length b) bs)

pub holds_none : (rows : List Row) (at : List ℕ) → rows ≡ [] → at ≡ [] → Holds rows at []
unfolding flat starts
holds_none rows at e f = record { front = e; begins = λ _ _. f }

pub holds_more : (rows rows' : List Row) (at at' : List ℕ) (bs : List (List Row)) (b : List Row) → Holds rows at bs → at' ≡ take 512 (at ++ length rows ∷ []) → rows' ≡ take 512 (rows ++ b) → Holds rows' at' (bs ++ b ∷ [])
holds_more rows rows' at at' bs b h ea er = record {
  front = er ∙ ap (λ l. take 512 (l ++ b)) h.front ∙ front_append 512 (flat bs) b ∙ ap (take 512) (sym (flat_push bs b));
  begins = λ few short.
      let few' : length (flat bs) + length b ≤ 512 = simp (flat_push, length-append) at few in
      let short' : length bs + 1 ≤ 512 = simp length_push at short in
      let whole : rows ≡ flat bs = h.front ∙ take_all 512 (flat bs) (omega arith) in
      let one : at ++ length rows ∷ [] ≡ starts 0 (bs ++ b ∷ []) = rw (h.begins (omega arith) (omega arith), whole, starts_push 0 bs b, zero-add) in
      let room : length (starts 0 (bs ++ b ∷ [])) ≤ 512 = rw (starts_length 0 (bs ++ b ∷ [])) short in
      ea ∙ ap (take 512) one ∙ take_all 512 (starts 0 (bs ++ b ∷ [])) room;
}

pub holds_assembled : (rows rows' : List Row) (at : List ℕ) (bs : List (List Row)) → Holds rows at bs → length (flat bs) ≤ 512 → length bs ≤ 512 → rows' ≡ map (moved at) rows → rows' ≡ assembled bs
unfolding assembled
holds_assembled rows rows' at bs h few short e = rw (e, h.begins few short, h.front, take_all 512 (flat bs) few)

-- blocks that a function makes of rows, those of one row more
pub holds_row : (f : Row → List Row) (rs : List Row) (i : ℕ) (d : Row) → i < length rs → {rows rows' : List Row} {at at' : List ℕ} → Holds rows at (map f (take i rs)) → at' ≡ take 512 (at ++ length rows ∷ []) → rows' ≡ take 512 (rows ++ f (get_or rs i d)) → Holds rows' at' (map f (take (i + 1) rs))
holds_row f rs i d l h ea er = rw (map_more f rs i d l) (holds_more _ _ _ _ (map f (take i rs)) (f (get_or rs i d)) h ea er)
