-- The table of the rows that each row goes on to.
use Rattle.std.proofs.Common.{◌≡◌, ℕ, zero, suc, ◌+◌, ◌<◌, ◌≤◌, List, [], ◌∷◌, length, get_or, refl, ap, ◌∙◌, arith}
use Rattle.std.proofs.lemmas.List.{get_or_past}
use Rattle.rows.specs.declared.Row.{Row}
use Rattle.rows.specs.Rows.{next, row_at}
use Rattle.admission.specs.Kinds.{nexts_from, nexts}

pub nexts_length : (i : ℕ) (rows : List Row) → length (nexts_from i rows) ≡ length rows
unfolding nexts_from
nexts_length i [] = refl
nexts_length i (r ∷ rs) = ap suc (nexts_length (suc i) rs)

nexts_from_lem : (i j : ℕ) (rows : List Row) → j < length rows → get_or (nexts_from i rows) j [] ≡ next (i + j) (row_at rows j)
unfolding nexts_from
nexts_from_lem i j [] h = absurd (omega arith)
nexts_from_lem i zero (r ∷ rs) h = let e : i ≡ i + 0 = omega arith in ap (λ (k : ℕ). next k r) e
nexts_from_lem i (suc j) (r ∷ rs) h = nexts_from_lem (suc i) j rs (omega arith) ∙ (let e : suc i + j ≡ i + suc j = omega arith in ap (λ (k : ℕ). next k (row_at rs j)) e)

-- nothing stands past its end
pub nexts_past : (i : ℕ) (rows : List Row) → length rows ≤ i → get_or (nexts rows) i [] ≡ []
nexts_past i rows h = get_or_past (nexts rows) i [] (omega (arith, h, nexts_length 0 rows))

-- what stands in the table
pub nexts_at : (i : ℕ) (rows : List Row) → i < length rows → get_or (nexts rows) i [] ≡ next i (row_at rows i)
nexts_at i rows h = nexts_from_lem 0 i rows h ∙ (let e : 0 + i ≡ i = omega arith in ap (λ (k : ℕ). next k (row_at rows i)) e)
