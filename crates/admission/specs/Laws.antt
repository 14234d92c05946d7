-- The laws of the two kinds.
use Rattle.std.specs.Prelude.{ℕ, false, List}
use Rattle.std.proofs.Common.{arith, lit<, pow_pos}
use Rattle.std.proofs.lemmas.Nat.{and_le_r}
use Rattle.sets.specs.Sets.{union, meet, up_to}
use Rattle.rows.specs.Rows.{writes, set_of, row_at}
use Rattle.rows.specs.declared.Row.{Row}
use Rattle.facts.specs.Flow.{Lawful}
use Rattle.facts.proofs.Laws.{spreading_lawful, ensured_lawful, added_steady, added_inside}
use Rattle.admission.specs.Kinds.{nexts, reach, initialisation}

pub reach_lawful : (rows : List Row) → Lawful (reach rows)
reach_lawful rows = spreading_lawful 1 (nexts rows) false 1 (λ i x. x) (lit< tt) (λ i x y h. h) (λ i x h. h)

pub initialisation_lawful : (vars : ℕ) (rows : List Row) → Lawful (initialisation vars rows)
initialisation_lawful vars rows =
    let adds : ℕ → ℕ = λ i. meet (set_of (writes (row_at rows i))) (up_to vars) in
    ensured_lawful vars (nexts rows) false 0 (λ i x. union x (adds i)) (pow_pos vars) (added_steady vars adds)
    (added_inside vars adds (λ i. omega (arith, and_le_r (set_of (writes (row_at rows i))) (up_to vars), pow_pos vars)))
