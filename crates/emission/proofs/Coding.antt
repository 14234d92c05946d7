-- The rows of code.
use Rattle.std.proofs.Common.{◌≡◌, ℕ, ◌≤◌, true, List, [], ◌∷◌, ◌++◌, map, length, take, inl, inr, arith}
use Rattle.std.proofs.lemmas.List.{append-nil, take_all}
use Rattle.std.proofs.lemmas.Bool.{cases_Bool}
use Rattle.rows.specs.declared.Row.{Row}
use Rattle.compiling.specs.Blocks.{flat}
use Rattle.compiling.specs.Emit.{idle, code_block}

-- an idle copy adds nothing
pub block_idle : (reg : ℕ → ℕ) (r : Row) (xs ys : List Row) → idle reg r ≡ true → length xs ≤ 512 → ys ≡ xs → ys ≡ take 512 (xs ++ code_block reg r)
block_idle reg r xs ys t l e = rw (t, append-nil, take_all 512 xs l) e

-- code has no more rows than the program
pub code_few : (reg : ℕ → ℕ) (rows : List Row) → length (flat (map (code_block reg) rows)) ≤ length rows
unfolding flat
code_few reg [] = omega arith
code_few reg (r ∷ rs) =
    let few = code_few reg rs in
    elim (cases_Bool (idle reg r)) [ inl t ↦ rw t (omega arith) | inr t ↦ rw t (omega arith) ]
