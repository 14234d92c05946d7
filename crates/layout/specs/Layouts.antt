-- What a layout holds.
use Rattle.std.specs.Prelude.{◌≡◌, ℕ, ◌≤◌, List, length, take}
use Rattle.rows.specs.declared.Row.{Row}
use Rattle.compiling.specs.Blocks.{flat, starts}

-- rows and starts are those of blocks, as far as there is room
pub record Holds (rows : List Row) (at : List ℕ) (bs : List (List Row)) : Type 0 where
  pub front : rows ≡ take 512 (flat bs)
  pub begins : length (flat bs) ≤ 512 → length bs ≤ 512 → at ≡ starts 0 bs
