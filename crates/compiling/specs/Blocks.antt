-- A block is what stands for one row afterwards. Targets move to the starts of blocks.
use Rattle.std.specs.Prelude.{ℕ, ◌+◌, cond, List, [], ◌∷◌, ◌++◌, map, length, slice_index}
use Rattle.rows.specs.declared.Row.{Row}
use Rattle.rows.specs.Rows.{shape}

-- lists in a line
unfoldable pub flat : {A : Type 0} → List (List A) → List A
flat [] = []
flat (b ∷ bs) = b ++ flat bs

-- where each block starts, the first at i; an empty one where the next begins
unfoldable pub starts : ℕ → List (List Row) → List ℕ
starts i [] = []
starts i (b ∷ bs) = i ∷ starts (i + length b) bs

-- a row with its target moved to the start of the target's block
abbrev pub moved : List ℕ → Row → Row
moved at r = record {
  op = r.op;
  weight = r.weight;
  dclass = r.dclass;
  aclass = r.aclass;
  d = r.d;
  a = r.a;
  b = r.b;
  target = cond (shape r.op).target (slice_index at r.target) 0;
  constant = r.constant;
  slot = r.slot;
}

-- the rows of all blocks
unfoldable pub assembled : List (List Row) → List Row
unfolding flat starts
assembled bs = let at = starts 0 bs in map (moved at) (flat bs)
