-- The rows of code, as a list: where each working row stands in it.
use Rattle.std.proofs.Common.{◌≡◌, ℕ, zero, suc, ◌+◌, ◌<◌, true, false, cond, List, [], ◌∷◌, map, length, get_or, refl, ap, ◌∙◌, inl, inr, zero-add, arith}
use Rattle.std.proofs.lemmas.Bool.{cases_Bool}
use Rattle.sets.specs.Sets.{when}
use Rattle.rows.specs.declared.Row.{Row}
use Rattle.rows.specs.Rows.{shape, row_at}
use Rattle.compiling.specs.Blocks.{flat, starts, moved, assembled}
use Rattle.compiling.specs.Emit.{coded, idle, code_block}
use Rattle.simulation.proofs.Carry.{spot, landed, IsCode}

module _ (reg : ℕ → ℕ) where
  -- the spot of a row behind the first
  spot_front : (r : Row) (rs : List Row) (i : ℕ) → spot reg (row_at (r ∷ rs)) (suc i) ≡ cond (idle reg r) 0 1 + spot reg (row_at rs) i
  spot_front r rs zero = omega arith
  spot_front r rs (suc i) = omega (arith, spot_front r rs i)

  block_length : (r : Row) → length (code_block reg r) ≡ cond (idle reg r) 0 1
  block_length r = elim (cases_Bool (idle reg r)) [ inl e ↦ rw e refl | inr e ↦ rw e refl ]

  -- where the blocks start
  starts_at : (rs : List Row) (k i : ℕ) → i < length rs → get_or (starts k (map (code_block reg) rs)) i 0 ≡ k + spot reg (row_at rs) i
  unfolding starts
  starts_at [] k i h = absurd (omega arith)
  starts_at (r ∷ rs) k zero h = omega arith
  starts_at (r ∷ rs) k (suc i) h = starts_at rs (k + length (code_block reg r)) i (omega arith) ∙ omega (arith, block_length r, spot_front r rs i)

  -- the row at a spot, before its target moves
  flat_at : (rs : List Row) (i : ℕ) → idle reg (row_at rs i) ≡ false → row_at (flat (map (code_block reg) rs)) (spot reg (row_at rs) i) ≡ coded reg (row_at rs i)
  unfolding flat
  flat_at [] i h = refl
  flat_at (r ∷ rs) zero h = rw h refl
  flat_at (r ∷ rs) (suc i) h = rw (spot_front r rs i) (elim (cases_Bool (idle reg r)) [
    | inl e ↦ rw e (ap (row_at (flat (map (code_block reg) rs))) (zero-add (spot reg (row_at rs) i)) ∙ flat_at rs i h)
    | inr e ↦ (let q : 1 + spot reg (row_at rs) i ≡ suc (spot reg (row_at rs) i) = omega arith in rw e (ap (row_at (coded reg r ∷ flat (map (code_block reg) rs))) q ∙ flat_at rs i h))
  ])

  moved_at : (to : List ℕ) (rs : List Row) (i : ℕ) → row_at (map (moved to) rs) i ≡ moved to (row_at rs i)
  moved_at to [] i = refl
  moved_at to (r ∷ rs) zero = refl
  moved_at to (r ∷ rs) (suc i) = moved_at to rs i

  landed_as : (w : ℕ → Row) (to : List ℕ) (r : Row) → ((shape r.op).target ≡ true → get_or to r.target 0 ≡ spot reg w r.target) → moved to (coded reg r) ≡ landed reg w r
  landed_as w to r h =
      let t : cond (shape r.op).target (get_or to r.target 0) 0 ≡ cond (shape r.op).target (spot reg w r.target) 0 =
      elim (cases_Bool (shape r.op).target) [ inr e ↦ rw e refl | inl e ↦ rw e (h e) ] in
      λ j. record {
        op = r.op;
        weight = r.weight;
        dclass = r.dclass;
        aclass = r.aclass;
        d = when (shape r.op).d (reg r.d);
        a = when (shape r.op).a (reg r.a);
        b = when (shape r.op).b (reg r.b);
        target = t j;
        constant = r.constant;
        slot = r.slot;
      }

  pub is_code : (rs code : List Row) → ((i : ℕ) → (shape (row_at rs i).op).target ≡ true → (row_at rs i).target < length rs) →
      code ≡ assembled (map (code_block reg) rs) → IsCode reg (row_at rs) (row_at code)
  unfolding assembled
  is_code rs code within q i h =
      let bs = map (code_block reg) rs in
      let to = starts 0 bs in
      ap (λ l. row_at l (spot reg (row_at rs) i)) q ∙ moved_at to (flat bs) (spot reg (row_at rs) i) ∙ ap (moved to) (flat_at rs i h) ∙
      landed_as (row_at rs) to (row_at rs i) (λ e. starts_at rs 0 (row_at rs i).target (within i e) ∙ zero-add (spot reg (row_at rs) (row_at rs i).target))
