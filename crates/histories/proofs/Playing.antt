-- What players and reports rely on of every compiled program.
use Rattle.std.proofs.Common.{◌≡◌, ℕ, zero, suc, ◌+◌, ◌-◌, ◌<◌, ◌≤◌, true, false, cond, List, [], ◌∷◌, map, length, get_or, sym, refl, ap, ◌∙◌, subst, inl, inr, zero-add, arith}
use Rattle.std.proofs.lemmas.List.{length-map, get_or-map}
use Rattle.std.proofs.lemmas.Bool.{cases_Bool, cases_lt, and_parts}
use Rattle.counting.specs.Counting.{sum}
use Rattle.counting.proofs.Sums.{sum_mono}
use Rattle.rows.specs.declared.Row.{Row}
use Rattle.rows.specs.Rows.{shape, copies, end_row, row_at}
use Rattle.rounds.specs.Round.{Outcome}
use Rattle.compiling.specs.Working.{Working, Compiled, place_of, spilled, round_of}
use Rattle.compiling.specs.Blocks.{flat, starts, moved, assembled}
use Rattle.compiling.specs.Emit.{registers_of, coded, idle, code_block, places_coloured, emitted}
use Rattle.interfering.proofs.Living.{table_length}
use Rattle.standing.specs.Standing.{Standing}
use Rattle.standing.proofs.Lines.{locate, flat_length, flat_at, starts_at}
use Rattle.standing.proofs.Sources.{copy_falls, well_formed_sound}
use Rattle.assembling.proofs.Rounds.{kept as place}
use Rattle.players.specs.Scripts.{Inside}
use Rattle.histories.specs.Histories.{Fitting, Playable, FinishedPlays}
use Rattle.histories.proofs.Growing.{Light, beyond, source_light, kept, grown_fits}
use Rattle.histories.proofs.Turning.{finished_agrees}

-- ---- the rows of code

module _ (reg : ℕ → ℕ) (rows : List Row) (inside : Inside rows) where
  abbrev bs : List (List Row)
  bs = map (code_block reg) rows

  abbrev code : List Row
  code = assembled bs

  -- where the code of row i starts
  abbrev spot : ℕ → ℕ
  spot i = sum (λ k. length (get_or bs k [])) i

  bs_length : length bs ≡ length rows
  bs_length = length-map rows (code_block reg)

  block_at_lem : (i : ℕ) → i < length rows → get_or bs i [] ≡ code_block reg (row_at rows i)
  block_at_lem i l = get_or-map (code_block reg) rows i end_row [] l

  spot_kept : (i : ℕ) → i < length rows → idle reg (row_at rows i) ≡ false → spot (suc i) ≡ suc (spot i)
  unfolding sum
  spot_kept i l e =
      let one : length (get_or bs i []) ≡ 1 = ap length (block_at_lem i l) ∙ rw e refl in
      omega arith

  spot_gone : (i : ℕ) → i < length rows → idle reg (row_at rows i) ≡ true → spot (suc i) ≡ spot i
  unfolding sum
  spot_gone i l e =
      let none : length (get_or bs i []) ≡ 0 = ap length (block_at_lem i l) ∙ rw e refl in
      omega arith

  code_length : length code ≡ spot (length rows)
  unfolding assembled
  code_length = length-map (flat bs) (moved (starts 0 bs)) ∙ (flat_length bs ∙ ap spot bs_length)

  -- a row that is gone is a copy, and a row stands behind it: so the code of every row starts at a row that there is
  goes_on_lem : (i : ℕ) → i < length rows → idle reg (row_at rows i) ≡ true → suc i < length rows
  goes_on_lem i l gone = (inside i l).1 (copy_falls (row_at rows i).op (and_parts (copies (row_at rows i).op) _ gone).0)

  stays_below : (i : ℕ) → i < length rows → idle reg (row_at rows i) ≡ false → spot i < spot (length rows)
  stays_below i l stays = omega (arith, spot_kept i l stays, sum_mono (λ k. length (get_or bs k [])) (suc i) (length rows) l)

  starts_by : (d i : ℕ) → suc i + d ≡ length rows → spot i < spot (length rows)
  starts_by zero i e = elim (cases_Bool (idle reg (row_at rows i))) [
    | inl gone ↦ absurd (omega (arith, goes_on_lem i (omega arith) gone))
    | inr stays ↦ stays_below i (omega arith) stays
  ]
  starts_by (suc d) i e = elim (cases_Bool (idle reg (row_at rows i))) [
    | inl gone ↦ omega (arith, spot_gone i (omega arith) gone, starts_by d (suc i) (omega arith))
    | inr stays ↦ stays_below i (omega arith) stays
  ]

  spot_inside : (i : ℕ) → i < length rows → spot i < length code
  spot_inside i l = omega (arith, code_length, starts_by (length rows - suc i) i (omega arith))

  -- each row of code stands for a row that is kept
  abbrev From : ℕ → Type 0
  From q = (i : ℕ) × (i < length rows) × (idle reg (row_at rows i) ≡ false) × (q ≡ spot i) × (row_at code q ≡ moved (starts 0 bs) (coded reg (row_at rows i)))

  code_at : (i : ℕ) → i < length rows → idle reg (row_at rows i) ≡ false → row_at code (spot i) ≡ moved (starts 0 bs) (coded reg (row_at rows i))
  unfolding assembled
  code_at i l e =
      let block : get_or bs i [] ≡ coded reg (row_at rows i) ∷ [] = block_at_lem i l ∙ rw e refl in
      let here : spot i ≡ spot i + 0 = omega arith in
      let there : spot i < length (flat bs) = omega (arith, spot_inside i l, length-map (flat bs) (moved (starts 0 bs))) in
      get_or-map (moved (starts 0 bs)) (flat bs) (spot i) end_row end_row there
      ∙ ap (moved (starts 0 bs)) (ap (λ (j : ℕ). get_or (flat bs) j end_row) here ∙ (flat_at bs end_row i 0 (omega (arith, bs_length)) (rw block (omega arith)) ∙ ap (λ (b : List Row). get_or b 0 end_row) block))

  from : (q : ℕ) → q < length code → From q
  from q l =
      let (i, il, lo, hi) = locate (λ k. length (get_or bs k [])) (length rows) q (omega (arith, code_length)) in
      elim (cases_Bool (idle reg (row_at rows i))) [
        | inl gone ↦ (let none : length (get_or bs i []) ≡ 0 = ap length (block_at_lem i il) ∙ rw gone refl in absurd (omega arith))
        | inr stays ↦
            (let one : length (get_or bs i []) ≡ 1 = ap length (block_at_lem i il) ∙ rw stays refl in
            let here : q ≡ spot i = omega arith in
            (i, il, stays, here, ap (row_at code) here ∙ code_at i il stays))
      ]

  jump_inside : (q : ℕ) → From q → (shape (row_at code q).op).target ≡ true → (row_at code q).target < length code
  jump_inside q (i, l, stays, here, is) x =
      let y : (shape (row_at rows i).op).target ≡ true = sym (ap (λ (r : Row). (shape r.op).target) is) ∙ x in
      let to = (inside i l).0 y in
      let e : (row_at code q).target ≡ spot (row_at rows i).target =
      ap (λ (r : Row). r.target) is ∙ (rw y (starts_at 0 bs (row_at rows i).target (omega (arith, bs_length)) ∙ zero-add (spot (row_at rows i).target))) in
      omega (arith, spot_inside (row_at rows i).target to)

  fall_inside : (q : ℕ) → From q → (shape (row_at code q).op).falls ≡ true → suc q < length code
  fall_inside q (i, l, stays, here, is) x =
      let next = (inside i l).1 (sym (ap (λ (r : Row). (shape r.op).falls) is) ∙ x) in
      omega (arith, spot_kept i l stays, spot_inside (suc i) next)

  pub code_inside : Inside code
  code_inside q l = (jump_inside q (from q l), fall_inside q (from q l))

  pub code_some : 1 ≤ length rows → 1 ≤ length code
  code_some some = omega (arith, spot_inside 0 some)

  pub code_classes : Light rows → (q : ℕ) → (row_at code q).dclass ≤ 2
  code_classes light q = elim (cases_lt q (length code)) [
    | inr l ↦ (beyond code q l).1
    | inl l ↦ (let (i, _, _, _, is) = from q l in omega (arith, ap (λ (r : Row). r.dclass) is, (light i).1))
  ]

-- ---- a compiled program

places_length : (w : Working) (o : Outcome) → length (places_coloured w o) ≡ w.source.vars
unfolding places_coloured
places_length w o = table_length (λ v. cond (spilled w.places v) (place_of w.places v) (place w o v)) w.source.vars 0

emitted_plays : (w : Working) (start : ℕ → ℕ) (o : Outcome) → Standing w start → Light w.rows → Fitting w → length (emitted w o).rows ≤ 512 → Playable (emitted w o)
unfolding emitted
emitted_plays w start o st light fit short =
    let well = st.well_formed in
    let sound = well_formed_sound w.source well in
    let reg : ℕ → ℕ = λ v. get_or (registers_of o) v 0 in
    record {
      some = sound.some;
      most = sound.most;
      inside = λ i l. (sound.target i l, sound.below i l);
      named = λ i. ((λ x. omega (arith, sound.var_d i x, well.vars)), sound.plain i);
      classed = λ i x. (source_light w.source well i).1;
      code_some = code_some reg w.rows fit.inside fit.some;
      code_most = short;
      code_inside = code_inside reg w.rows fit.inside;
      code_classed = λ i x. code_classes reg w.rows fit.inside light i;
      vars = well.vars;
      places = places_length w o;
      slots = fit.slots;
      rounds = omega (arith, fit.rounds, fit.vars);
    }

pub finished_plays : FinishedPlays
finished_plays m ms bs c h =
    let (w, g, _, _, is) = h in
    let k = kept ms bs w g in
    let short : length c.rows ≤ 512 = (finished_agrees m ms bs c h).1.most_rows in
    subst Playable (sym is) (emitted_plays w k.start (round_of m w) k.standing k.light (grown_fits ms bs w g) (subst (λ (x : Compiled). length x.rows ≤ 512) is short))
