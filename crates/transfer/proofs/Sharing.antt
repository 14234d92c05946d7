-- Variables share a slot only where they never disturb each other: kept by a round.
use Rattle.std.proofs.Common.{◌≡◌, ℕ, zero, suc, ◌+◌, ◌-◌, ◌<◌, ◌≤◌, Bool, true, false, cond, not, ◌&&◌, ◌||◌, ◌⊎◌, length, get_or, sym, refl, ap, ◌∙◌, subst, inl, inr, arith}
use Rattle.std.proofs.lemmas.Bool.{cases_Bool, both_ways, true≢false, and_parts}
use Rattle.counting.specs.Counting.{count}
use Rattle.counting.proofs.Sums.{count_le}
use Rattle.sets.specs.Sets.{has}
use Rattle.rows.specs.declared.Op.{Op}
use Rattle.rows.specs.Rows.{shape, copies, Program}
use Rattle.registers.specs.Model.{Model, Lawful}
use Rattle.rounds.specs.Interference.{node_at}
use Rattle.rounds.specs.Round.{Outcome, round}
use Rattle.compiling.specs.Working.{Working, admitted, spilled, unspilled, round_of}
use Rattle.compiling.specs.Spill.{places_spilled}
use Rattle.compiling.specs.Rewrite.{rewritten}
use Rattle.simulation.specs.Static.{row_of, slot_of, Shares}
use Rattle.interfering.specs.Living.{written_at, lives_before, lives_after}
use Rattle.interfering.specs.Edges.{Meets, copies_from}
use Rattle.interfering.proofs.Living.{writes_inside, after_each}
use Rattle.interfering.proofs.Edges.{live_node}
use Rattle.standing.specs.Standing.{source_rows, Standing, Spills}
use Rattle.transfer.specs.Paired.{ThreeClasses, graph_after}
use Rattle.transfer.specs.Transfer.{Unplaced}
use Rattle.transfer.specs.Sharing.{Quiet, SlotsByNode, SharingHarmless}
use Rattle.transfer.proofs.Parts.{read_which, goes_below, write_d, writes_below, is_copy}
use Rattle.transfer.proofs.Settling.{open_place, source_names, shared_nodes_quiet}
use Rattle.transfer.proofs.Spilling.{spills}

first : (p : Program) → Quiet (admitted p)
first p i v x s = absurd (both_ways _ (rw (open_place p.vars (row_of p i).d) refl) s)

module _ (m : Model) (lawful : Lawful m) (w : Working) (start : ℕ → ℕ) (st : Standing w start) (three : ThreeClasses w) where
  -- members of a node that a round spills, one written while the other is live
  shared : (i v : ℕ) → (shape (row_of w.source i).op).d ≡ true → lives_before w.source.rows (suc i) v ≡ true → (v ≡ (row_of w.source i).d → ⊥) →
      has (round_of m w).spilled (node_at (round_of m w).graph v) ≡ true → node_at (round_of m w).graph v ≡ node_at (round_of m w).graph (row_of w.source i).d →
      (copies (row_of w.source i).op ≡ true) × (v ≡ (row_of w.source i).a)
  unfolding round_of round
  shared i v x h ne out same =
      let rows = w.source.rows in
      let sp : Spills w (round_of m w) = spills m w start st lawful three in
      let wr : written_at w.source.rows i (row_of w.source i).d ≡ true = write_d (row_of w.source i) x in
      let l : i < source_rows w = writes_inside w.source.rows i (row_of w.source i).d wr in
      let lv : lives_after w.source.rows i v ≡ true = after_each w.source.rows i (suc i) v (goes_below i (row_of w.source i) (writes_below _ x).1) h in
      let sn = source_names w.source st.well_formed in
      let small : v < w.source.vars = omega (arith, sn.below v (live_node w.source.classes (unspilled (admitted w.source)) w.source.rows sn i v lv), st.well_formed.each) in
      let dl : (row_of w.source i).d < w.source.vars = (st.well_formed.rows i l).d.within x in
      let uv : Unplaced w v = (small, sp.members v small out) in
      let ud : Unplaced w (row_of w.source i).d = (dl, sp.members (row_of w.source i).d dl (subst (λ (n : ℕ). has (round_of m w).spilled n ≡ true) same out)) in
      elim (cases_Bool (copies_from w.source.rows i v)) [
        | inr c ↦ absurd (shared_nodes_quiet m w start st (row_of w.source i).d v ud uv (sym same) (i, inl ((wr, lv, λ e. ne (sym e)), c)))
        | inl c ↦ (let (cp, r) = and_parts (copies (row_of w.source i).op) _ c in
            elim (read_which (row_of w.source i) v r) [
              | inl (_, e) ↦ (cp, e)
              | inr (b, _) ↦ absurd (true≢false (sym b ∙ ap (λ (o : Op). (shape o).b) (is_copy _ cp)))
            ])
      ]

  pub later : SlotsByNode w (round_of m w) → Quiet w → Quiet (rewritten w (round_of m w))
  unfolding rewritten
  later by q i v x sd h ne sv e = elim (by v (row_of w.source i).d sv sd e) [
    | inl (ov, od, oe) ↦ q i v x od h ne ov oe
    | inr (out, same) ↦ shared i v x h ne out same
  ]

pub harmless : (w : Working) (start : ℕ → ℕ) → Standing w start → Quiet w → Shares w.source (lives_before w.source.rows) w.places
harmless w start st q = record {
  alone = q;
  few = λ v l s. omega (arith, st.slot v s, st.slots, count_le (spilled w.places) w.source.vars, st.well_formed.vars);
}

pub sharing_harmless : SharingHarmless
sharing_harmless = record { first = first; later = later; harmless = harmless }
