-- What rounds keep of every working program, from admission on.
use Rattle.std.proofs.Common.{◌≡◌, ℕ, suc, ◌+◌, ◌-◌, ◌<◌, ◌≤◌, Bool, true, false, cond, not, List, [], ◌∷◌, length, sym, refl, ap, ◌∙◌, subst, inl, inr, arith}
use Rattle.std.proofs.lemmas.Bool.{cases_lt, cases_eq, both_ways}
use Rattle.counting.proofs.Sums.{count_le}
use Rattle.rows.specs.declared.Row.{Row}
use Rattle.rows.specs.Rows.{shape, Program, row_at}
use Rattle.packing.specs.Inverse.{WellFormed}
use Rattle.packing.proofs.Back.{reads_well}
use Rattle.registers.specs.Model.{Model, Lawful}
use Rattle.rounds.specs.Round.{Outcome, colours}
use Rattle.compiling.specs.Working.{Working, admitted, spilled, round_of}
use Rattle.compiling.specs.Blocks.{assembled}
use Rattle.compiling.specs.Spill.{Order, spill_order}
use Rattle.compiling.specs.Rewrite.{class_in, rewritten}
use Rattle.interfering.proofs.Starting.{admitted_read}
use Rattle.simulation.specs.Static.{row_of}
use Rattle.simulation.proofs.Inside.{past}
use Rattle.standing.specs.Standing.{source_rows, line_of, Named, Standing, starts_after}
use Rattle.standing.proofs.Parts as parts
use Rattle.standing.proofs.Sources.{ends_bare, starts_inside, high, admitted_stands}
use Rattle.standing.proofs.Keeping.{rewritten_stands, standing_bounded, jumps_inside}
use Rattle.transfer.proofs.Blocks.{found}
use Rattle.transfer.proofs.Pairing.{in_order}
use Rattle.transfer.proofs.Settling.{rounds_settle}
use Rattle.transfer.proofs.Spilling.{rounds_spill}
use Rattle.assembling.specs.Assembling.{InOrder}
use Rattle.assembling.specs.Rounds.{unplaced}
use Rattle.assembling.proofs.Rounds.{rewritten_source, rewritten_rounds, fewer}
use Rattle.agreement.proofs.Induction.{three_classes}
use Rattle.players.specs.Scripts.{Inside}
use Rattle.histories.specs.Histories.{Grown, Fitting, GrownFits, RoundsProgress}

-- ---- weights and classes

-- weights below 4, and classes byte, half and word
abbrev pub Light : List Row → Type 0
Light rows = (i : ℕ) → ((row_at rows i).weight ≤ 3) × ((row_at rows i).dclass ≤ 2)

pub beyond : (rows : List Row) (i : ℕ) → length rows ≤ i → ((row_at rows i).weight ≤ 3) × ((row_at rows i).dclass ≤ 2)
beyond rows i h = rw (past rows i h) (omega arith, omega arith)

used_small : (b : Bool) (x : ℕ) → x ≤ 2 → cond b x 0 ≤ 2
used_small true x h = h
used_small false x h = omega arith

pub source_light : (p : Program) → WellFormed p → Light p.rows
source_light p well i = elim (cases_lt i (length p.rows)) [
  | inr l ↦ beyond p.rows i l
  | inl l ↦ (let r = well.rows i l in
      (r.weight, omega (arith, r.dclass, used_small (shape (row_at p.rows i).op).d _ ((admitted_stands p well).small (row_at p.rows i).d))))
]

module _ (s : Order) (classes : List ℕ) (rows : List Row) (small : (v : ℕ) → class_in classes v ≤ 2) (light : Light rows) where
  abbrev made : ℕ → Row
  made q = parts.made s classes rows q

  like : (q : ℕ) (r : Row) → made q ≡ r → (r.weight ≤ 3) → (r.dclass ≤ 2) → ((made q).weight ≤ 3) × ((made q).dclass ≤ 2)
  like q r e x y = rw e (x, y)

  light_made : Light (assembled (parts.bs s classes rows))
  light_made q = elim (cases_lt q (length (assembled (parts.bs s classes rows)))) [
    | inr l ↦ beyond (assembled (parts.bs s classes rows)) q l
    | inl l ↦ (let (p, _, _, k) = parts.came s classes rows q l in elim k [
      | inl (_, _, e) ↦ like q (parts.load_a s classes rows p) e (light p).0 (small _)
      | inr (inl (_, _, e)) ↦ like q (parts.load_b s classes rows p) e (light p).0 (small _)
      | inr (inr (inl (_, e))) ↦ like q (parts.core_of s classes rows p) e (light p).0 (light p).1
      | inr (inr (inr (_, _, e))) ↦ like q (parts.store_d s classes rows p) e (light p).0 (omega arith)
    ])
  ]

rewritten_light : (w : Working) (o : Outcome) → ((v : ℕ) → class_in w.classes v ≤ 2) → Light w.rows → Light (rewritten w o).rows
unfolding rewritten
rewritten_light w o small light = light_made (spill_order w o) w.classes w.rows small light

-- ---- over the rounds

pub record Kept (ms : List Model) (w : Working) : Type 0 where
  pub start : ℕ → ℕ
  pub standing : Standing w start
  pub light : Light w.rows
  pub rounds : w.rounds ≡ length ms
  pub few : length ms + unplaced w ≤ w.source.vars

ordered : (m : Model) → Lawful m → (w : Working) (start : ℕ → ℕ) → Standing w start → InOrder m w
ordered m lawful w start st = let (names, alike) = in_order w start st in
    record { names = names; alike = alike; classed = st.class_d; settled = rounds_settle m lawful w start st (three_classes w start st) }

first_kept : (p : Program) → WellFormed p → Kept [] (admitted p)
first_kept p well = record {
  start = λ i. i;
  standing = admitted_stands p well;
  light = source_light p well;
  rounds = refl;
  few = omega (arith, count_le (λ v. not (spilled (admitted p).places v)) p.vars);
}

next_kept : (m : Model) → Lawful m → (ms : List Model) (w : Working) → colours (round_of m w) ≡ false → Kept ms w → Kept (m ∷ ms) (rewritten w (round_of m w))
next_kept m lawful ms w none k =
    let st = k.standing in
    let o = round_of m w in
    let sp = rounds_spill m lawful w k.start st (three_classes w k.start st) in
    record {
      start = λ i. starts_after w o (k.start i);
      standing = rewritten_stands w k.start o st sp;
      light = rewritten_light w o st.small k.light;
      rounds = rewritten_rounds w o ∙ ap suc k.rounds;
      few = omega (arith, k.few, fewer m w (ordered m lawful w k.start st) none, ap (λ (p : Program). p.vars) (rewritten_source w o));
    }

pub kept : (ms : List Model) (bs : List ℕ) (w : Working) → Grown ms bs w → Kept ms w
kept [] bs w (p, read, is) = subst (Kept []) (sym is) (first_kept p (reads_well bs p (admitted_read bs p read)))
kept (m ∷ ms) bs w (v, g, lawful, none, is) = subst (Kept (m ∷ ms)) (sym is) (next_kept m lawful ms v none (kept ms bs v g))

pub rounds_progress : RoundsProgress
rounds_progress m ms bs w g lawful none = let k = kept ms bs w g in fewer m w (ordered m lawful w k.start k.standing) none

-- ---- where rows go on

module _ (w : Working) (start : ℕ → ℕ) (st : Standing w start) where
  last_stays : (i : ℕ) → suc i ≡ source_rows w → (shape (row_of w.source i).op).falls ≡ false
  last_stays i e = let z : i ≡ length w.source.rows - 1 = omega arith in ap (λ (j : ℕ). (shape (row_of w.source j).op).falls) z ∙ st.well_formed.last

  falls_inside : (q : ℕ) → q < length w.rows → (shape (line_of w q).op).falls ≡ true → suc q < length w.rows
  falls_inside q l x =
      let (i, n, il, lo, hi, f) = found w start st q l in
      elim (cases_eq (suc i) (source_rows w)) [
        | inr e ↦ omega (arith, starts_inside w start st (suc i) (omega arith))
        | inl e ↦ (let stays = last_stays i e in
            elim (cases_eq q (start i + n)) [
              | inl here ↦ absurd (both_ways _ (ap (λ (j : ℕ). (shape (line_of w j).op).falls) here ∙ (ap (λ o. (shape o).falls) f.block.op ∙ stays)) x)
              | inr before ↦ omega (arith, f.ends (ends_bare _ stays), high w start st i il)
            ])
      ]

  rows_inside : Inside w.rows
  rows_inside q l = (jumps_inside w start st q, falls_inside q l)

  low : (v : ℕ) → Named w v → v < length w.classes
  low v (inl (h, _)) = omega (arith, st.classes)
  low v (inr (_, h)) = h

  fits : Light w.rows → w.rounds ≤ w.source.vars → Fitting w
  fits light few =
      let b = standing_bounded w start st in
      record {
        vars = st.well_formed.vars;
        rows = b.most_rows;
        some = omega (arith, starts_inside w start st 0 st.well_formed.some);
        classes = b.most_classes;
        above = omega (arith, st.classes);
        slots = b.most_slots;
        rounds = few;
        places = st.places;
        tame = λ q. ((light q).0, λ x. omega (arith, low _ (st.named_d q x), b.most_classes));
        inside = rows_inside;
        numbers = λ q. (λ x. low _ (st.named_a q x), λ x. low _ (st.named_b q x), λ x. low _ (st.named_d q x));
      }

pub grown_fits : GrownFits
grown_fits ms bs w g = let k = kept ms bs w g in fits w k.start k.standing k.light (omega (arith, k.rounds, k.few))
