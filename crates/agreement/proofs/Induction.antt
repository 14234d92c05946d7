-- Over the rounds: source rows stand in every working program and slots are shared harmlessly, so every round finds its program in order.
use Rattle.std.proofs.Common.{◌≡◌, ℕ, zero, suc, ◌≤◌, List, [], ◌∷◌, map, length, get_or, Ok, Err, Result, sym, refl, ◌∙◌, subst, inl, inr, arith}
use Rattle.std.proofs.lemmas.List.{length-map}
use Rattle.std.proofs.lemmas.Bool.{cases_Bool}
use Rattle.faults.specs.declared.ProgramFault.{ProgramFault}
use Rattle.rows.specs.declared.Row.{Row}
use Rattle.rows.specs.Rows.{Program}
use Rattle.packing.specs.Inverse.{WellFormed}
use Rattle.packing.proofs.Back.{reads_well}
use Rattle.admission.specs.Admission.{admitting}
use Rattle.registers.specs.Model.{Model, Lawful}
use Rattle.compiling.specs.Working.{Working, Compiled, admitted, round_of}
use Rattle.compiling.specs.Rewrite.{rewritten}
use Rattle.rounds.specs.Round.{Outcome}
use Rattle.compiling.specs.Blocks.{flat, starts, moved, assembled}
use Rattle.compiling.specs.Emit.{registers_of, idle, code_block, emitted}
use Rattle.compiling.specs.Compile.{compiled_by, compiling, compile_with}
use Rattle.machine.specs.Agreement.{Agreement, Agreeing}
use Rattle.interfering.proofs.Starting.{admitted_read}
use Rattle.standing.specs.Standing.{Standing, Bounded, starts_after}
use Rattle.standing.proofs.Sources.{admitted_stands}
use Rattle.standing.proofs.Keeping.{rewritten_stands, standing_bounded, jumps_inside, standing_stands}
use Rattle.standing.proofs.Slots.{slot_of_node}
use Rattle.transfer.specs.Paired.{ThreeClasses}
use Rattle.transfer.specs.Sharing.{Quiet}
use Rattle.transfer.proofs.Pairing.{in_order}
use Rattle.transfer.proofs.Settling.{rounds_settle}
use Rattle.transfer.proofs.Spilling.{rounds_spill}
use Rattle.transfer.proofs.Sharing.{sharing_harmless}
use Rattle.assembling.specs.Rounds.{turn, worked, Hoped, Ends, Reached}
use Rattle.assembling.specs.Whole.{Upright}
use Rattle.assembling.proofs.Rounds.{few_rounds}
use Rattle.assembling.proofs.Whole.{compiled_agrees}
use Rattle.agreement.specs.Keeping.{Prompt, Promptness}

-- what every round keeps
pub record Held (w : Working) : Type 0 where
  pub start : ℕ → ℕ
  pub standing : Standing w start
  pub quiet : Quiet w

pub three_classes : (w : Working) (start : ℕ → ℕ) → Standing w start → ThreeClasses w
three_classes w start st v = omega (arith, st.small v)

first_held : (p : Program) → WellFormed p → Held (admitted p)
first_held p well = record { start = λ i. i; standing = admitted_stands p well; quiet = sharing_harmless.first p }

next_held : (m : Model) → Lawful m → (w : Working) → Held w → Held (rewritten w (round_of m w))
next_held m lawful w h =
    let st = h.standing in
    let three = three_classes w h.start st in
    let sp = rounds_spill m lawful w h.start st three in
    record {
      start = λ i. starts_after w (round_of m w) (h.start i);
      standing = rewritten_stands w h.start (round_of m w) st sp;
      quiet = sharing_harmless.later m lawful w h.start st three (slot_of_node w h.start (round_of m w) st sp) h.quiet;
    }

module _ (files : ℕ → Model) (lawful : (i : ℕ) → Lawful (files i)) (p : Program) (well : WellFormed p) where
  held_after : (k : ℕ) → Held (worked files k (admitted p))
  unfolding worked
  held_after zero = first_held p well
  held_after (suc k) = let before = worked files k (admitted p) in next_held (files (suc before.rounds)) (lawful (suc before.rounds)) before (held_after k)

  pub held : (w : Working) → Reached files p w → Held w
  held w (k, is, _) = subst Held (sym is) (held_after k)

  pub upright : Upright files p
  upright w r =
      let h = held w r in
      let start = h.start in
      let st = h.standing in
      let (names, alike) = in_order w start st in (
        record {
          names = names;
          alike = alike;
          classed = st.class_d;
          settled = rounds_settle (files (suc w.rounds)) (lawful (suc w.rounds)) w start st (three_classes w start st);
        },
        record {
          start = start;
          shares = sharing_harmless.harmless w start st h.quiet;
          first = st.first;
          stands = standing_stands w start st;
          targets = jumps_inside w start st;
          small = (standing_bounded w start st).most_classes;
        },
      )

  pub ends : Ends files (Reached files p) p (compiling files p)
  ends = few_rounds files p (λ w r. (upright w r).0)

-- what compiles was admitted
by_admission : (files : ℕ → Model) (x : Result Program ProgramFault) (c : Compiled) → compiled_by files x ≡ Ok c → (p : Program) × (x ≡ Ok p) × (c ≡ compiling files p)
by_admission files (Ok p) c h = (p, refl, (cc))
by_admission files (Err e) c h = absurd (let z : ◌≡◌ {A = ℕ} 0 1 = cc in omega arith)

pub admitted_first : (files : ℕ → Model) (bs : List ℕ) (c : Compiled) → compile_with files bs ≡ Ok c → (p : Program) × (admitting bs ≡ Ok p) × (c ≡ compiling files p)
unfolding compile_with
admitted_first files bs c h = by_admission files (admitting bs) c h

pub agreement : Agreement
agreement files lawful bs c h =
    let (p, read, is) = admitted_first files bs c h in
    let well = reads_well bs p (admitted_read bs p read) in
    subst (λ (x : Compiled). Agreeing x (files x.rounds)) (sym is) (compiled_agrees files lawful bs p read (upright files lawful p well))

-- ---- how long the code is

flat_short : (reg : ℕ → ℕ) (rows : List Row) → length (flat (map (code_block reg) rows)) ≤ length rows
unfolding flat
flat_short reg [] = omega arith
flat_short reg (r ∷ rs) =
    let more = flat_short reg rs in
    elim (cases_Bool (idle reg r)) [
      | inl e ↦ rw e (omega (arith, more))
      | inr e ↦ rw e (omega (arith, more))
    ]

code_short : (reg : ℕ → ℕ) (rows : List Row) → length (assembled (map (code_block reg) rows)) ≤ length rows
unfolding assembled
code_short reg rows =
    let bs : List (List Row) = map (code_block reg) rows in
    rw (length-map (flat bs) (moved (starts 0 bs))) (flat_short reg rows)

emitted_prompt : (w : Working) (o : Outcome) → Bounded w → (emitted w o).rounds ≤ suc w.source.vars → Hoped (emitted w o).places → Prompt (emitted w o)
unfolding emitted
emitted_prompt w o small few hoped =
    let short = code_short (λ v. get_or (registers_of o) v 0) w.rows in
    record {
      rounds = few;
      hoped = hoped;
      rows = omega (arith, short, small.rows);
      most_rows = omega (arith, short, small.most_rows);
      slots = small.slots;
      most_slots = small.most_slots;
    }

pub promptness : Promptness
promptness files lawful bs c h =
    let (p, read, is) = admitted_first files bs c h in
    let well = reads_well bs p (admitted_read bs p read) in
    let e = ends files lawful p well in
    let w = e.last in
    let all = held files lawful p well w e.has_P in
    subst Prompt (sym (is ∙ e.code)) (emitted_prompt w (turn files w) (standing_bounded w all.start all.standing)
    (subst (λ (q : Program). (emitted w (turn files w)).rounds ≤ suc q.vars) (sym e.source) (subst (λ (x : Compiled). x.rounds ≤ suc p.vars) e.code e.few))
    (subst (λ (x : Compiled). Hoped x.places) e.code e.hoped))
