-- The static record of a compiled program.
use Rattle.std.proofs.Common.{◌≡◌, ℕ, suc, true, false, List, Ok, sym, subst, inl, arith}
use Rattle.rows.specs.Rows.{row_at, Program}
use Rattle.packing.proofs.Back.{reads_well}
use Rattle.admission.specs.Admission.{admitting}
use Rattle.registers.specs.Model.{Model, Lawful}
use Rattle.rounds.specs.Round.{Outcome, colours}
use Rattle.compiling.specs.Working.{Working, Compiled, admitted, round_of}
use Rattle.compiling.specs.Emit.{registers_of, emitted}
use Rattle.compiling.specs.Compile.{compiling}
use Rattle.interfering.specs.Living.{lives_before}
use Rattle.interfering.proofs.Starting.{admitted_read}
use Rattle.simulation.specs.Static.{Sound, Lively, Static, row_of}
use Rattle.simulation.proofs.Inside.{emitted_rows}
use Rattle.simulation.proofs.Calls.{static_agrees}
use Rattle.standing.proofs.Sources.{well_formed_sound}
use Rattle.assembling.specs.Assembling.{InOrder, register_in}
use Rattle.assembling.specs.Rounds.{turn, Ends, Reached}
use Rattle.assembling.specs.Whole.{AdmittedSound, Footing, Upright, StaticMet, CompiledAgrees}
use Rattle.assembling.proofs.Lively.{live_lively, admitted_lively}
use Rattle.assembling.proofs.Apart.{registers_apart}
use Rattle.assembling.proofs.Rounds.{few_rounds, emitted_rounds}

-- ---- an admitted program is sound

pub admitted_sound : AdmittedSound
admitted_sound bs p h = well_formed_sound p (reads_well bs p (admitted_read bs p h))

-- ---- the record

module _ (files : ℕ → Model) (lawful : (i : ℕ) → Lawful (files i)) (bs : List ℕ) (p : Program) (read : admitting bs ≡ Ok p) where
  -- of the code of a working program whose round colours
  emitted_meets : (w : Working) → w.source ≡ p → InOrder (files (suc w.rounds)) w → Footing w → colours (turn files w) ≡ true → Static (emitted w (turn files w)) (files (suc w.rounds))
  unfolding emitted
  emitted_meets w is-p ok st done = record {
    last = w;
    reg = register_in (files (suc w.rounds)) w;
    live = lives_before w.source.rows;
    live_last = lives_before w.rows;
    start = st.start;
    lawful = lawful (suc w.rounds);
    sound = subst Sound (sym is-p) (admitted_sound bs p read);
    lively = subst (λ (q : Program). Lively (row_of q) (lives_before q.rows)) (sym is-p) (admitted_lively bs p read).0;
    entry = subst (λ (q : Program). (v : ℕ) → lives_before q.rows 0 v ≡ false) (sym is-p) (admitted_lively bs p read).1;
    shares = st.shares;
    first = st.first;
    stands = st.stands;
    lively_last = live_lively w.rows (λ i v r. omega (arith, ok.names.below v (ok.names.named i v (inl r)), st.small));
    apart = registers_apart (files (suc w.rounds)) w ok done;
    targets = st.targets;
    code = emitted_rows w (turn files w);
  }

  pub compiled_meets : Upright files p → Static (compiling files p) (files (compiling files p).rounds)
  compiled_meets up =
      let e = few_rounds files p (λ w r. (up w r).0) in
      let w = e.last in
      let (ok, st) = up w e.has_P in
      subst (λ (c : Compiled). Static c (files c.rounds)) (sym e.code)
      (subst (λ (k : ℕ). Static (emitted w (turn files w)) (files k)) (sym (emitted_rounds w (turn files w))) (emitted_meets w e.source ok st e.done))

pub static_met : StaticMet
static_met files lawful bs p read up = compiled_meets files lawful bs p read up

pub compiled_agrees : CompiledAgrees
compiled_agrees files lawful bs p read up = static_agrees (compiling files p) (files (compiling files p).rounds) (static_met files lawful bs p read up)
