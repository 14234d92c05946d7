-- Histories and compile: rounds in turn come to what compile answers.
use Rattle.std.proofs.Common.{◌≡◌, ℕ, zero, suc, ◌+◌, ◌-◌, ◌≤◌, true, false, cond, eqb, List, [], ◌∷◌, length, replicate, Ok, sym, refl, ap, ◌∙◌, subst, inl, inr, arith}
use Rattle.std.proofs.lemmas.Bool.{cases_Bool, eq-eqb, ne_eqb, cond-true, cond-false}
use Rattle.rows.specs.Rows.{Program}
use Rattle.admission.specs.Admission.{admitting}
use Rattle.registers.specs.Model.{Model, Lawful}
use Rattle.rounds.specs.Round.{Outcome, colours}
use Rattle.compiling.specs.Working.{Working, Compiled, admitted, round_of}
use Rattle.compiling.specs.Rewrite.{rewritten}
use Rattle.compiling.specs.Emit.{emitted}
use Rattle.compiling.specs.Compile.{compiled_by, compiled_in, compiling, compile, compile_with}
use Rattle.machine.specs.Agreement.{Agreeing}
use Rattle.assembling.specs.Rounds.{turn}
use Rattle.assembling.proofs.Rounds.{rewritten_source, emitted_rounds}
use Rattle.agreement.proofs.Induction.{agreement, promptness}
use Rattle.histories.specs.Histories.{Grown, Finished, Along, HistoriesCompile, FinishedAgrees}
use Rattle.histories.proofs.Growing.{kept}

-- ---- the rounds of compile

module _ (files : ℕ → Model) where
  round_spills : (k : ℕ) (m : Model) (w : Working) → files (suc w.rounds) ≡ m → colours (round_of m w) ≡ false → compiled_in files (suc k) w ≡ compiled_in files k (rewritten w (round_of m w))
  unfolding compiled_in
  round_spills k m w e none =
      let same : turn files w ≡ round_of m w = ap (λ (x : Model). round_of x w) e in
      cond-false (colours (turn files w)) (emitted w (turn files w)) (compiled_in files k (rewritten w (turn files w))) (ap (λ (o : Outcome). colours o) same ∙ none)
      ∙ ap (λ (o : Outcome). compiled_in files k (rewritten w o)) same

  round_colours : (k : ℕ) (m : Model) (w : Working) → files (suc w.rounds) ≡ m → colours (round_of m w) ≡ true → compiled_in files (suc k) w ≡ emitted w (round_of m w)
  unfolding compiled_in
  round_colours k m w e done =
      let same : turn files w ≡ round_of m w = ap (λ (x : Model). round_of x w) e in
      cond-true (colours (turn files w)) (emitted w (turn files w)) (compiled_in files k (rewritten w (turn files w))) (ap (λ (o : Outcome). colours o) same ∙ done)
      ∙ ap (λ (o : Outcome). emitted w o) same

  -- with rounds enough, compiling comes past every working program on the way
  passes : (ms : List Model) (bs : List ℕ) (w : Working) → Along files ms → Grown ms bs w → (j k : ℕ) → j ≡ length ms + k →
      (p : Program) × (admitting bs ≡ Ok p) × (w.source ≡ p) × (compiled_in files j (admitted p) ≡ compiled_in files k w)
  passes [] bs w _ (p, read, is) j k e =
      let z : j ≡ k = omega arith in
      (p, read, ap (λ (x : Working). x.source) is, ap (λ (n : ℕ). compiled_in files n (admitted p)) z ∙ ap (compiled_in files k) (sym is))
  passes (m ∷ ms) bs w (f, along) (v, g, lawful, none, is) j k e =
      let (p, read, same, so) = passes ms bs v along g j (suc k) (omega arith) in (
        p,
        read,
        ap (λ (x : Working). x.source) is ∙ (rewritten_source v (round_of m v) ∙ same),
        so ∙ (round_spills k m v (ap (λ (n : ℕ). files (suc n)) (kept ms bs v g).rounds ∙ f) none ∙ ap (compiled_in files k) (sym is)),
      )

  answers : (bs : List ℕ) (p : Program) → admitting bs ≡ Ok p → compile_with files bs ≡ Ok (compiling files p)
  unfolding compile_with
  answers bs p read = ap (compiled_by files) read

  as_rounds : (p : Program) → compiling files p ≡ compiled_in files (suc p.vars) (admitted p)
  unfolding compiling
  as_rounds p = refl

  along : (m : Model) (ms : List Model) (bs : List ℕ) (c : Compiled) → Along files (m ∷ ms) → Finished m ms bs c → compile_with files bs ≡ Ok c
  along m ms bs c (f, rest) (w, g, lawful, done, is) =
      let k = kept ms bs w g in
      let left : ℕ = w.source.vars - length ms in
      let (p, read, same, so) = passes ms bs w rest g (suc w.source.vars) (suc left) (omega (arith, k.few)) in
      let ends = round_colours left m w (ap (λ (n : ℕ). files (suc n)) k.rounds ∙ f) done in
      answers bs p read ∙ ap Ok (as_rounds p ∙ (ap (λ (q : Program). compiled_in files (suc q.vars) (admitted p)) (sym same) ∙ (so ∙ (ends ∙ sym is))))

-- ---- a family of files for every history

-- the register files of a list, the last one first, each for its round; m for all others
abbrev in_turn : Model → List Model → ℕ → Model
in_turn m [] i = m
in_turn m (n ∷ ms) i = cond (eqb i (suc (length ms))) n (in_turn m ms i)

turns_along : (f g : ℕ → Model) (ms : List Model) → ((i : ℕ) → i ≤ length ms → g i ≡ f i) → Along f ms → Along g ms
turns_along f g [] same _ = tt
turns_along f g (m ∷ ms) same (e, rest) = (same (suc (length ms)) (omega arith) ∙ e, turns_along f g ms (λ i l. same i (omega arith)) rest)

in_turn_lem : (m : Model) (ms : List Model) → Along (in_turn m ms) ms
in_turn_lem m [] = tt
in_turn_lem m (n ∷ ms) = (
  cond-true (eqb (suc (length ms)) (suc (length ms))) n (in_turn m ms (suc (length ms))) (eq-eqb (suc (length ms)) (suc (length ms)) refl),
  turns_along (in_turn m ms) (in_turn m (n ∷ ms)) ms (λ i l. cond-false (eqb i (suc (length ms))) n (in_turn m ms i) (ne_eqb i (suc (length ms)) (λ e. omega arith))) (in_turn_lem m ms),
)

lawful_next : (m n : Model) (ms : List Model) → Lawful n → ((i : ℕ) → Lawful (in_turn m ms i)) → (i : ℕ) → Lawful (in_turn m (n ∷ ms) i)
lawful_next m n ms lawful rest i = elim (cases_Bool (eqb i (suc (length ms)))) [
  | inl e ↦ subst Lawful (sym (cond-true (eqb i (suc (length ms))) n (in_turn m ms i) e)) lawful
  | inr e ↦ subst Lawful (sym (cond-false (eqb i (suc (length ms))) n (in_turn m ms i) e)) (rest i)
]

lawful_turns : (m : Model) → Lawful m → (ms : List Model) (bs : List ℕ) (w : Working) → Grown ms bs w → (i : ℕ) → Lawful (in_turn m ms i)
lawful_turns m lawful [] bs w g = λ i. lawful
lawful_turns m lawful (n ∷ ms) bs w (v, g, lawful-n, _, _) = lawful_next m n ms lawful-n (lawful_turns m lawful ms bs v g)

-- one round more than those that spilled
finished_rounds : (m : Model) (ms : List Model) (bs : List ℕ) (c : Compiled) → Finished m ms bs c → c.rounds ≡ suc (length ms)
finished_rounds m ms bs c (w, g, _, _, is) = ap (λ (x : Compiled). x.rounds) is ∙ (emitted_rounds w (round_of m w) ∙ ap suc (kept ms bs w g).rounds)

some_files : (m : Model) (ms : List Model) (bs : List ℕ) (c : Compiled) → Finished m ms bs c → (files : ℕ → Model) × ((i : ℕ) → Lawful (files i)) × Along files (m ∷ ms) × (files c.rounds ≡ m)
some_files m ms bs c h =
    let (w, g, lawful, _, _) = h in
    let turns = in_turn_lem m (m ∷ ms) in
    (in_turn m (m ∷ ms), lawful_next m m ms lawful (lawful_turns m lawful ms bs w g), turns, ap (in_turn m (m ∷ ms)) (finished_rounds m ms bs c h) ∙ turns.0)

-- ---- one file in all rounds

along_same : (m : Model) (n : ℕ) → Along (λ _. m) (replicate n m)
along_same m zero = tt
along_same m (suc n) = (refl, along_same m n)

one_file : (m : Model) (ms : List Model) (bs : List ℕ) (c : Compiled) → Along (λ _. m) ms → Finished m ms bs c → compile m bs ≡ Ok c
unfolding compile
one_file m ms bs c same h = along (λ _. m) m ms bs c (refl, same) h

pub histories_compile : HistoriesCompile
histories_compile = record { along = along; some = some_files; one = one_file; same = along_same }

-- ---- agreement

pub finished_agrees : FinishedAgrees
finished_agrees m ms bs c h =
    let (files, lawful, turns, e) = some_files m ms bs c h in
    let answer = along files m ms bs c turns h in
    (subst (Agreeing c) e (agreement files lawful bs c answer), promptness files lawful bs c answer)
