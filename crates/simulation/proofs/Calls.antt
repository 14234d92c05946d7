-- Any list of calls.
use Rattle.std.proofs.Common.{◌≡◌, ℕ, zero, suc, ◌+◌, ◌<◌, ◌≤◌, false, cond, ◌⊎◌, List, [], ◌∷◌, Ok, Err, Result, sym, refl, ap, ◌∙◌, subst, inl, inr, add-zero, add-suc}
use Rattle.std.proofs.lemmas.Bool.{cases_Bool, cond-true, cond-false, and_right, both_ways}
use Rattle.faults.specs.declared.PlayerFault.{PlayerFault}
use Rattle.rows.specs.declared.Row.{Row}
use Rattle.rows.specs.Rows.{shape, bits, Program, row_at}
use Rattle.registers.specs.Model.{Model}
use Rattle.compiling.specs.Working.{Compiled}
use Rattle.machine.specs.declared.Played.{Played}
use Rattle.machine.specs.Machine.{is_running}
use Rattle.machine.specs.Players.{Player, fresh, running, writes_now, stepped, run, rows_played, Steps, Runs}
use Rattle.machine.specs.Rehearsal.{Rehearsal, opened, restarted, Call, Restart, PlaySource, PlayCode, Served, Does, Event, Rehearsed, Counts, no_counts, counted, tally}
use Rattle.machine.specs.Agreement.{Begins, Agrees, SameAnswers}
use Rattle.machine.proofs.Effects.{rests}
use Rattle.simulation.specs.Static.{row_of, Static, StaticAgrees}
use Rattle.simulation.proofs.Effects.{step_rests}
use Rattle.simulation.proofs.Carry.{Plays}
use Rattle.simulation.proofs.Coded.{is_code}
use Rattle.simulation.proofs.Whole.{turns, Chain, Met, Starts, Even, chain_join, agrees}

turns_front : (w : ℕ → Row) (p : Player) (k : ℕ) → turns w (stepped w p) k ≡ turns w p (suc k)
turns_front w p zero = refl
turns_front w p (suc k) = ap (stepped w) (turns_front w p k)

turns_rests : (w : ℕ → Row) (p : Player) (k : ℕ) → running p ≡ false → turns w p k ≡ p
turns_rests w p zero z = refl
turns_rests w p (suc k) z = ap (stepped w) (turns_rests w p k z) ∙ step_rests w p z

turns_add : (w : ℕ → Row) (p : Player) (a b : ℕ) → turns w p (a + b) ≡ turns w (turns w p a) b
turns_add w p a zero = ap (turns w p) (add-zero a)
turns_add w p a (suc b) = ap (turns w p) (add-suc a b) ∙ ap (stepped w) (turns_add w p a b)

-- an ended player rests, so rows asked for and rows played come to the same
run_zero : (w : ℕ → Row) (p : Player) → run w p 0 ≡ p
unfolding run
run_zero w p = refl

run_suc : (w : ℕ → Row) (n : ℕ) (p : Player) → run w p (suc n) ≡ cond (running p) (run w (stepped w p) n) p
unfolding run
run_suc w n p = refl

run_turns : (w : ℕ → Row) (n : ℕ) (p : Player) → run w p n ≡ turns w p n
run_turns w zero p = run_zero w p
run_turns w (suc n) p = run_suc w n p ∙ elim (cases_Bool (running p)) [
  | inl z ↦ cond-true _ _ _ z ∙ run_turns w n (stepped w p) ∙ turns_front w p n
  | inr z ↦ cond-false _ _ _ z ∙ sym (turns_rests w p (suc n) z)
]

rows_zero : (w : ℕ → Row) (p : Player) → rows_played w p 0 ≡ 0
unfolding rows_played
rows_zero w p = refl

rows_suc : (w : ℕ → Row) (n : ℕ) (p : Player) → rows_played w p (suc n) ≡ cond (running p) (suc (rows_played w (stepped w p) n)) 0
unfolding rows_played
rows_suc w n p = refl

turns_rows : (w : ℕ → Row) (n : ℕ) (p : Player) → turns w p (rows_played w p n) ≡ turns w p n
turns_rows w zero p = ap (turns w p) (rows_zero w p)
turns_rows w (suc n) p = ap (turns w p) (rows_suc w n p) ∙ elim (cases_Bool (running p)) [
  | inl z ↦ ap (turns w p) (cond-true _ _ _ z) ∙ sym (turns_front w p (rows_played w (stepped w p) n)) ∙ turns_rows w n (stepped w p) ∙ turns_front w p n
  | inr z ↦ ap (turns w p) (cond-false _ _ _ z) ∙ sym (turns_rests w p (suc n) z)
]

module _ (f : Model) (code : ℕ → Row) where
  steps_plays : (c e : Player) → Steps f code c e → Plays f code c e
  steps_plays c e st = record {
    row_is = st.row;
    shared_is = st.shared;
    keeps = st.kept;
    writes = λ z b. (st.written z).taken b;
    spares = λ z s o. (st.written z).kept s o;
  }

  rest_plays : (c : Player) → running c ≡ false → Plays f code c c
  rest_plays c z =
      let u = rests (code c.row) (c.numbers (code c.row).a) (c.numbers (code c.row).b) c.shared z in
      let off : writes_now code c ≡ false = rw u (and_right (shape (code c.row).op).d false refl) in
      record {
        row_is = rw u refl;
        shared_is = rw u refl;
        keeps = λ _. refl;
        writes = λ y. absurd (both_ways (writes_now code c) off y);
        spares = λ y. absurd (both_ways (writes_now code c) off y);
      }

  rest_chain : (k : ℕ) (c : Player) → running c ≡ false → Chain f code c k c
  rest_chain zero c z = refl
  rest_chain (suc k) c z = (c, rest_plays c z, rest_chain k c z)

  runs_asked : (n k : ℕ) (c e : Player) → Runs f code c n k e → Chain f code c n e
  runs_asked zero k c e (_, q) = sym q
  runs_asked (suc n) k c e (inl (off, _, q)) = subst (λ y. Chain f code c (suc n) y) (sym q) (rest_chain (suc n) c off)
  runs_asked (suc n) k c e (inr (_, (x, j, st, more, _))) = (x, steps_plays c x st, runs_asked n j x e more)

  runs_played : (n k : ℕ) (c e : Player) → Runs f code c n k e → Chain f code c k e
  runs_played zero k c e (z, q) = rw z (sym q)
  runs_played (suc n) k c e (inl (_, z, q)) = rw z (sym q)
  runs_played (suc n) k c e (inr (_, (x, j, st, more, q))) = rw q (x, steps_plays c x st, runs_played n j x e more)

module _ (s : Program) (rows : List Row) (f : Model) where
  -- where both sides started, and how they came here: by the rows asked for, and by the rows played
  record Kept (t : Rehearsal) (k : Counts) : Type 0 where
    source_rows : t.source_rows ≡ s.rows
    code_rows : t.code_rows ≡ rows
    p₀ : Player
    c₀ : Player
    starts : Starts p₀ c₀
    p_asked : t.source ≡ turns (row_of s) p₀ k.source_asked
    p_played : t.source ≡ turns (row_of s) p₀ k.source_played
    c_asked : Chain f (row_at rows) c₀ k.code_asked t.code
    c_played : Chain f (row_at rows) c₀ k.code_played t.code

  fresh_starts : (numbers slots σ : ℕ → ℕ) (xs : List ℕ) → Starts (fresh (λ _. 0) slots xs) (fresh numbers σ xs)
  fresh_starts numbers slots σ xs = record { p_row = refl; c_row = refl; p_numbers = λ _. refl; input = refl; output = refl; p_outcome = refl; c_outcome = refl }

  starting : (r : Rehearsal) (k : Counts) (xs : List ℕ) → Kept r k → Kept (restarted xs r) no_counts
  starting r k xs kp = record {
    source_rows = kp.source_rows;
    code_rows = kp.code_rows;
    p₀ = fresh (λ _. 0) (λ _. 0) xs;
    c₀ = fresh r.code.numbers r.code.shared.slots xs;
    starts = fresh_starts r.code.numbers (λ _. 0) r.code.shared.slots xs;
    p_asked = refl;
    p_played = refl;
    c_asked = refl;
    c_played = refl;
  }

  served : (x : Call) (r : Rehearsal) (a : Played) (t : Rehearsal) (k : Counts) → Served f x r a t → Kept r k → Kept t (counted k x (Ok a))
  served (Restart xs) r a t k (_, q) kp = subst (λ y. Kept y no_counts) (sym q) (starting r k xs kp)
  served (PlaySource n) r a t k (aq, tq) kp =
      let now : t.source ≡ turns (row_of s) r.source n = ap (λ y. y.source) tq ∙ ap (λ l. run (row_at l) r.source n) kp.source_rows ∙ run_turns (row_of s) n r.source in
      let all : a.rows ≡ rows_played (row_of s) r.source n = ap (λ y. y.rows) aq ∙ ap (λ l. rows_played (row_at l) r.source n) kp.source_rows in
      record {
        source_rows = ap (λ y. y.source_rows) tq ∙ kp.source_rows;
        code_rows = ap (λ y. y.code_rows) tq ∙ kp.code_rows;
        p₀ = kp.p₀;
        c₀ = kp.c₀;
        starts = kp.starts;
        p_asked = now ∙ ap (λ q. turns (row_of s) q n) kp.p_asked ∙ sym (turns_add (row_of s) kp.p₀ k.source_asked n);
        p_played = now ∙ sym (turns_rows (row_of s) n r.source) ∙ ap (turns (row_of s) r.source) (sym all) ∙ ap (λ q. turns (row_of s) q a.rows) kp.p_played ∙ sym (turns_add (row_of s) kp.p₀ k.source_played a.rows);
        c_asked = subst (λ y. Chain f (row_at rows) kp.c₀ k.code_asked y) (sym (ap (λ y. y.code) tq)) kp.c_asked;
        c_played = subst (λ y. Chain f (row_at rows) kp.c₀ k.code_played y) (sym (ap (λ y. y.code) tq)) kp.c_played;
      }
  served (PlayCode n) r a t k (rn, _, tq) kp =
      let runs : Runs f (row_at rows) r.code n a.rows t.code = subst (λ l. Runs f (row_at l) r.code n a.rows t.code) kp.code_rows rn in
      record {
        source_rows = ap (λ y. y.source_rows) tq ∙ kp.source_rows;
        code_rows = ap (λ y. y.code_rows) tq ∙ kp.code_rows;
        p₀ = kp.p₀;
        c₀ = kp.c₀;
        starts = kp.starts;
        p_asked = ap (λ y. y.source) tq ∙ kp.p_asked;
        p_played = ap (λ y. y.source) tq ∙ kp.p_played;
        c_asked = chain_join f (row_at rows) k.code_asked n (k.code_asked + n) kp.c₀ r.code t.code refl kp.c_asked (runs_asked f (row_at rows) n a.rows r.code t.code runs);
        c_played = chain_join f (row_at rows) k.code_played a.rows (k.code_played + a.rows) kp.c₀ r.code t.code refl kp.c_played (runs_played f (row_at rows) n a.rows r.code t.code runs);
      }

  did : (x : Call) (r t : Rehearsal) (a : Result Played PlayerFault) (k : Counts) → Does f x r a t → Kept r k → Kept t (counted k x a)
  did x r t (Ok a) k (_, sv) kp = served x r a t k sv kp
  did x r t (Err e) k (_, _, q) kp = subst (λ y. Kept y k) (sym q) kp

  kept : (es : List Event) (r t : Rehearsal) (k : Counts) → Rehearsed f es r t → Kept r k → Kept t (tally k es)
  unfolding tally
  kept [] r t k q kp = subst (λ y. Kept y k) (sym q) kp
  kept (e ∷ es) r t k (x, d, more) kp = kept es x t (counted k e.call e.answer) more (did e.call r x e.answer k d kp)

  -- what came about by matching runs agrees
  conclude : Met s f (row_at rows) → (t : Rehearsal) (k : Counts) → Kept t k → Agrees t k
  conclude met t k kp =
      let one = agrees s f (row_at rows) met kp.p₀ kp.c₀ kp.starts in
      record {
        outputs = subst (λ y. Begins y.shared.output t.code.shared.output ⊎ Begins t.code.shared.output y.shared.output) (sym kp.p_asked) (one k.source_asked k.code_asked t.code kp.c_asked).0;
        by_source = λ z h.
            let even : Even t.source t.code = subst (λ y. Even y t.code) (sym kp.p_played) ((one k.source_played k.code_asked t.code kp.c_asked).1 (ap running (sym kp.p_played) ∙ z) h) in
            record { source_ended = z; code_ended = ap is_running even.0 ∙ z; outcomes = sym even.0; outputs = sym even.1 };
        by_code = λ z h.
            let even : Even t.source t.code = subst (λ y. Even y t.code) (sym kp.p_asked) ((one k.source_asked k.code_played t.code kp.c_played).2 z h) in
            record { source_ended = ap is_running (sym even.0) ∙ z; code_ended = z; outcomes = sym even.0; outputs = sym even.1 };
      }

-- a bank of the file meets what the file meets
meets : (c : Compiled) (file : Model) → Static c file → (bank : Model) → SameAnswers bank file → Met c.source bank (row_at c.rows)
meets c file st bank same = record {
  h = st.last.places;
  w = row_at st.last.rows;
  start = st.start;
  live = st.live;
  live_w = st.live_last;
  reg = st.reg;
  sound = st.sound;
  lively = st.lively;
  none_live = st.entry;
  slots_ok = st.shares;
  stands = st.stands;
  at_first = st.first;
  lively_w = st.lively_last;
  apart = record {
    apart = λ i v d l ne. elim (st.apart.apart i v d l ne) [ inl q ↦ inl (same.overlaps (st.reg (row_at st.last.rows i).d) (st.reg v) ∙ q) | inr q ↦ inr q ];
    there = λ i d. subst (λ n. st.reg (row_at st.last.rows i).d < n) (sym same.count) (st.lawful.outside _ _ (st.apart.belongs i d)).0;
    wide = λ i d. subst (λ n. bits (row_at st.last.rows i).dclass ≤ n) (sym (same.width (st.reg (row_at st.last.rows i).d))) (st.lawful.wide _ _ (st.apart.belongs i d));
  };
  self = λ r b. same.overlaps r r ∙ st.lawful.self r (subst (λ n. r < n) same.count b);
  is_code = is_code st.reg st.last.rows c.rows st.targets st.code;
}

pub static_agrees : StaticAgrees
static_agrees c file st bank same numbers slots es t re =
    let opens : Kept c.source c.rows bank (opened c numbers slots) no_counts = record {
      source_rows = refl;
      code_rows = refl;
      p₀ = fresh (λ _. 0) (λ _. 0) [];
      c₀ = fresh numbers slots [];
      starts = fresh_starts c.source c.rows bank numbers (λ _. 0) slots [];
      p_asked = refl;
      p_played = refl;
      c_asked = refl;
      c_played = refl;
    } in
    conclude c.source c.rows bank (meets c file st bank same) t (tally no_counts es) (kept c.source c.rows bank es (opened c numbers slots) t no_counts re opens)
