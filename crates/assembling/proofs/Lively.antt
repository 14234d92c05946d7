-- Liveness as a static record has it.
use Rattle.std.proofs.Common.{◌≡◌, ℕ, zero, suc, ◌+◌, ◌<◌, ◌≤◌, Bool, true, false, cond, not, ◌&&◌, ◌||◌, eqb, ltb, ◌⊎◌, List, [], ◌∷◌, ◌++◌, length, get_or, Some, None, Ok, Err, Option, sym, refl, ap, ◌∙◌, subst, inl, inr, arith}
use Rattle.std.proofs.lemmas.Bool.{cases_Bool, cases_lt, cases_eq, both_ways, or_left, or_right, or_cases, and_from, and_parts, eq-eqb, ne_eqb, eqb-true, ltb-true, ltb-false, not_from_false}
use Rattle.sets.specs.Sets.{has, up_to}
use Rattle.sets.proofs.Members.{has_up_to}
use Rattle.rows.specs.declared.Op.{Op}
use Rattle.rows.specs.declared.Op.TheVariants.{End, Const, Copy, Add, Sub, And, Xor, Widen, Narrow, Input, Output, Jump, Less, Load, Store}
use Rattle.rows.specs.declared.Row.{Row}
use Rattle.rows.specs.Rows.{shape, only, copies, next, reads, writes, row_at, Program}
use Rattle.facts.specs.Flow.{holds}
use Rattle.packing.proofs.Back.{reads_well}
use Rattle.admission.specs.Admission.{admitting}
use Rattle.interfering.specs.Living.{read_at, written_at, goes_on, lives_before, lives_after}
use Rattle.interfering.proofs.Living.{live_below, after_each, before_holds}
use Rattle.interfering.proofs.Starting.{admitted_read, none_live_at_start}
use Rattle.merging.proofs.First.{admitted_in_order}
use Rattle.simulation.specs.Static.{Lively, row_of}
use Rattle.assembling.specs.Assembling.{Small, LiveLively, AdmittedLively}

-- ---- what rows read, write and go on to, by their fields

holds_left : (p q : Bool) (a b : ℕ) → p ≡ true → holds (only p a ++ only q b) a ≡ true
unfolding holds
holds_left true q a b h = or_left _ _ (eq-eqb a a refl)
holds_left false q a b h = absurd (both_ways false refl h)

holds_right : (p q : Bool) (a b : ℕ) → q ≡ true → holds (only p a ++ only q b) b ≡ true
unfolding holds
holds_right true true a b h = or_right (eqb b a) _ (or_left _ _ (eq-eqb b b refl))
holds_right false true a b h = or_left _ _ (eq-eqb b b refl)
holds_right p false a b h = absurd (both_ways false refl h)

holds_one : (p : Bool) (a : ℕ) → p ≡ true → holds (only p a) a ≡ true
unfolding holds
holds_one true a h = or_left _ _ (eq-eqb a a refl)
holds_one false a h = absurd (both_ways false refl h)

one_holds : (p : Bool) (a v : ℕ) → holds (only p a) v ≡ true → (p ≡ true) × (v ≡ a)
unfolding holds
one_holds true a v h = (refl, elim (or_cases (eqb v a) false h) [ inl e ↦ eqb-true v a e | inr e ↦ absurd (both_ways false refl e) ])
one_holds false a v h = absurd (both_ways false refl h)

pub reads_a : (rows : List Row) (i : ℕ) → (shape (row_at rows i).op).a ≡ true → read_at rows i (row_at rows i).a ≡ true
reads_a rows i h = holds_left (shape (row_at rows i).op).a (shape (row_at rows i).op).b (row_at rows i).a (row_at rows i).b h

pub reads_b : (rows : List Row) (i : ℕ) → (shape (row_at rows i).op).b ≡ true → read_at rows i (row_at rows i).b ≡ true
reads_b rows i h = holds_right (shape (row_at rows i).op).a (shape (row_at rows i).op).b (row_at rows i).a (row_at rows i).b h

pub writes_d : (rows : List Row) (i : ℕ) → (shape (row_at rows i).op).d ≡ true → written_at rows i (row_at rows i).d ≡ true
writes_d rows i h = holds_one (shape (row_at rows i).op).d (row_at rows i).d h

pub written_d : (rows : List Row) (i v : ℕ) → written_at rows i v ≡ true → ((shape (row_at rows i).op).d ≡ true) × (v ≡ (row_at rows i).d)
written_d rows i v h = one_holds (shape (row_at rows i).op).d (row_at rows i).d v h

pub goes_target : (rows : List Row) (i : ℕ) → (shape (row_at rows i).op).target ≡ true → goes_on rows i (row_at rows i).target ≡ true
goes_target rows i h = holds_left (shape (row_at rows i).op).target (shape (row_at rows i).op).falls (row_at rows i).target (suc i) h

pub goes_below : (rows : List Row) (i : ℕ) → (shape (row_at rows i).op).falls ≡ true → goes_on rows i (suc i) ≡ true
goes_below rows i h = holds_right (shape (row_at rows i).op).target (shape (row_at rows i).op).falls (row_at rows i).target (suc i) h

-- a row that writes falls, and has no target
pub writing_falls : (o : Op) → (shape o).d ≡ true → (shape o).falls ≡ true
writing_falls o h = grind arith

target_silent : (o : Op) → (shape o).target ≡ true → (shape o).d ≡ true → ⊥
target_silent Jump h k = both_ways false refl k
target_silent Less h k = both_ways false refl k
target_silent End h k = both_ways false refl k
target_silent Const h k = both_ways false refl h
target_silent Copy h k = both_ways false refl h
target_silent Add h k = both_ways false refl h
target_silent Sub h k = both_ways false refl h
target_silent And h k = both_ways false refl h
target_silent Xor h k = both_ways false refl h
target_silent Widen h k = both_ways false refl h
target_silent Narrow h k = both_ways false refl h
target_silent Input h k = both_ways false refl h
target_silent Output h k = both_ways false refl h
target_silent Load h k = both_ways false refl h
target_silent Store h k = both_ways false refl h

-- ---- liveness is closed over the rows

module _ (rows : List Row) where
  passes_row : (i j v : ℕ) → goes_on rows i j ≡ true → lives_before rows j v ≡ true → ((shape (row_at rows i).op).d ≡ true → v ≡ (row_at rows i).d → ⊥) → lives_before rows i v ≡ true
  passes_row i j v g h free =
      let quiet : written_at rows i v ≡ false = elim (cases_Bool (written_at rows i v)) [ inl e ↦ absurd (let (s, q) = written_d rows i v e in free s q) | inr e ↦ e ] in
      before_holds rows i v (live_below rows j v h) ∙ or_right (read_at rows i v) _ (and_from _ _ (after_each rows i j v g h) (not_from_false _ quiet))

  pub read_live : (i v : ℕ) → v < 448 → read_at rows i v ≡ true → lives_before rows i v ≡ true
  read_live i v small r = before_holds rows i v small ∙ or_left _ _ r

pub live_lively : LiveLively
live_lively rows small = record {
  reads_a = λ i e. let r = reads_a rows i e in read_live rows i (row_at rows i).a (small i _ r) r;
  reads_b = λ i e. let r = reads_b rows i e in read_live rows i (row_at rows i).b (small i _ r) r;
  below = λ i v e h free. passes_row rows i (suc i) v (goes_below rows i e) h free;
  target = λ i v e h. passes_row rows i (row_at rows i).target v (goes_target rows i e) h (λ k _. target_silent (row_at rows i).op e k);
}

-- ---- admitted programs

few_vars : (bs : List ℕ) (p : Program) → admitting bs ≡ Ok p → p.vars ≤ 448
few_vars bs p h = omega (arith, (reads_well bs p (admitted_read bs p h)).vars)

pub admitted_lively : AdmittedLively
admitted_lively bs p h =
    let (names, _) = admitted_in_order bs p h (up_to p.vars) (has_up_to p.vars) in
    (live_lively p.rows (λ i v r. omega (arith, few_vars bs p h, ltb-true v p.vars (sym (has_up_to p.vars v) ∙ names.named i v (inl r)))), none_live_at_start bs p h)
