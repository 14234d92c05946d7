-- Nothing is live before row 0 where every row reads only what is surely written.
use Rattle.std.proofs.Common.{◌≡◌, ℕ, ◌+◌, ◌<◌, true, false, not, ◌&&◌, eqb, ltb, List, [], ◌∷◌, length, get_or, Some, None, Ok, Err, Option, Result, sym, refl, ap, ◌∙◌, subst, inl, inr, arith}
use Rattle.std.proofs.lemmas.Bool.{cases_Bool, cases_lt, both_ways, or_cases, and_parts, and_cases, and_from, eqb-true, lt-ltb, le-ltb, not-false}
use Rattle.counting.specs.Counting.{least}
use Rattle.counting.proofs.Searches.{least_below}
use Rattle.sets.specs.Sets.{has, meet, minus, up_to}
use Rattle.sets.proofs.Members.{has_union, has_meet, has_minus, has_none}
use Rattle.faults.specs.declared.RowFault.{RowFault}
use Rattle.faults.specs.declared.ProgramFault.{ProgramFault}
use Rattle.faults.specs.declared.ProgramFault.TheVariants.{Unreached, Unwritten}
use Rattle.rows.specs.declared.Row.{Row}
use Rattle.rows.specs.Rows.{reads, writes, set_of, row_at, Program}
use Rattle.source.specs.Reading.{reading}
use Rattle.facts.specs.Flow.{rows as rows_of, holds, comers, feeders, at, gather, incoming, solved}
use Rattle.facts.proofs.Sweeping.{solved_least}
use Rattle.facts.proofs.Walking.{holds_comers}
use Rattle.admission.specs.Kinds.{nexts, initialisation, written_before, reached, sure}
use Rattle.admission.specs.Admission.{fact_fault, faultless, judged, admitting}
use Rattle.admission.specs.Laws.{initialisation_lawful}
use Rattle.admission.proofs.Ways.{nexts_length, nexts_at}
use Rattle.interfering.specs.Living.{read_at, written_at, goes_on, lives_before, AllSure}
use Rattle.interfering.proofs.Living.{has_set_of, table_at, reads_inside, goes_inside, live_below, live_holds}

-- ---- a gathering of sets by meet

gather_start : (kept : ℕ → ℕ) (x : ℕ) (js : List ℕ) (v : ℕ) → has (gather (λ x y. meet x y) kept x js) v ≡ true → has x v ≡ true
unfolding gather
gather_start kept x [] v h = h
gather_start kept x (j ∷ js) v h = (and_parts (has x v) (has (kept j) v) (sym (has_meet x (kept j) v) ∙ gather_start kept (meet x (kept j)) js v h)).0

gather_all : (kept : ℕ → ℕ) (x : ℕ) (js : List ℕ) (v j : ℕ) → has (gather (λ x y. meet x y) kept x js) v ≡ true → holds js j ≡ true → has (kept j) v ≡ true
unfolding gather holds
gather_all kept x [] v j h e = absurd (both_ways false refl e)
gather_all kept x (k ∷ js) v j h e =
    elim (or_cases (eqb j k) (holds js j) e) [
      | inl q ↦ ap (λ (n : ℕ). has (kept n) v) (eqb-true j k q) ∙ (and_parts (has x v) (has (kept k) v) (sym (has_meet x (kept k) v) ∙ gather_start kept (meet x (kept k)) js v h)).1
      | inr q ↦ gather_all kept (meet x (kept k)) js v j h q
    ]

-- ---- what is surely written

module _ (vars : ℕ) (rows : List Row) where
  long : rows_of (initialisation vars rows) ≡ length rows
  long = nexts_length 0 rows

  fed : (j : ℕ) → j < length rows → get_or (feeders (initialisation vars rows)) j [] ≡ comers (nexts rows) j
  unfolding feeders
  fed j l = table_at (comers (nexts rows)) (rows_of (initialisation vars rows)) 0 j [] (rw long l) ∙ (let e : 0 + j ≡ j = omega arith in ap (comers (nexts rows)) e)

  -- nothing is written before row 0
  none_written : (v : ℕ) → has (written_before vars rows 0) v ≡ true → ⊥
  unfolding written_before incoming
  none_written v h =
      let f = initialisation vars rows in
      both_ways _ (has_none v) (gather_start (at f (solved f)) 0 (get_or (feeders f) 0 []) v h)

  -- what is written before a row was written before each row that may go on to it, or by that row
  written_back : (i j v : ℕ) → j < length rows → goes_on rows i j ≡ true → has (written_before vars rows j) v ≡ true → written_at rows i v ≡ false → has (written_before vars rows i) v ≡ true
  unfolding written_before incoming
  written_back i j v lj g h w =
      let f = initialisation vars rows in
      let li : i < length rows = goes_inside rows i j g in
      let comes : holds (get_or (feeders f) j []) i ≡ true = ap (λ (js : List ℕ). holds js i) (fed j lj) ∙ holds_comers (nexts rows) j i ∙ ap (λ (js : List ℕ). holds js j) (nexts_at i rows li) ∙ g in
      let kept : has (at f (solved f) i) v ≡ true = gather_all (at f (solved f)) _ (get_or (feeders f) j []) v i h comes in
      let is = (solved_least f (initialisation_lawful vars rows)).solves i (rw long li) in
      let adds : ℕ = meet (set_of (writes (row_at rows i))) (up_to vars) in
      elim (or_cases _ (has adds v) (sym (has_union (incoming f (feeders f) (at f (solved f)) i) adds v) ∙ ap (λ (x : ℕ). has x v) (sym is) ∙ kept)) [
        | inl e ↦ e
        | inr e ↦ (let a = (and_parts (has (set_of (writes (row_at rows i))) v) (has (up_to vars) v) (sym (has_meet (set_of (writes (row_at rows i))) (up_to vars) v) ∙ e)).0 in
            absurd (both_ways (written_at rows i v) w (and_parts (written_at rows i v) (ltb v 448) (sym (has_set_of (writes (row_at rows i)) v) ∙ a)).0))
      ]

  -- what a sure row reads is written
  sure_written : (i v : ℕ) → v < 448 → sure vars rows i ≡ true → read_at rows i v ≡ true → has (written_before vars rows i) v ≡ true
  unfolding sure
  sure_written i v small h r =
      let none : minus (set_of (reads (row_at rows i))) (written_before vars rows i) ≡ 0 = eqb-true _ _ h in
      let rd : has (set_of (reads (row_at rows i))) v ≡ true = has_set_of (reads (row_at rows i)) v ∙ and_from _ _ r (lt-ltb v 448 small) in
      let z : (has (set_of (reads (row_at rows i))) v && not (has (written_before vars rows i) v)) ≡ false = sym (has_minus (set_of (reads (row_at rows i))) (written_before vars rows i) v) ∙ ap (λ (x : ℕ). has x v) none ∙ has_none v in
      elim (and_cases (has (set_of (reads (row_at rows i))) v) _ z) [ inl e ↦ absurd (both_ways _ e rd) | inr e ↦ not-false _ e ]

  module _ (all : AllSure vars rows) where
    -- what is live before a row is surely written before it
    pub live_written : (i v : ℕ) → lives_before rows i v ≡ true → (i < length rows) × (v < 448 → has (written_before vars rows i) v ≡ true)
    live_written = live_holds rows (λ i v. (i < length rows) × (v < 448 → has (written_before vars rows i) v ≡ true))
        (λ i v r. let l = reads_inside rows i v r in (l, λ small. sure_written i v small (all i l) r))
        (λ i j v g w h. (goes_inside rows i j g, λ small. written_back i j v h.0 g (h.1 small) w))

    pub none_live : (v : ℕ) → lives_before rows 0 v ≡ false
    none_live v = elim (cases_Bool (lives_before rows 0 v)) [
      | inl e ↦ absurd (none_written v ((live_written 0 v e).1 (live_below rows 0 v e)))
      | inr e ↦ e
    ]

-- ---- admission

none_fault : (p : Program) → fact_fault p ≡ None → AllSure p.vars p.rows
unfolding fact_fault
none_fault p h i l =
    let n : ℕ = length p.rows in
    let lost : ℕ = least (λ i. not (reached p.rows i)) n in
    let raw : ℕ = least (λ i. not (sure p.vars p.rows i)) n in
    elim (cases_lt lost n) [
      | inl a ↦ absurd (no_none (Unreached lost) (rw (lt-ltb lost n a) at h))
      | inr a ↦ elim (cases_lt raw n) [
        | inl b ↦ absurd (no_none (Unwritten raw) (rw (le-ltb lost n a, lt-ltb raw n b) at h))
        | inr b ↦ not-false _ (least_below (λ i. not (sure p.vars p.rows i)) n i (omega arith))
      ]
    ]
  where
    no_none : (e : ProgramFault) → Some e ≡ None → ⊥
    no_none e k = let z : ◌≡◌ {A = ℕ} 0 1 = cc in omega arith

by_fault : (o : Option ProgramFault) (q p : Program) → faultless o q ≡ Ok p → (o ≡ None) × (q ≡ p)
by_fault None q p h = (refl, (cc))
by_fault (Some e) q p h = absurd (let z : ◌≡◌ {A = ℕ} 0 1 = cc in omega arith)

by_judging : (r : Result Program RowFault) (p : Program) → judged r ≡ Ok p → (r ≡ Ok p) × (fact_fault p ≡ None)
by_judging (Ok q) p h = let (a, b) = by_fault (fact_fault q) q p h in (ap Ok b, subst (λ (x : Program). fact_fault x ≡ None) b a)
by_judging (Err e) p h = absurd (let z : ◌≡◌ {A = ℕ} 0 1 = cc in omega arith)

-- an admitted program was read
pub admitted_read : (bs : List ℕ) (p : Program) → admitting bs ≡ Ok p → reading bs ≡ Ok p
unfolding admitting
admitted_read bs p h = (by_judging (reading bs) p h).0

pub admitted_sure : (bs : List ℕ) (p : Program) → admitting bs ≡ Ok p → AllSure p.vars p.rows
unfolding admitting
admitted_sure bs p h = none_fault p (by_judging (reading bs) p h).1

pub none_live_at_start : (bs : List ℕ) (p : Program) → admitting bs ≡ Ok p → (v : ℕ) → lives_before p.rows 0 v ≡ false
none_live_at_start bs p h = none_live p.vars p.rows (admitted_sure bs p h)
