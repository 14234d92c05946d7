-- Liveness is the least answer to its equations, and so the ways on which a variable is read before it is written.
use Rattle.std.proofs.Common.{◌≡◌, ℕ, zero, suc, ◌+◌, ◌-◌, ◌^◌, ◌<◌, ◌≤◌, Bool, true, false, not, ◌&&◌, ◌||◌, eqb, ltb, ◌⊎◌, List, [], ◌∷◌, map, length, get_or, sym, refl, ap, ◌∙◌, subst, inl, inr, arith}
use lib.Bits.{or_lt}
use Rattle.std.proofs.lemmas.Nat.{pow_pos}
use Rattle.std.proofs.lemmas.List.{get_or_past}
use Rattle.std.proofs.lemmas.Bool.{cases_Bool, cases_lt, cases_eq, both_ways, or_cases, or_left, or_right, and_parts, and_cases, and_from, eq-eqb, ne_eqb, eqb-true, lt-ltb, ltb-true, not-true, not_from_false}
use Rattle.counting.specs.Counting.{range}
use Rattle.sets.specs.Sets.{has, single, union, minus, when}
use Rattle.sets.proofs.Members.{has_union, has_minus, has_none, has_single, has_when, has_past}
use Rattle.rows.specs.declared.Row.{Row}
use Rattle.rows.specs.Rows.{next, reads, writes, set_of, row_at, end_row}
use Rattle.facts.specs.Flow.{Lawful, rows as rows_of, holds, feeders, at, gather, incoming, yields, enters, solved}
use Rattle.facts.proofs.Laws.{spreading_lawful, made_steady, made_inside, single_inside}
use Rattle.facts.proofs.Sweeping.{solved_least, solved_holds, solved_facts, solved_length}
use Rattle.facts.proofs.Memory.{feeders_backward}
use Rattle.admission.specs.Kinds.{nexts}
use Rattle.admission.proofs.Ways.{nexts_length, nexts_at}
use Rattle.rounds.specs.Liveness.{liveness, live_before, live_after}
use Rattle.interfering.specs.Living.{read_at, written_at, goes_on, lives_before, lives_after, Awaits, Lives}

-- ---- sets of lists

pub has_set_of : (vs : List ℕ) (v : ℕ) → has (set_of vs) v ≡ (holds vs v && ltb v 448)
unfolding set_of holds
has_set_of [] v = has_none v
has_set_of (x ∷ vs) v =
    has_union (set_of vs) (when (ltb x 448) (single x)) v ∙ rw (has_set_of vs v, has_when (ltb x 448) (single x) v, has_single x v)
    (elim (cases_eq v x) [ inl e ↦ rw (e, eq-eqb x x refl) (sort (holds vs x) (ltb x 448)) | inr ne ↦ rw (ne_eqb v x ne) (rest (holds vs v) (ltb v 448) (ltb x 448)) ])
  where
    sort : (a b : Bool) → ((a && b) || (b && true)) ≡ (true && b)
    sort a b = grind arith

    rest : (a b c : Bool) → ((a && b) || (c && false)) ≡ ((false || a) && b)
    rest a b c = grind arith

pub set_of_below : (vs : List ℕ) → set_of vs < 2 ^ 448
unfolding set_of
set_of_below [] = pow_pos 448
set_of_below (v ∷ vs) = or_lt 448 (set_of vs) (when (ltb v 448) (single v)) (set_of_below vs) (single_inside 448 v)

-- ---- a gathering of sets by union

pub gather_only : (kept : ℕ → ℕ) (x : ℕ) (js : List ℕ) (v : ℕ) → has (gather (λ x y. union x y) kept x js) v ≡ true →
    (has x v ≡ true) ⊎ ((j : ℕ) × (holds js j ≡ true) × (has (kept j) v ≡ true))
unfolding gather holds
gather_only kept x [] v h = inl h
gather_only kept x (j ∷ js) v h =
    elim (gather_only kept (union x (kept j)) js v h) [
      | inl e ↦ elim (or_cases (has x v) (has (kept j) v) (sym (has_union x (kept j) v) ∙ e)) [
        | inl a ↦ inl a
        | inr a ↦ inr (j, or_left _ _ (eq-eqb j j refl), a)
      ]
      | inr (k, e, f) ↦ inr (k, or_right (eqb k j) _ e, f)
    ]

pub gather_first : (kept : ℕ → ℕ) (x : ℕ) (js : List ℕ) (v : ℕ) → has x v ≡ true → has (gather (λ x y. union x y) kept x js) v ≡ true
unfolding gather
gather_first kept x [] v h = h
gather_first kept x (j ∷ js) v h = gather_first kept (union x (kept j)) js v (has_union x (kept j) v ∙ or_left _ _ h)

pub gather_each : (kept : ℕ → ℕ) (x : ℕ) (js : List ℕ) (v j : ℕ) → holds js j ≡ true → has (kept j) v ≡ true → has (gather (λ x y. union x y) kept x js) v ≡ true
unfolding gather holds
gather_each kept x [] v j h e = absurd (both_ways false refl h)
gather_each kept x (k ∷ js) v j h e =
    elim (or_cases (eqb j k) (holds js j) h) [
      | inl q ↦ (let g : has (kept k) v ≡ true = ap (λ (n : ℕ). has (kept n) v) (sym (eqb-true j k q)) ∙ e in gather_first kept (union x (kept k)) js v (has_union x (kept k) v ∙ or_right (has x v) _ g))
      | inr q ↦ gather_each kept (union x (kept k)) js v j q e
    ]

-- ---- the laws of liveness

pub liveness_lawful : (rows : List Row) → Lawful (liveness rows)
liveness_lawful rows =
    let adds : ℕ → ℕ = λ i. set_of (reads (row_at rows i)) in
    let takes : ℕ → ℕ = λ i. set_of (writes (row_at rows i)) in
    spreading_lawful 448 (nexts rows) true 0 (λ i x. union (adds i) (minus x (takes i))) (pow_pos 448) (made_steady 448 adds takes) (made_inside 448 adds takes (λ i. set_of_below (reads (row_at rows i))))

pub table_at : {A : Type 0} (f : ℕ → A) (n j v : ℕ) (d : A) → v < n → get_or (map f (range n j)) v d ≡ f (j + v)
unfolding range
table_at f zero j v d h = absurd (omega arith)
table_at f (suc n) j zero d h = let e : j ≡ j + 0 = omega arith in ap f e
table_at f (suc n) j (suc v) d h = let e : suc j + v ≡ j + suc v = omega arith in table_at f n (suc j) v d (omega arith) ∙ ap f e

pub table_length : {A : Type 0} (f : ℕ → A) (n j : ℕ) → length (map f (range n j)) ≡ n
unfolding range
table_length f zero j = refl
table_length f (suc n) j = ap suc (table_length f n (suc j))

-- a row past the end reads, writes and goes on to nothing
pub past_row : (rows : List Row) (i : ℕ) → length rows ≤ i → row_at rows i ≡ end_row
past_row rows i l = get_or_past rows i end_row l

pub reads_inside : (rows : List Row) (i v : ℕ) → read_at rows i v ≡ true → i < length rows
unfolding holds
reads_inside rows i v h = elim (cases_lt i (length rows)) [ inl l ↦ l | inr l ↦ absurd (both_ways false refl (let g : holds (reads end_row) v ≡ true = subst (λ (r : Row). holds (reads r) v ≡ true) (past_row rows i l) h in g)) ]

pub writes_inside : (rows : List Row) (i v : ℕ) → written_at rows i v ≡ true → i < length rows
unfolding holds
writes_inside rows i v h = elim (cases_lt i (length rows)) [ inl l ↦ l | inr l ↦ absurd (both_ways false refl (let g : holds (writes end_row) v ≡ true = subst (λ (r : Row). holds (writes r) v ≡ true) (past_row rows i l) h in g)) ]

pub goes_inside : (rows : List Row) (i j : ℕ) → goes_on rows i j ≡ true → i < length rows
unfolding holds
goes_inside rows i j h = elim (cases_lt i (length rows)) [ inl l ↦ l | inr l ↦ absurd (both_ways false refl (let g : holds (next i end_row) j ≡ true = subst (λ (r : Row). holds (next i r) j ≡ true) (past_row rows i l) h in g)) ]

-- ---- what comes to a row

module _ (rows : List Row) where
  pub rows_long : rows_of (liveness rows) ≡ length rows
  rows_long = nexts_length 0 rows

  fed : (i : ℕ) → i < length rows → get_or (feeders (liveness rows)) i [] ≡ next i (row_at rows i)
  fed i l = ap (λ (t : List (List ℕ)). get_or t i []) (feeders_backward (liveness rows) refl) ∙ nexts_at i rows l

  nothing_enters : (i : ℕ) → enters (liveness rows) i ≡ 0
  nothing_enters i = elim (cases_Bool (eqb i (rows_of (liveness rows) - 1))) [ inl e ↦ rw e | inr e ↦ rw e ]

  -- what comes to row i from what rows keep
  come : (kept : ℕ → ℕ) (i : ℕ) → i < length rows → incoming (liveness rows) (feeders (liveness rows)) kept i ≡ gather (λ x y. union x y) kept 0 (next i (row_at rows i))
  unfolding incoming
  come kept i l = rw (nothing_enters i, fed i l)

  after_at : (i : ℕ) → i < length rows → get_or (live_after rows) i 0 ≡ gather (λ x y. union x y) (λ j. get_or (live_before rows) j 0) 0 (next i (row_at rows i))
  unfolding live_after
  after_at i l =
      let f = liveness rows in
      table_at (incoming f (feeders f) (at f (live_before rows))) (length rows) 0 i 0 l ∙ (let e : 0 + i ≡ i = omega arith in rw e (come (at f (live_before rows)) i l))

  pub after_long : length (live_after rows) ≡ length rows
  unfolding live_after
  after_long = table_length (incoming (liveness rows) (feeders (liveness rows)) (at (liveness rows) (live_before rows))) (length rows) 0

  pub before_long : length (live_before rows) ≡ length rows
  unfolding live_before
  before_long = solved_length (liveness rows) ∙ rows_long

  before_past : (i v : ℕ) → length rows ≤ i → lives_before rows i v ≡ false
  before_past i v l = rw (get_or_past (live_before rows) i 0 (rw before_long l)) (has_none v)

  after_past : (i v : ℕ) → length rows ≤ i → lives_after rows i v ≡ false
  after_past i v l = rw (get_or_past (live_after rows) i 0 (rw after_long l)) (has_none v)

  before_at : (i : ℕ) → i < length rows → get_or (live_before rows) i 0 ≡ union (set_of (reads (row_at rows i))) (minus (get_or (live_after rows) i 0) (set_of (writes (row_at rows i))))
  unfolding live_before
  before_at i l =
      let f = liveness rows in
      (solved_least f (liveness_lawful rows)).solves i (rw rows_long l) ∙ ap (f.step i) (come (at f (solved f)) i l ∙ sym (after_at i l))

  -- a variable that has no place in a set is never live
  pub live_below : (i v : ℕ) → lives_before rows i v ≡ true → v < 448
  unfolding live_before
  live_below i v h =
      let small : get_or (solved (liveness rows)) i 0 < 2 ^ 448 = ltb-true _ _ (solved_facts (liveness rows) (liveness_lawful rows) i) in
      elim (cases_lt v 448) [ inl l ↦ l | inr l ↦ absurd (both_ways _ (has_past (get_or (solved (liveness rows)) i 0) 448 v small l) h) ]

  pub after_only : (i v : ℕ) → lives_after rows i v ≡ true → (j : ℕ) × (goes_on rows i j ≡ true) × (lives_before rows j v ≡ true)
  after_only i v h =
      elim (cases_lt i (length rows)) [
        | inr l ↦ absurd (both_ways _ (after_past i v l) h)
        | inl l ↦ elim (gather_only (λ j. get_or (live_before rows) j 0) 0 (next i (row_at rows i)) v (ap (λ (x : ℕ). has x v) (sym (after_at i l)) ∙ h)) [
          | inl e ↦ absurd (both_ways _ (has_none v) e)
          | inr f ↦ f
        ]
      ]

  pub after_each : (i j v : ℕ) → goes_on rows i j ≡ true → lives_before rows j v ≡ true → lives_after rows i v ≡ true
  after_each i j v g h = let l = goes_inside rows i j g in ap (λ (x : ℕ). has x v) (after_at i l) ∙ gather_each (λ j. get_or (live_before rows) j 0) 0 (next i (row_at rows i)) v j g h

  pub after_below : (i v : ℕ) → lives_after rows i v ≡ true → v < 448
  after_below i v h = let (j, g, b) = after_only i v h in live_below j v b

  pub before_holds : (i v : ℕ) → v < 448 → lives_before rows i v ≡ (read_at rows i v || (lives_after rows i v && not (written_at rows i v)))
  before_holds i v small =
      elim (cases_lt i (length rows)) [
        | inr l ↦ before_past i v l ∙ sym (rw (after_past i v l, none l) refl)
        | inl l ↦ (let rd : has (set_of (reads (row_at rows i))) v ≡ read_at rows i v = has_set_of (reads (row_at rows i)) v ∙ rw (lt-ltb v 448 small) (and_true _) in
            let wr : has (set_of (writes (row_at rows i))) v ≡ written_at rows i v = has_set_of (writes (row_at rows i)) v ∙ rw (lt-ltb v 448 small) (and_true _) in
            ap (λ (x : ℕ). has x v) (before_at i l) ∙ has_union (set_of (reads (row_at rows i))) _ v ∙ rw (has_minus (get_or (live_after rows) i 0) (set_of (writes (row_at rows i))) v, rd, wr))
      ]
    where
      and_true : (b : Bool) → (b && true) ≡ b
      and_true true = refl
      and_true false = refl

      none : length rows ≤ i → read_at rows i v ≡ false
      none l = elim (cases_Bool (read_at rows i v)) [ inl e ↦ absurd (let k = reads_inside rows i v e in omega arith) | inr e ↦ e ]

  -- a way, from liveness
  pub way_only : (i v : ℕ) → lives_before rows i v ≡ true → (way : List ℕ) × Awaits rows v way i
  unfolding live_before
  way_only i v live = solved_holds (liveness rows) (λ i x. has x v ≡ true → (way : List ℕ) × Awaits rows v way i)
      (λ i e. absurd (both_ways _ (has_none v) e)) more i live
    where
      small : v < 448
      small = live_below i v live

      more : (k : ℕ → ℕ) → ((j : ℕ) → has (k j) v ≡ true → (way : List ℕ) × Awaits rows v way j) → (i : ℕ) → i < rows_of (liveness rows) →
          has (yields (liveness rows) (feeders (liveness rows)) k i) v ≡ true → (way : List ℕ) × Awaits rows v way i
      more k h i l e =
          let lt : i < length rows = rw rows_long at l in
          let came : ℕ = incoming (liveness rows) (feeders (liveness rows)) k i in
          elim (or_cases (has (set_of (reads (row_at rows i))) v) _ (sym (has_union (set_of (reads (row_at rows i))) _ v) ∙ e)) [
            | inl a ↦ ([], (and_parts (read_at rows i v) (ltb v 448) (sym (has_set_of (reads (row_at rows i)) v) ∙ a)).0)
            | inr a ↦ (let q = and_parts (has came v) (not (has (set_of (writes (row_at rows i))) v)) (sym (has_minus came (set_of (writes (row_at rows i))) v) ∙ a) in
                let kept : (written_at rows i v && ltb v 448) ≡ false = sym (has_set_of (writes (row_at rows i)) v) ∙ not-true _ q.1 in
                let quiet : written_at rows i v ≡ false = elim (and_cases (written_at rows i v) (ltb v 448) kept) [ inl z ↦ z | inr z ↦ absurd (both_ways _ z (lt-ltb v 448 small)) ] in
                elim (gather_only k 0 (next i (row_at rows i)) v (ap (λ (x : ℕ). has x v) (sym (come k i lt)) ∙ q.0)) [
                  | inl z ↦ absurd (both_ways _ (has_none v) z)
                  | inr (j, g, b) ↦ (let (way, w) = h j b in (j ∷ way, (quiet, g, w)))
                ])
          ]

  -- liveness, from a way
  pub way_each : (v : ℕ) → v < 448 → (way : List ℕ) (i : ℕ) → Awaits rows v way i → lives_before rows i v ≡ true
  way_each v small [] i a = before_holds i v small ∙ or_left _ _ a
  way_each v small (j ∷ js) i (w, g, a) =
      before_holds i v small ∙ or_right (read_at rows i v) _ (and_from _ _ (after_each i j v g (way_each v small js j a)) (not_from_false _ w))

  pub lives : (v : ℕ) → v < 448 → Lives rows v
  lives v small = record {
    before = λ i. before_holds i v small;
    after_only = λ i. after_only i v;
    after_each = λ i j. after_each i j v;
    way_only = λ i. way_only i v;
    way_each = λ i way. way_each v small way i;
  }

  -- what holds of all that a row reads, and goes back over a row that does not write it, holds of all that is live
  pub live_holds : (P : ℕ → ℕ → Type 0) → ((i v : ℕ) → read_at rows i v ≡ true → P i v) →
      ((i j v : ℕ) → goes_on rows i j ≡ true → written_at rows i v ≡ false → P j v → P i v) → (i v : ℕ) → lives_before rows i v ≡ true → P i v
  live_holds P first back i v h = let (way, a) = way_only i v h in along way i a
    where
      along : (way : List ℕ) (i : ℕ) → Awaits rows v way i → P i v
      along [] i a = first i v a
      along (j ∷ js) i (w, g, a) = back i j v g w (along js j a)
