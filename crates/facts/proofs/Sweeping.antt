-- Sweeps from the least facts end in the least solution, whatever the order of the rows.
use Rattle.std.proofs.Common.{◌≡◌, ℕ, zero, suc, ◌+◌, ◌-◌, ◌*◌, ◌<◌, ◌≤◌, Bool, true, false, cond, not, ◌||◌, eqb, ◌⊎◌, List, [], ◌∷◌, length, get_or, drop, set, replicate, sym, refl, ap, ◌∙◌, subst, inl, inr, arith, length-set}
use Rattle.std.proofs.lemmas.List.{get_or-set_same, get_or-set_other, get_or-replicate, get_or_past, set-get_or, set_past, length-replicate, drop_more, drop_all}
use Rattle.std.proofs.lemmas.Bool.{cases_lt, cases_eq, cond-true, cond-false, cond_both, both_ways, or_parts, or_cases, not-true, not-false, eqb-true, eqb-false}
use Rattle.counting.specs.Counting.{sum, range, down}
use Rattle.counting.proofs.Sums.{sum_le, sum_ext}
use Rattle.facts.specs.Flow.{Flow, Lawful, Least, Solves, Sweep, rows, feeders, turns, enters, at, gather, incoming, yields, sweep, solve, solved}

-- a list written at one place, read at another
set_at : (P : ℕ → Type 0) (xs : List ℕ) (i x j d : ℕ) → (j ≡ i → P x) → P (get_or xs j d) → P (get_or (set xs i x) j d)
set_at P xs i x j d here there =
    elim (cases_eq j i) [
      | inl e ↦ elim (cases_lt i (length xs)) [
        | inl l ↦ (let r : get_or (set xs i x) j d ≡ x = rw e (get_or-set_same xs i x d l) in rw r (here e))
        | inr l ↦ rw (set_past xs i x l) there
      ]
      | inr ne ↦ rw (get_or-set_other xs i j x d ne) there
    ]

-- a sum of which one value alone was changed
sum_one : (g h : ℕ → ℕ) (n i : ℕ) → i < n → ((j : ℕ) → (j ≡ i → ⊥) → h j ≡ g j) → sum h n + g i ≡ sum g n + h i
unfolding sum
sum_one g h zero i l e = absurd (omega arith)
sum_one g h (suc n) i l e =
    elim (cases_eq i n) [
      | inl q ↦ (let rest = sum_ext h g n (λ k b. e k (omega arith)) in
          let a : g i ≡ g n = ap g q in let b : h i ≡ h n = ap h q in omega (arith, rest, a, b))
      | inr q ↦ omega (arith, sum_one g h n i (omega arith) e, e n (λ z. q (sym z)))
    ]

-- whether every row of a list is one of n
abbrev pub Below : ℕ → List ℕ → Type 0
Below n [] = Unit {0}
Below n (i ∷ is) = (i < n) × Below n is

-- the rows of a list
abbrev pub Among : ℕ → List ℕ → Type 0
Among i [] = ⊥
Among i (j ∷ js) = (i ≡ j) ⊎ Among i js

range_below : (n j m : ℕ) → j + n ≤ m → Below m (range n j)
unfolding range
range_below zero j m h = tt
range_below (suc n) j m h = (omega arith, range_below n (suc j) m (omega arith))

range_among : (n j i : ℕ) → j ≤ i → i < j + n → Among i (range n j)
unfolding range
range_among zero j i l h = absurd (omega arith)
range_among (suc n) j i l h = elim (cases_eq i j) [ inl e ↦ inl e | inr ne ↦ inr (range_among n (suc j) i (omega arith) (omega arith)) ]

down_below : (n m : ℕ) → n ≤ m → Below m (down n)
unfolding down
down_below zero m h = tt
down_below (suc n) m h = (omega arith, down_below n m (omega arith))

down_among : (n i : ℕ) → i < n → Among i (down n)
unfolding down
down_among zero i h = absurd (omega arith)
down_among (suc n) i h = elim (cases_eq i n) [ inl e ↦ inl e | inr ne ↦ inr (down_among n i (omega arith)) ]

pub turns_below : (f : Flow) → Below (rows f) (turns f)
unfolding turns
turns_below f = cond_both f.backward (down (rows f)) (range (rows f) 0) (Below (rows f)) (λ _. down_below (rows f) (rows f) (omega arith)) (λ _. range_below (rows f) 0 (rows f) (omega arith))

pub turns_among : (f : Flow) (i : ℕ) → i < rows f → Among i (turns f)
unfolding turns
turns_among f i h = cond_both f.backward (down (rows f)) (range (rows f) 0) (Among i) (λ _. down_among (rows f) i h) (λ _. range_among (rows f) 0 i (omega arith) (omega arith))

-- what holds of the least fact, and of what a row yields where it holds of all that is kept, holds of all that sweeps keep
module _ (f : Flow) (table : List (List ℕ)) (Q : ℕ → ℕ → Type 0)
    (more : (k : ℕ → ℕ) → ((j : ℕ) → Q j (k j)) → (i : ℕ) → i < rows f → Q i (yields f table k i)) where
  pub sweep_holds : (is kept : List ℕ) (b : Bool) → Below (rows f) is → ((j : ℕ) → Q j (at f kept j)) → (j : ℕ) → Q j (at f (sweep f table is kept b).kept j)
  unfolding sweep
  sweep_holds [] kept b h q j = q j
  sweep_holds (i ∷ is) kept b h q j =
      let x = yields f table (at f kept) i in
      sweep_holds is (set kept i x) (b || not (eqb x (at f kept i))) h.1
      (λ m. set_at (Q m) kept i x m f.least (λ e. subst (λ r. Q r x) (sym e) (more (at f kept) q i h.0)) (q m)) j

  pub solve_holds : (m : ℕ) (kept : List ℕ) → ((j : ℕ) → Q j (at f kept j)) → (j : ℕ) → Q j (at f (solve f table m kept) j)
  unfolding solve
  solve_holds zero kept q j = q j
  solve_holds (suc m) kept q j =
      let s = sweep f table (turns f) kept false in
      let h = sweep_holds (turns f) kept false (turns_below f) q in
      cond_both s.altered (solve f table m s.kept) s.kept (λ k. Q j (at f k j)) (λ _. solve_holds m s.kept h j) (λ _. h j)

nothing : (n i x d : ℕ) → x ≡ d → get_or (replicate n x) i d ≡ x
nothing n i x d e = elim (cases_lt i n) [ inl l ↦ get_or-replicate n i x d l | inr l ↦ get_or_past (replicate n x) i d (rw (length-replicate n x) l) ∙ sym e ]

-- the induction principle of a kind's facts
pub solved_holds : (f : Flow) (Q : ℕ → ℕ → Type 0) → ((i : ℕ) → Q i f.least) →
    ((k : ℕ → ℕ) → ((j : ℕ) → Q j (k j)) → (i : ℕ) → i < rows f → Q i (yields f (feeders f) k i)) →
    (i : ℕ) → Q i (at f (solved f) i)
unfolding solved
solved_holds f Q low more = solve_holds f (feeders f) Q more _ (replicate (rows f) f.least)
    (λ j. rw (nothing (rows f) j f.least f.least refl) (low j))

pub sweep_length : (f : Flow) (table : List (List ℕ)) (is kept : List ℕ) (b : Bool) → length (sweep f table is kept b).kept ≡ length kept
unfolding sweep
sweep_length f table [] kept b = refl
sweep_length f table (i ∷ is) kept b = sweep_length f table is _ _ ∙ length-set kept i _

pub solve_length : (f : Flow) (table : List (List ℕ)) (m : ℕ) (kept : List ℕ) → length (solve f table m kept) ≡ length kept
unfolding solve
solve_length f table zero kept = refl
solve_length f table (suc m) kept =
    let s = sweep f table (turns f) kept false in
    let l = sweep_length f table (turns f) kept false in
    cond_both s.altered (solve f table m s.kept) s.kept (λ k. length k ≡ length kept) (λ _. solve_length f table m s.kept ∙ l) (λ _. l)

pub solved_length : (f : Flow) → length (solved f) ≡ rows f
unfolding solved
solved_length f = solve_length f (feeders f) _ _ ∙ length-replicate (rows f) f.least

below_at : (n : ℕ) (is : List ℕ) (k : ℕ) → Below n is → k < length is → get_or is k 0 < n
below_at n [] k h l = absurd (omega arith)
below_at n (i ∷ is) zero h l = h.0
below_at n (i ∷ is) (suc k) h l = below_at n is k h.1 (omega arith)

range_length : (n j : ℕ) → length (range n j) ≡ n
unfolding range
range_length zero j = refl
range_length (suc n) j = ap suc (range_length n (suc j))

down_length : (n : ℕ) → length (down n) ≡ n
unfolding down
down_length zero = refl
down_length (suc n) = ap suc (down_length n)

pub turns_length : (f : Flow) → length (turns f) ≡ rows f
unfolding turns
turns_length f = cond_both f.backward (down (rows f)) (range (rows f) 0) (λ js. length js ≡ rows f) (λ _. down_length (rows f)) (λ _. range_length (rows f) 0)

pub turn_below : (f : Flow) (k i : ℕ) → k < rows f → i ≡ get_or (turns f) k 0 → i < rows f
turn_below f k i l e = rw e (below_at (rows f) (turns f) k (turns_below f) (rw (turns_length f) l))

-- one visit more of a sweep, and its end
pub sweep_more : (f : Flow) (table : List (List ℕ)) (js kept after : List ℕ) (b fresh : Bool) (k i : ℕ) → k < length js → i ≡ get_or js k 0 →
    after ≡ set kept i (yields f table (at f kept) i) → fresh ≡ not (eqb (yields f table (at f kept) i) (at f kept i)) →
    sweep f table (drop (k + 1) js) after (b || fresh) ≡ sweep f table (drop k js) kept b
unfolding sweep
sweep_more f table js kept after b fresh k i l e a t = rw (drop_more js k 0 l, a, t, e)

pub sweep_end : (f : Flow) (table : List (List ℕ)) (js kept : List ℕ) (b : Bool) (k : ℕ) (s : Sweep) → length js ≤ k →
    sweep f table (drop k js) kept b ≡ s → (kept ≡ s.kept) × (b ≡ s.altered)
unfolding sweep
sweep_end f table js kept b k s l e =
    let none : sweep f table (drop k js) kept b ≡ record { kept = kept; altered = b } = rw (drop_all k js l) in
    (ap (λ (w : Sweep). w.kept) (sym none ∙ e), ap (λ (w : Sweep). w.altered) (sym none ∙ e))

-- a sweep that alters nothing: the flag was never raised, and each visited row keeps what it yields
pub sweep_quiet : (f : Flow) (table : List (List ℕ)) (is kept : List ℕ) (b : Bool) → (sweep f table is kept b).altered ≡ false →
    (b ≡ false) × ((sweep f table is kept b).kept ≡ kept) × ((i : ℕ) → Among i is → at f kept i ≡ yields f table (at f kept) i)
unfolding sweep
sweep_quiet f table [] kept b q = (q, refl, λ i a. absurd a)
sweep_quiet f table (i ∷ is) kept b q =
    let x = yields f table (at f kept) i in
    let (n, s, each) = sweep_quiet f table is (set kept i x) (b || not (eqb x (at f kept i))) q in
    let old : x ≡ at f kept i = eqb-true _ _ (not-false _ (or_parts b _ n).1) in
    let same : set kept i x ≡ kept = ap (set kept i) old ∙ set-get_or kept i f.least in
    ((or_parts b _ n).0, s ∙ same, λ j a. elim a [ inl e ↦ rw e (sym old) | inr r ↦ subst (λ k. at f k j ≡ yields f table (at f k) j) same (each j r) ])

module _ (f : Flow) (laws : Lawful f) (table : List (List ℕ)) where
  abbrev pub Under : (ℕ → ℕ) → (ℕ → ℕ) → Type 0
  Under x y = (i : ℕ) → f.below (x i) (y i) ≡ true

  gather_steady : (x y : ℕ → ℕ) → Under x y → (js : List ℕ) (u v : ℕ) → f.below u v ≡ true → f.below (gather f.join x u js) (gather f.join y v js) ≡ true
  unfolding gather
  gather_steady x y h [] u v l = l
  gather_steady x y h (j ∷ js) u v l =
      gather_steady x y h js (f.join u (x j)) (f.join v (y j))
      (laws.lowest u (x j) _ (laws.chain _ _ _ l (laws.left v (y j))) (laws.chain _ _ _ (h j) (laws.right v (y j))))

  pub yields_steady : (x y : ℕ → ℕ) → Under x y → (i : ℕ) → f.below (yields f table x i) (yields f table y i) ≡ true
  unfolding incoming
  yields_steady x y h i = laws.steady i _ _ (gather_steady x y h (get_or table i []) (enters f i) (enters f i) (laws.same _))

  gather_fact : (x : ℕ → ℕ) → ((j : ℕ) → f.fact (x j) ≡ true) → (js : List ℕ) (u : ℕ) → f.fact u ≡ true → f.fact (gather f.join x u js) ≡ true
  unfolding gather
  gather_fact x h [] u a = a
  gather_fact x h (j ∷ js) u a = gather_fact x h js (f.join u (x j)) (laws.join_fact u (x j) a (h j))

  pub yields_fact : (x : ℕ → ℕ) → ((j : ℕ) → f.fact (x j) ≡ true) → (i : ℕ) → f.fact (yields f table x i) ≡ true
  unfolding incoming
  yields_fact x h i = laws.step_fact i _ (gather_fact x h (get_or table i []) (enters f i)
      (cond_both (eqb i (cond f.backward (rows f - 1) 0)) f.entry f.least (λ u. f.fact u ≡ true) (λ _. laws.entry_fact) (λ _. laws.least_fact)))

  -- the ranks of the facts kept
  unfoldable pub total : List ℕ → ℕ
  total kept = sum (λ i. f.rank (at f kept i)) (rows f)

  pub total_capped : (kept : List ℕ) → total kept ≤ f.height * rows f
  unfolding total
  total_capped kept = sum_le _ f.height (rows f) (λ i _. laws.capped _)

  -- what the sweeps keep up: each row yields at least what it keeps, and all that is kept is facts
  pub record Rising (kept : List ℕ) : Type 0 where
    pub up : Under (at f kept) (yields f table (at f kept))
    pub facts : (i : ℕ) → f.fact (at f kept i) ≡ true
    pub long : length kept ≡ rows f

  module _ (kept : List ℕ) (r : Rising kept) (i : ℕ) (lt : i < rows f) where
    visit_up : Under (at f kept) (at f (set kept i (yields f table (at f kept) i)))
    visit_up j = set_at (λ x. f.below (at f kept j) x ≡ true) kept i _ j f.least (λ e. rw e (r.up i)) (laws.same _)

    visit_rising : Rising (set kept i (yields f table (at f kept) i))
    visit_rising =
        let x = yields f table (at f kept) i in
        let up = yields_steady (at f kept) (at f (set kept i x)) visit_up in
        record {
          up = λ j. set_at (λ y. f.below y (yields f table (at f (set kept i x)) j) ≡ true) kept i x j f.least (λ e. rw e (up i)) (laws.chain _ _ _ (r.up j) (up j));
          facts = λ j. set_at (λ y. f.fact y ≡ true) kept i x j f.least (λ e. yields_fact (at f kept) r.facts i) (r.facts j);
          long = length-set kept i x ∙ r.long;
        }

    -- what a visit adds to the ranks
    visit_total : total (set kept i (yields f table (at f kept) i)) + f.rank (at f kept i) ≡ total kept + f.rank (yields f table (at f kept) i)
    unfolding total
    visit_total =
        let x = yields f table (at f kept) i in
        let here : at f (set kept i x) i ≡ x = get_or-set_same kept i x f.least (omega (arith, r.long)) in
        let one = sum_one (λ j. f.rank (at f kept j)) (λ j. f.rank (at f (set kept i x) j)) (rows f) i lt
        (λ j ne. ap f.rank (get_or-set_other kept i j x f.least ne)) in
        let e : f.rank (at f (set kept i x) i) ≡ f.rank x = ap f.rank here in
        omega (arith, one, e)

  -- a sweep goes on rising, and its ranks grow if it alters anything
  pub record Swept (kept : List ℕ) (b : Bool) (s : Sweep) : Type 0 where
    pub rising : Rising s.kept
    pub grown : total kept ≤ total s.kept
    pub more : s.altered ≡ true → (b ≡ true) ⊎ (total kept < total s.kept)

  pub sweep_rising : (is kept : List ℕ) (b : Bool) → Below (rows f) is → Rising kept → Swept kept b (sweep f table is kept b)
  unfolding sweep
  sweep_rising [] kept b h r = record { rising = r; grown = omega arith; more = λ e. inl e }
  sweep_rising (i ∷ is) kept b h r =
      let x = yields f table (at f kept) i in
      let was = at f kept i in
      let rest = sweep_rising is (set kept i x) (b || not (eqb x was)) h.1 (visit_rising kept r i h.0) in
      let sums = visit_total kept r i h.0 in
      elim (cases_eq was x) [
        | inl e ↦ (let ranks : f.rank was ≡ f.rank x = ap f.rank e in
            record {
              rising = rest.rising;
              grown = omega (arith, rest.grown, sums, ranks);
              more = λ a. elim (rest.more a) [
                | inl c ↦ elim (or_cases b (not (eqb x was)) c) [ inl d ↦ inl d | inr d ↦ absurd (eqb-false x was (not-true _ d) (sym e)) ]
                | inr c ↦ inr (omega (arith, c, sums, ranks))
              ];
            })
        | inr ne ↦ (let ranks = laws.rises was x (r.facts i) (yields_fact (at f kept) r.facts i) (r.up i) ne in
            record {
              rising = rest.rising;
              grown = omega (arith, rest.grown, sums, ranks);
              more = λ a. inr (omega (arith, rest.grown, sums, ranks));
            })
      ]

  -- with fuel for all the ranks that are left the sweeps end by themselves
  pub solve_ends : (m : ℕ) (kept : List ℕ) → Rising kept → f.height * rows f < m + total kept →
      (i : ℕ) → i < rows f → at f (solve f table m kept) i ≡ yields f table (at f (solve f table m kept)) i
  unfolding solve
  solve_ends zero kept r h = absurd (omega (arith, total_capped kept))
  solve_ends (suc m) kept r h =
      let s = sweep f table (turns f) kept false in
      let w = sweep_rising (turns f) kept false (turns_below f) r in
      cond_both s.altered (solve f table m s.kept) s.kept (λ k. (i : ℕ) → i < rows f → at f k i ≡ yields f table (at f k) i)
      (λ a. solve_ends m s.kept w.rising (elim (w.more a) [ inl c ↦ absurd (both_ways false refl c) | inr c ↦ omega (arith, c, h) ]))
      (λ a. let (_, same, each) = sweep_quiet f table (turns f) kept false a in
      λ i lt. rw same (each i (turns_among f i lt)))

  pub start_rising : Rising (replicate (rows f) f.least)
  start_rising =
      let low : (i : ℕ) → at f (replicate (rows f) f.least) i ≡ f.least = λ i. nothing (rows f) i f.least f.least refl in
      record {
        up = λ i. rw (low i) (laws.bottom _);
        facts = λ i. rw (low i) laws.least_fact;
        long = length-replicate (rows f) f.least;
      }

  -- what holds before each sweep: some fuel leads on to the end, and would suffice
  pub record Going (end kept : List ℕ) : Type 0 where
    pub rising : Rising kept
    pub fuel : ℕ
    pub leads : solve f table fuel kept ≡ end
    pub enough : f.height * rows f < fuel + total kept

  module _ (end kept : List ℕ) (w : Going end kept) where
    next_fuel : (m : ℕ) → f.height * rows f < m + total kept → (p : ℕ) × (m ≡ suc p)
    next_fuel zero h = absurd (omega (arith, total_capped kept))
    next_fuel (suc p) h = (p, refl)

    pub going_more : (sweep f table (turns f) kept false).altered ≡ true →
        Going end (sweep f table (turns f) kept false).kept × (total kept < total (sweep f table (turns f) kept false).kept)
    unfolding solve
    going_more a =
        let s = sweep_rising (turns f) kept false (turns_below f) w.rising in
        let (p, e) = next_fuel w.fuel w.enough in
        let up : total kept < total (sweep f table (turns f) kept false).kept = elim (s.more a) [ inl c ↦ absurd (both_ways false refl c) | inr c ↦ c ] in
        let on : solve f table (suc p) kept ≡ end = subst (λ (m : ℕ). solve f table m kept ≡ end) e w.leads in
        (record { rising = s.rising; fuel = p; leads = sym (cond-true _ _ _ a) ∙ on; enough = omega (arith, w.enough, e, up) }, up)

    pub going_end : (sweep f table (turns f) kept false).altered ≡ false → (sweep f table (turns f) kept false).kept ≡ end
    unfolding solve
    going_end a =
        let (p, e) = next_fuel w.fuel w.enough in
        let on : solve f table (suc p) kept ≡ end = subst (λ (m : ℕ). solve f table m kept ≡ end) e w.leads in
        sym (cond-false _ _ _ a) ∙ on

-- the definition's fuel suffices
pub going_start : (f : Flow) (laws : Lawful f) → Going f laws (feeders f) (solved f) (replicate (rows f) f.least)
unfolding solved
going_start f laws = record { rising = start_rising f laws (feeders f); fuel = _; leads = refl; enough = omega arith }

-- the sweeps' answer solves the equations, and is the least that does
pub solved_least : (f : Flow) → Lawful f → Least f (at f (solved f))
solved_least f laws = record {
  solves = (let start = going_start f laws in subst (λ (xs : List ℕ). Solves f (at f xs)) start.leads (solve_ends f laws (feeders f) start.fuel (replicate (rows f) f.least) start.rising start.enough));
  under = λ y closed i lt. solved_holds f (λ j x. f.below x (y j) ≡ true) (λ j. laws.bottom (y j))
      (λ k h j l. laws.chain _ _ _ (yields_steady f laws (feeders f) k y h j) (closed j l)) i;
}

-- all that is solved for is facts
pub solved_facts : (f : Flow) → Lawful f → (i : ℕ) → f.fact (at f (solved f) i) ≡ true
solved_facts f laws = solved_holds f (λ j x. f.fact x ≡ true) (λ j. laws.least_fact) (λ k h i l. yields_fact f laws (feeders f) k h i)
