-- A mark that facts carry forward: a row has it just if some path from row 0 brings it along.
use Rattle.std.proofs.Common.{◌≡◌, ℕ, zero, suc, ◌+◌, ◌<◌, Bool, true, false, ◌&&◌, ◌||◌, ◌⊎◌, List, [], ◌∷◌, map, length, get_or, sym, refl, ap, ◌∙◌, inl, inr, arith}
use Rattle.std.proofs.lemmas.List.{get_or_past}
use Rattle.std.proofs.lemmas.Bool.{cases_lt, cases_eq, both_ways, or_cases, or_left, or_right, and_parts, and_from, eq-eqb, ne_eqb}
use Rattle.counting.specs.Counting.{range}
use Rattle.rows.specs.declared.Row.{Row}
use Rattle.rows.specs.Rows.{next, row_at}
use Rattle.facts.specs.Flow.{Flow, Lawful, rows, holds, comers, feeders, at, enters, gather, incoming, solved}
use Rattle.facts.proofs.Sweeping.{solved_holds, solved_least}
use Rattle.facts.proofs.Walking.{holds_comers}
use Rattle.paths.specs.Paths.{Leads}

-- whether each row of a path passes
unfoldable pub passed : (ℕ → Bool) → List ℕ → Bool
passed passes [] = true
passed passes (j ∷ js) = let r = passed passes js in passes j && r

-- a table over the numbers from j on
range_map : {A : Type 0} (g : ℕ → A) (n j i : ℕ) (d : A) → i < n → get_or (map g (range n j)) i d ≡ g (j + i)
unfolding range
range_map g zero j i d h = absurd (omega arith)
range_map g (suc n) j zero d h = let e : j ≡ j + 0 = omega arith in ap g e
range_map g (suc n) j (suc i) d h = let e : suc j + i ≡ j + suc i = omega arith in range_map g n (suc j) i d (omega arith) ∙ ap g e

-- forward, a row is fed by those that come to it
feeders_at : (f : Flow) (i : ℕ) → f.backward ≡ false → i < rows f → get_or (feeders f) i [] ≡ comers f.next i
unfolding feeders
feeders_at f i b l = rw b (range_map (comers f.next) (rows f) 0 i [] l ∙ ap (comers f.next) (omega arith))

module _ (t : ℕ → Bool) (join : ℕ → ℕ → ℕ) (joined : (x y : ℕ) → t (join x y) ≡ (t x || t y)) where
  -- a mark once gathered stays
  gather_keeps : (k : ℕ → ℕ) (x : ℕ) (js : List ℕ) → t x ≡ true → t (gather join k x js) ≡ true
  unfolding gather
  gather_keeps k x [] h = h
  gather_keeps k x (j ∷ js) h = gather_keeps k (join x (k j)) js (joined x (k j) ∙ or_left _ _ h)

  -- a mark kept by a row of the list is gathered
  gather_at : (k : ℕ → ℕ) (x : ℕ) (js : List ℕ) (j : ℕ) → holds js j ≡ true → t (k j) ≡ true → t (gather join k x js) ≡ true
  unfolding gather holds
  gather_at k x [] j h m = absurd (both_ways false refl h)
  gather_at k x (i ∷ js) j h m =
      elim (cases_eq j i) [
        | inl e ↦ gather_keeps k (join x (k i)) js (joined x (k i) ∙ or_right (t x) (t (k i)) (rw (← e) m))
        | inr ne ↦ gather_at k (join x (k i)) js j (rw (ne_eqb j i ne) at h) m
      ]

  -- a mark gathered was there before, or came from a row of the list
  gather_from : (k : ℕ → ℕ) (x : ℕ) (js : List ℕ) → t (gather join k x js) ≡ true → (t x ≡ true) ⊎ ((j : ℕ) × (holds js j ≡ true) × (t (k j) ≡ true))
  unfolding gather holds
  gather_from k x [] h = inl h
  gather_from k x (i ∷ js) h =
      elim (gather_from k (join x (k i)) js h) [
        | inl a ↦ elim (or_cases (t x) (t (k i)) (sym (joined x (k i)) ∙ a)) [ inl b ↦ inl b | inr b ↦ inr (i, or_left _ _ (eq-eqb i i refl), b) ]
        | inr (j, b, m) ↦ inr (j, or_right _ _ b, m)
      ]

-- a kind of facts over rows whose mark enters at row 0, is brought by joins, and is handed on by the rows that pass
pub record Marking (rs : List Row) (f : Flow) (t passes : ℕ → Bool) : Type 0 where
  pub forward : f.backward ≡ false
  pub lawful : Lawful f
  pub many : rows f ≡ length rs
  pub ways : (j : ℕ) → j < length rs → get_or f.next j [] ≡ next j (row_at rs j)
  pub joined : (x y : ℕ) → t (f.join x y) ≡ (t x || t y)
  pub none : t f.least ≡ false
  pub some : t f.entry ≡ true
  pub stepped : (i x : ℕ) → t (f.step i x) ≡ (t x && passes i)

module _ (rs : List Row) (f : Flow) (t passes : ℕ → Bool) (m : Marking rs f t passes) where
  -- row j feeds row i just if it may go on to it
  fed : (i j : ℕ) → i < length rs → holds (get_or (feeders f) i []) j ≡ holds (get_or f.next j []) i
  fed i j l = ap (λ (js : List ℕ). holds js j) (feeders_at f i m.forward (omega (arith, m.many))) ∙ holds_comers f.next i j

  comes : (i j : ℕ) → i < length rs → j < length rs → holds (get_or (feeders f) i []) j ≡ holds (next j (row_at rs j)) i
  comes i j l lj = fed i j l ∙ ap (λ (js : List ℕ). holds js i) (m.ways j lj)

  -- the mark enters at row 0 only
  enters_first : (i : ℕ) → i ≡ 0 → t (enters f i) ≡ true
  enters_first i e = rw (m.forward, eq-eqb i 0 e) m.some

  enters_only : (i : ℕ) → t (enters f i) ≡ true → i ≡ 0
  enters_only i h =
      elim (cases_eq i 0) [
        | inl e ↦ e
        | inr ne ↦ absurd (both_ways (t f.least) m.none (rw (m.forward, ne_eqb i 0 ne) at h))
      ]

  -- a path to row i on which every row passes
  abbrev Way : ℕ → Type 0
  Way i = (path : List ℕ) × Leads rs path i × (passed passes path ≡ true)

  -- only a row comes to a row
  comer_inside : (i j : ℕ) → i < length rs → holds (get_or (feeders f) i []) j ≡ true → j < length rs
  unfolding holds
  comer_inside i j l h =
      elim (cases_lt j (length rs)) [
        | inl lt ↦ lt
        | inr ge ↦ (let past : get_or f.next j [] ≡ [] = get_or_past f.next j [] (omega (arith, m.many)) in
            absurd (both_ways (holds (get_or (feeders f) i []) j) (fed i j l ∙ ap (λ (js : List ℕ). holds js i) past) h))
      ]

  -- what comes to a row with the mark came along a way, if what is kept did
  incoming_way : (k : ℕ → ℕ) → ((j : ℕ) → t (k j) ≡ true → Way j × (passes j ≡ true)) → (i : ℕ) → i < length rs → t (incoming f (feeders f) k i) ≡ true → Way i
  unfolding incoming passed
  incoming_way k q i l h =
      elim (gather_from t f.join m.joined k (enters f i) (get_or (feeders f) i []) h) [
        | inl a ↦ ([], enters_only i a, refl)
        | inr (j, a, b) ↦ (let lj = comer_inside i j l a in
            let ((path, leads, all), here) = q j b in
            (j ∷ path, (lj, sym (comes i j l lj) ∙ a, leads), and_from _ _ here all))
      ]

  -- a mark that comes to a row came along a way
  pub found : (i : ℕ) → i < length rs → t (incoming f (feeders f) (at f (solved f)) i) ≡ true → Way i
  found = incoming_way (at f (solved f)) (solved_holds f (λ j x. t x ≡ true → Way j × (passes j ≡ true))
      (λ j h. absurd (both_ways (t f.least) m.none h))
      (λ k q i l h. let lt : i < length rs = omega (arith, m.many) in
      let (a, b) = and_parts (t (incoming f (feeders f) k i)) (passes i) (sym (m.stepped i _) ∙ h) in (incoming_way k q i lt a, b)))

  -- a way brings the mark
  pub brought : (path : List ℕ) (i : ℕ) → i < length rs → Leads rs path i → passed passes path ≡ true → t (incoming f (feeders f) (at f (solved f)) i) ≡ true
  unfolding incoming passed
  brought [] i l e all = gather_keeps t f.join m.joined (at f (solved f)) (enters f i) (get_or (feeders f) i []) (enters_first i e)
  brought (j ∷ js) i l (lj, goes, leads) all =
      let (here, rest) = and_parts (passes j) (passed passes js) all in
      let was = brought js j lj leads rest in
      let yields : t (at f (solved f) j) ≡ true = ap t ((solved_least f m.lawful).solves j (omega (arith, m.many))) ∙ m.stepped j _ ∙ and_from _ _ was here in
      gather_at t f.join m.joined (at f (solved f)) (enters f i) (get_or (feeders f) i []) j (comes i j l lj ∙ goes) yields
