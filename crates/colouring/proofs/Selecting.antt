-- Selection keeps neighbours apart, and a node marked tested finds a register.
use Rattle.std.proofs.Common.{◌≡◌, ℕ, ◌<◌, Bool, true, false, cond, ◌&&◌, ◌||◌, eqb, List, [], ◌∷◌, length, set, replicate, sym, refl, ◌∙◌, inl, inr, arith, length-set, get_or-set_other, get_or-set_same}
use lib.ListN.{length-replicate, get_or-replicate}
use Rattle.std.proofs.lemmas.List.{get_or_past, set_past}
use Rattle.std.proofs.lemmas.Bool.{cases_lt, cases_eq, both_ways, and_from, and_parts, or_left, or_right, not-true, not_from_false, eq-eqb, ne_eqb, ltb-true, cond-true}
use Rattle.counting.proofs.Searches.{any_none}
use Rattle.sets.specs.Sets.{has}
use Rattle.registers.specs.Model.{Model, Lawful}
use Rattle.rounds.specs.declared.Removed.{Removed}
use Rattle.rounds.specs.Interference.{Graph, neighbours, class_at}
use Rattle.rounds.specs.Pressure.{pressure, passes}
use Rattle.rounds.specs.Select.{register_of, free, choice, selected}
use Rattle.rounds.specs.Round.{hoped_for}
use Rattle.colouring.specs.Selecting.{Proper, Classed, Clear, Counted, TestFinds, Separate, NeighboursApart, listed, later, Orderly, TestedFind}
use Rattle.colouring.proofs.Counts.{any_false}
use Rattle.colouring.proofs.Suffices.{none_apart, turned, test_suffices}
use Rattle.colouring.proofs.Choosing.{choice_free}

module _ (m : Model) (l : Lawful m) (g : Graph) where
  -- no node has a register at first
  none_yet : (v : ℕ) → register_of m (replicate (length g.classes) m.count) v ≡ m.count
  none_yet v = elim (cases_lt v (length g.classes)) [
    | inl h ↦ get_or-replicate _ _ _ _ h
    | inr h ↦ get_or_past (replicate (length g.classes) m.count) v m.count (omega (arith, length-replicate (length g.classes) m.count))
  ]

  -- a free register is of the class, and overlaps that of no neighbour
  free_parts : (taken : List ℕ) (v r : ℕ) → length taken ≡ length g.classes → free m g taken v r ≡ true →
      (m.belongs r (class_at g v) ≡ true) × ((k : ℕ) → has (neighbours g v) k ≡ true → m.overlaps r (register_of m taken k) ≡ false)
  unfolding free
  free_parts taken v r long h =
      let ok = and_parts _ _ h in (
        ok.0,
        λ k e. elim (cases_lt k (length g.classes)) [
          | inl b ↦ (let none = any_false (λ k. has (neighbours g v) k && m.overlaps r (register_of m taken k)) _ k (not-true _ ok.1) b in grind (arith, none))
          | inr b ↦ none_apart m l r _ (rw (get_or_past taken k m.count (omega arith)) (omega arith))
        ],
      )

  free_from : (taken : List ℕ) (v r : ℕ) → m.belongs r (class_at g v) ≡ true →
      ((k : ℕ) → k < length g.classes → has (neighbours g v) k ≡ true → m.overlaps r (register_of m taken k) ≡ false) → free m g taken v r ≡ true
  unfolding free
  free_from taken v r of clear =
      and_from _ _ of (not_from_false _ (any_none (λ k. has (neighbours g v) k && m.overlaps r (register_of m taken k)) _ (λ k h. let c = clear k h in grind (arith, c))))

  -- under a pressure below p, by all neighbours that have registers, the choice is a register
  pub test_finds : (taken : List ℕ) (v : ℕ) (t : ℕ → Bool) → Classed m g taken t → Counted m g taken v t → pressure m g v t < m.p (class_at g v) → choice m g taken v < m.count
  test_finds taken v t classed counted low = found (test_suffices m l g taken v t classed low)
    where
      found : (r : ℕ) × (m.belongs r (class_at g v) ≡ true) × Clear m g taken t r → choice m g taken v < m.count
      found (r, of, clear) = (choice_free m g taken v).found r (l.outside r _ of).0 (free_from taken v r of (λ k b e.
          elim (cases_lt (register_of m taken k) m.count) [ inl h ↦ clear k b (counted k b e h) | inr h ↦ none_apart m l r _ h ]))

  -- who has which register when v has taken r
  here : (taken : List ℕ) (v r : ℕ) → v < length taken → register_of m (set taken v r) v ≡ r
  here taken v r h = get_or-set_same taken v r m.count h

  there : (taken : List ℕ) (v r k : ℕ) → (k ≡ v → ⊥) → register_of m (set taken v r) k ≡ register_of m taken k
  there taken v r k h = get_or-set_other taken v k r m.count h

  module _ (pr : Proper g) where
    -- one more register, if any, that is of v's class and overlaps no neighbour's
    pub separate_more : (taken : List ℕ) (v r : ℕ) → v < length taken →
        (r < m.count → m.belongs r (class_at g v) ≡ true) → ((k : ℕ) → has (neighbours g v) k ≡ true → m.overlaps r (register_of m taken k) ≡ false) →
        Separate m g taken → Separate m g (set taken v r)
    separate_more taken v r b of clear ok = record {
      whole = length-set taken v r ∙ ok.whole;
      apart = λ u w e. elim (cases_eq u v) [
        | inl p ↦ elim (cases_eq w v) [
          | inl q ↦ absurd (both_ways _ (pr.loopless v) (rw (p, q) at e))
          | inr q ↦ (let e' : has (neighbours g v) w ≡ true = rw p at e in rw (p, here taken v r b, there taken v r w q) (clear w e'))
        ]
        | inr p ↦ elim (cases_eq w v) [
          | inl q ↦ (let e' : has (neighbours g u) v ≡ true = rw q at e in rw (q, here taken v r b, there taken v r u p) (turned m l r (register_of m taken u) (clear u (pr.both_ways u v e'))))
          | inr q ↦ rw (there taken v r u p, there taken v r w q) (ok.apart u w e)
        ]
      ];
      fits = λ u h. elim (cases_eq u v) [
        | inl p ↦ (let h' : register_of m (set taken v r) v < m.count = rw p at h in rw (p, here taken v r b) (of (rw (here taken v r b) at h')))
        | inr p ↦ rw (there taken v r u p) (ok.fits u (rw (there taken v r u p) at h))
      ];
    }

    -- what the choice of v for its neighbours is: clear of them, and of the class if there is one
    choice_clear : (taken : List ℕ) (v : ℕ) → length taken ≡ length g.classes → (k : ℕ) → has (neighbours g v) k ≡ true → m.overlaps (choice m g taken v) (register_of m taken k) ≡ false
    choice_clear taken v long k e = elim (cases_lt (choice m g taken v) m.count) [
      | inl h ↦ (free_parts taken v _ long ((choice_free m g taken v).only h)).1 k e
      | inr h ↦ turned m l _ _ (none_apart m l _ _ h)
    ]

    pub separate : (order : List Removed) → Separate m g (selected m g order)
    unfolding selected
    separate [] = record {
      whole = length-replicate _ _;
      apart = λ u v e. none_apart m l _ _ (rw (none_yet v) (omega arith));
      fits = λ v h. absurd (omega (arith, none_yet v));
    }
    separate (r ∷ rs) =
        let taken = selected m g rs in
        let v = r.node in
        let ok = separate rs in
        elim (cases_lt v (length taken)) [
          | inl b ↦ separate_more taken v (choice m g taken v) b
              (λ h. (free_parts taken v _ ok.whole ((choice_free m g taken v).only h)).0) (choice_clear taken v ok.whole) ok
          | inr b ↦ rw (set_past taken v (choice m g taken v) b) ok
        ]

    -- who holds a register has returned
    holders : (rs : List Removed) (k : ℕ) → register_of m (selected m g rs) k < m.count → listed rs k ≡ true
    unfolding selected listed
    holders [] k h = absurd (omega (arith, none_yet k))
    holders (r ∷ rs) k h = elim (cases_eq r.node k) [
      | inl e ↦ or_left _ _ (eq-eqb _ _ e)
      | inr e ↦ or_right _ _ (holders rs k (rw (there (selected m g rs) r.node (choice m g (selected m g rs) r.node) k (λ q. e (sym q))) at h))
    ]

    -- a node that passes against its neighbours in rs finds a register when these have returned
    pub finds : (rs : List Removed) (v : ℕ) → passes m g v (later g rs v) ≡ true → choice m g (selected m g rs) v < m.count
    unfolding passes
    finds rs v e = test_finds (selected m g rs) v (later g rs v) (λ k _ h. (separate rs).fits k h) (λ k b f h. and_from _ _ f (holders rs k h)) (ltb-true _ _ e)

    pub tested_find : (vars : ℕ) (order : List Removed) → Orderly m g vars order → (v : ℕ) → listed order v ≡ true → hoped_for order v ≡ false → register_of m (selected m g order) v < m.count
    unfolding selected listed hoped_for
    tested_find vars [] o v is ho = absurd (both_ways false refl is)
    tested_find vars (r ∷ rs) (ok, rest) v is ho =
        let taken = selected m g rs in
        elim (cases_eq r.node v) [
          | inl p ↦ (
              let tested : r.hoped ≡ false = sym (cond-true (eqb r.node v) r.hoped (hoped_for rs v) (eq-eqb _ _ p)) ∙ ho in
              rw (← p, here taken r.node (choice m g taken r.node) (omega (arith, ok.inside, (separate rs).whole))) (finds rs r.node (ok.tested tested)))
          | inr p ↦ (
              let is' : (eqb r.node v || listed rs v) ≡ true = is in
              let ho' : cond (eqb r.node v) r.hoped (hoped_for rs v) ≡ false = ho in
              let away = ne_eqb r.node v p in
              rw (there taken r.node (choice m g taken r.node) v (λ q. p (sym q))) (tested_find vars rs rest v (rw away at is') (rw away at ho')))
        ]

pub test_finds_registers : TestFinds
test_finds_registers m l g taken v t classed counted low = test_finds m l g taken v t classed counted low

pub neighbours_apart : NeighboursApart
neighbours_apart m l g pr order = separate m l g pr order

pub tested_nodes_find : TestedFind
tested_nodes_find m l g pr vars order o v is ho = tested_find m l g pr vars order o v is ho
