-- Each round that does not colour spills a variable more, so one colours in time.
use Rattle.std.proofs.Common.{◌≡◌, ℕ, zero, suc, ◌+◌, ◌<◌, ◌≤◌, Bool, true, false, cond, not, ◌&&◌, ◌||◌, eqb, ltb, ◌⊎◌, List, [], ◌∷◌, map, length, get_or, replicate, sym, refl, ap, ◌∙◌, subst, inl, inr, arith}
use lib.ListN.{length-replicate, get_or-replicate}
use Rattle.std.proofs.lemmas.List.{get_or_past}
use Rattle.std.proofs.lemmas.Bool.{cases_Bool, cases_eq, cases_lt, both_ways, or_cases, or_left, or_right, or_parts, and_from, and_parts, eq-eqb, eqb-true, lt-ltb, not-true, not_from_true, not_from_false, cond-true, cond-false}
use Rattle.counting.specs.Counting.{sum, count, range}
use Rattle.counting.proofs.Sums.{count_le}
use Rattle.sets.specs.Sets.{has}
use Rattle.rows.specs.Rows.{Program}
use Rattle.registers.specs.Model.{Model}
use Rattle.rounds.specs.Liveness.{live_after}
use Rattle.rounds.specs.Interference.{Graph, node_at, interference}
use Rattle.rounds.specs.Round.{Outcome, colours, hoped_for, graph_of}
use Rattle.compiling.specs.declared.Home.TheVariants.{Open, Register, Slot}
use Rattle.compiling.specs.declared.Place.{Place}
use Rattle.compiling.specs.Working.{Working, Compiled, no_place, place_of, is_slot, spilled, admitted, unspilled, round_of}
use Rattle.compiling.specs.Spill.{slot_in, spill_order, places_spilled}
use Rattle.compiling.specs.Rewrite.{rewritten}
use Rattle.compiling.specs.Emit.{registers_of, places_coloured, emitted}
use Rattle.compiling.specs.Compile.{compiled_in, compiling}
use Rattle.colouring.specs.Rounds.{Settled}
use Rattle.colouring.proofs.Rounds.{has_those}
use Rattle.colouring.proofs.Counts.{count_up}
use Rattle.interfering.proofs.Living.{table_at, table_length}
use Rattle.merging.specs.Merging.{Coalesces}
use Rattle.merging.proofs.Rounds.{round_merges}
use Rattle.assembling.specs.Assembling.{InOrder}
use Rattle.assembling.specs.Rounds.{turn, unplaced, Hoped, Carried, Ends, worked, Reached, FewRounds}
use Rattle.assembling.proofs.Apart.{graph_of_lem}

-- fewer pass s than t, if all that pass s pass t and one passes t alone
pub count_less : (s t : ℕ → Bool) (v n : ℕ) → v < n → t v ≡ true → s v ≡ false → ((k : ℕ) → k < n → s k ≡ true → t k ≡ true) → count s n < count t n
unfolding sum
count_less s t v zero l e f h = absurd (omega arith)
count_less s t v (suc n) l e f h =
    elim (cases_eq v n) [
      | inl p ↦ (let et : t n ≡ true = rw p at e in let fs : s n ≡ false = rw p at f in rw (et, fs) (omega (arith, count_up s t n (λ k b. h k (omega arith)))))
      | inr p ↦ (let rest = count_less s t v n (omega arith) e f (λ k b. h k (omega arith)) in
          elim (cases_Bool (s n)) [ inl q ↦ rw (q, h n (omega arith) q) (omega arith) | inr q ↦ rw q (omega arith) ])
    ]

-- ---- places after a round

module _ (w : Working) (o : Outcome) where
  abbrev vars : ℕ
  vars = w.source.vars

  abbrev out : ℕ → Bool
  out v = has (spill_order w o).out v

  abbrev slotted : ℕ → Place
  slotted v = record { home = Slot (slot_in (spill_order w o) v); round = suc w.rounds; hoped = hoped_for o.order (node_at o.graph v) }

  abbrev pub kept : ℕ → Place
  kept v = record { home = Register (get_or (registers_of o) v 0); round = suc w.rounds; hoped = hoped_for o.order (node_at o.graph v) }

  out_is : (v : ℕ) → out v ≡ (ltb v vars && has o.spilled (node_at o.graph v))
  unfolding spill_order
  out_is v = has_those (λ v. has o.spilled (node_at o.graph v)) vars v

  spilled_at : (v : ℕ) → v < vars → place_of (places_spilled w o) v ≡ cond (out v) (slotted v) (place_of w.places v)
  unfolding places_spilled
  spilled_at v l = let e : 0 + v ≡ v = omega arith in table_at (λ v. cond (out v) (slotted v) (place_of w.places v)) vars 0 v no_place l ∙ ap (λ (v : ℕ). cond (out v) (slotted v) (place_of w.places v)) e

  spilled_past : (v : ℕ) → vars ≤ v → place_of (places_spilled w o) v ≡ no_place
  unfolding places_spilled
  spilled_past v l = get_or_past (places_spilled w o) v no_place (omega (arith, table_length (λ v. cond (out v) (slotted v) (place_of w.places v)) vars 0))

  pub coloured_at : (v : ℕ) → v < vars → place_of (places_coloured w o) v ≡ cond (spilled w.places v) (place_of w.places v) (kept v)
  unfolding places_coloured
  coloured_at v l = let e : 0 + v ≡ v = omega arith in table_at (λ v. cond (spilled w.places v) (place_of w.places v) (kept v)) vars 0 v no_place l ∙ ap (λ (v : ℕ). cond (spilled w.places v) (place_of w.places v) (kept v)) e

  pub coloured_past : (v : ℕ) → vars ≤ v → place_of (places_coloured w o) v ≡ no_place
  unfolding places_coloured
  coloured_past v l = get_or_past (places_coloured w o) v no_place (omega (arith, table_length (λ v. cond (spilled w.places v) (place_of w.places v) (kept v)) vars 0))

  -- spilled after a round: what it spills, and what was spilled
  pub spilled_after : (v : ℕ) → v < vars → spilled (places_spilled w o) v ≡ (out v || spilled w.places v)
  spilled_after v l = ap (λ (x : Place). is_slot x.home) (spilled_at v l) ∙ elim (cases_Bool (out v)) [ inl e ↦ rw e | inr e ↦ rw e ]

  -- none in a slot but what was hoped for
  pub hoped_spilled : ((v : ℕ) → has o.spilled v ≡ true → hoped_for o.order v ≡ true) → Hoped w.places → Hoped (places_spilled w o)
  hoped_spilled hopes was v h = elim (cases_lt v vars) [
    | inr l ↦ absurd (both_ways false refl (subst (λ (x : Place). is_slot x.home ≡ true) (spilled_past v l) h))
    | inl l ↦ elim (cases_Bool (out v)) [
      | inl e ↦ ap (λ (x : Place). x.hoped) (spilled_at v l ∙ cond-true (out v) (slotted v) (place_of w.places v) e) ∙ hopes (node_at o.graph v) (and_parts (ltb v vars) _ (sym (out_is v) ∙ e)).1
      | inr e ↦ (let q : place_of (places_spilled w o) v ≡ place_of w.places v = spilled_at v l ∙ cond-false (out v) (slotted v) (place_of w.places v) e in
          ap (λ (x : Place). x.hoped) q ∙ was v (subst (λ (x : Place). is_slot x.home ≡ true) q h))
    ]
  ]

  pub hoped_coloured : Hoped w.places → Hoped (places_coloured w o)
  hoped_coloured was v h = elim (cases_lt v vars) [
    | inr l ↦ absurd (both_ways false refl (subst (λ (x : Place). is_slot x.home ≡ true) (coloured_past v l) h))
    | inl l ↦ elim (cases_Bool (spilled w.places v)) [
      | inl e ↦ ap (λ (x : Place). x.hoped) (coloured_at v l ∙ cond-true (spilled w.places v) (place_of w.places v) (kept v) e) ∙ was v e
      | inr e ↦ absurd (both_ways false refl (subst (λ (x : Place). is_slot x.home ≡ true) (coloured_at v l ∙ cond-false (spilled w.places v) (place_of w.places v) (kept v) e) h))
    ]
  ]

  pub rewritten_places : (rewritten w o).places ≡ places_spilled w o
  unfolding rewritten
  rewritten_places = refl

  pub rewritten_source : (rewritten w o).source ≡ w.source
  unfolding rewritten
  rewritten_source = refl

  pub rewritten_rounds : (rewritten w o).rounds ≡ suc w.rounds
  unfolding rewritten
  rewritten_rounds = refl

  pub emitted_places : (emitted w o).places ≡ places_coloured w o
  unfolding emitted
  emitted_places = refl

  pub emitted_rounds : (emitted w o).rounds ≡ suc w.rounds
  unfolding emitted
  emitted_rounds = refl

-- ---- a round that does not colour spills a variable that was not spilled

module _ (m : Model) (w : Working) (ok : InOrder m w) where
  pub spills_new : colours (round_of m w) ≡ false → (v : ℕ) × (v < w.source.vars) × (spilled w.places v ≡ false) × (out w (round_of m w) v ≡ true)
  unfolding interference unspilled
  spills_new none =
      let s = ok.settled in
      let (v, h) = s.spilled_some none in
      let l = s.spilled_source v h in
      let merges = (round_merges m w.source.vars w.classes (unspilled w) w.rows ok.names ok.alike).0 in
      let node : has (graph_of m w.source.vars w.classes (unspilled w) w.rows).nodes v ≡ true = ap (λ (x : Graph). has x.nodes v) (sym (graph_of_lem m w)) ∙ s.spilled_node v h in
      let (old, self) = and_parts (has (unspilled w) v) _ (sym (merges.nodes v) ∙ node) in
      let own : node_at (round_of m w).graph v ≡ v = ap (λ (x : Graph). node_at x v) (graph_of_lem m w) ∙ eqb-true _ _ self in
      let free : not (spilled w.places v) ≡ true = (and_parts (ltb v (length w.classes)) _ (sym (has_those (λ v. not (spilled w.places v)) (length w.classes) v) ∙ old)).1 in
      (v, l, not-true _ free, out_is w (round_of m w) v ∙ and_from _ _ (lt-ltb v w.source.vars l) (ap (has (round_of m w).spilled) own ∙ h))

  pub fewer : colours (round_of m w) ≡ false → unplaced (rewritten w (round_of m w)) < unplaced w
  fewer none =
      let o = round_of m w in
      let (v, l, free, goes) = spills_new none in
      rw (rewritten_places w o, rewritten_source w o)
      (count_less (λ k. not (spilled (places_spilled w o) k)) (λ k. not (spilled w.places k)) v w.source.vars l (not_from_false _ free)
      (not_from_true _ (spilled_after w o v l ∙ or_left _ _ goes))
      (λ k b e. not_from_false _ (or_parts (out w o k) (spilled w.places k) (sym (spilled_after w o k b) ∙ not-true _ e)).1))

-- ---- all rounds

module _ (files : ℕ → Model) (P : Working → Type 0) (carried : Carried files P) (p : Program) where
  ends : (k : ℕ) (w : Working) → P w → w.source ≡ p → unplaced w < k → w.rounds + unplaced w ≤ w.source.vars → Hoped w.places → Ends files P p (compiled_in files k w)
  unfolding compiled_in
  ends zero w has_P is-p l few hoped = absurd (omega arith)
  ends (suc k) w has_P is-p l few hoped =
      let o = turn files w in
      let ok = carried.ordered w has_P in
      elim (cases_Bool (colours o)) [
        | inl e ↦ subst (Ends files P p) (sym (cond-true (colours o) (emitted w o) (compiled_in files k (rewritten w o)) e)) (record {
          last = w;
          has_P = has_P;
          source = is-p;
          done = e;
          code = refl;
          few = omega (arith, emitted_rounds w o, ap (λ (x : Program). x.vars) is-p);
          hoped = rw (emitted_places w o) (hoped_coloured w o hoped);
        })
        | inr e ↦ (let less = fewer (files (suc w.rounds)) w ok e in
            subst (Ends files P p) (sym (cond-false (colours o) (emitted w o) (compiled_in files k (rewritten w o)) e))
            (ends k (rewritten w o) (carried.kept w has_P e) (rewritten_source w o ∙ is-p) (omega arith)
            (omega (arith, less, rewritten_rounds w o, ap (λ (x : Program). x.vars) (rewritten_source w o)))
            (rw (rewritten_places w o) (hoped_spilled w o ok.settled.spilled_hoped hoped))))
      ]

  none_hoped : (n : ℕ) → Hoped (replicate n no_place)
  none_hoped n v h = absurd (both_ways false refl (subst (λ (x : Place). is_slot x.home ≡ true) (elim (cases_lt v n) [ inl l ↦ get_or-replicate n v no_place no_place l | inr l ↦ get_or_past (replicate n no_place) v no_place (omega (arith, length-replicate n no_place)) ]) h))

  pub compiled_ends : P (admitted p) → Ends files P p (compiling files p)
  unfolding compiling
  compiled_ends start =
      let most = count_le (λ v. not (spilled (admitted p).places v)) p.vars in
      ends (suc p.vars) (admitted p) start refl (omega arith) (omega arith) (none_hoped p.vars)

pub reached_carried : (files : ℕ → Model) (p : Program) → ((w : Working) → Reached files p w → InOrder (files (suc w.rounds)) w) → Carried files (Reached files p)
unfolding worked
reached_carried files p ok = record {
  kept = λ w (k, is, before) none. (
    suc k,
    ap (λ (x : Working). rewritten x (turn files x)) is,
    λ j l. elim (cases_eq j k) [
      | inl e ↦ rw e (subst (λ (x : Working). colours (turn files x) ≡ false) is none)
      | inr e ↦ before j (omega arith)
    ],
  );
  ordered = ok;
}

pub few_rounds : FewRounds
unfolding worked
few_rounds files p ok = compiled_ends files (Reached files p) (reached_carried files p ok) p (0, refl, λ j l. absurd (omega arith))
