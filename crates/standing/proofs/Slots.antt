-- A round that spills gives its nodes slots of their own, and their variables places.
use Rattle.std.proofs.Common.{◌≡◌, ℕ, suc, ◌+◌, ◌-◌, ◌<◌, ◌≤◌, Bool, true, false, cond, ◌&&◌, ltb, ◌⊎◌, List, length, sym, refl, ap, ◌∙◌, inl, inr, zero-add, arith}
use Rattle.std.proofs.lemmas.List.{get_or_past, get_or-map, length-map}
use Rattle.std.proofs.lemmas.Bool.{cases_Bool, cases_lt, cases_order, lt-ltb, ltb-true, and_parts, and_from, cond-true, cond-false}
use Rattle.counting.specs.Counting.{count, range}
use Rattle.counting.proofs.Sums.{sum_below}
use Rattle.sets.specs.Sets.{has, size}
use Rattle.rounds.specs.Interference.{node_at}
use Rattle.rounds.specs.Round.{Outcome, hoped_for}
use Rattle.compiling.specs.declared.Home.TheVariants.{Slot}
use Rattle.compiling.specs.declared.Place.{Place}
use Rattle.compiling.specs.Working.{Working, no_place, place_of, is_slot, number_of, spilled}
use Rattle.compiling.specs.Spill.{Order, slot_in, spill_order, slots_after, places_spilled}
use Rattle.simulation.specs.Static.{slot_of}
use Rattle.standing.specs.Standing.{bit, Standing, Spills, SlotOfNode}
use Rattle.standing.proofs.Lines.{has_those, range_length, range_at, count_rises, count_only, count_add}
use Rattle.standing.proofs.Round.{Fresh, slot_stays}

bit_mono : (x y : Bool) → (x ≡ true → y ≡ true) → bit x ≤ bit y
bit_mono false y h = omega arith
bit_mono true y h = rw (h refl) (omega arith)

module _ (w : Working) (start : ℕ → ℕ) (o : Outcome) (st : Standing w start) (sp : Spills w o) where
  abbrev pub ord : Order
  ord = spill_order w o

  abbrev vars : ℕ
  vars = w.source.vars

  abbrev node : ℕ → ℕ
  node v = node_at o.graph v

  abbrev pub after : List Place
  after = places_spilled w o

  out_is : (v : ℕ) → has ord.out v ≡ (ltb v vars && has o.spilled (node v))
  unfolding spill_order
  out_is v = has_those (λ v. has o.spilled (node_at o.graph v)) vars v

  out_parts : (v : ℕ) → has ord.out v ≡ true → (v < vars) × (has o.spilled (node v) ≡ true)
  out_parts v y = let e = and_parts (ltb v vars) _ (sym (out_is v) ∙ y) in (ltb-true _ _ e.0, e.1)

  out_from : (v : ℕ) → v < vars → has o.spilled (node v) ≡ true → has ord.out v ≡ true
  out_from v h y = out_is v ∙ and_from _ _ (lt-ltb v vars h) y

  pub slot_is : (v : ℕ) → v < vars → slot_in ord v ≡ w.slots + size (node v) o.spilled
  unfolding spill_order
  slot_is v h =
      get_or-map (λ v. w.slots + size (node_at o.graph v) o.spilled) (range vars 0) v 0 0 (omega (arith, range_length vars 0))
      ∙ ap (λ (v : ℕ). w.slots + size (node_at o.graph v) o.spilled) (range_at vars 0 v h ∙ zero-add v)

  abbrev given : ℕ → Place
  given v = record { home = Slot (slot_in ord v); round = suc w.rounds; hoped = hoped_for o.order (node v) }

  place_is : (v : ℕ) → v < vars → place_of after v ≡ cond (has ord.out v) (given v) (place_of w.places v)
  unfolding places_spilled
  place_is v h =
      get_or-map (λ v. cond (has ord.out v) (given v) (place_of w.places v)) (range vars 0) v 0 no_place (omega (arith, range_length vars 0))
      ∙ ap (λ (v : ℕ). cond (has ord.out v) (given v) (place_of w.places v)) (range_at vars 0 v h ∙ zero-add v)

  pub places_length : length after ≡ vars
  unfolding places_spilled
  places_length = length-map (range vars 0) _ ∙ range_length vars 0

  pub low : vars ≤ length w.classes
  low = omega (arith, st.classes)

  pub fresh : Fresh w.source w.places after ord w.classes
  fresh = record {
    vars = λ v y. (out_parts v y).0;
    new = λ v y. let e = out_parts v y in sp.members v e.0 e.1;
    now = λ v y. let e = place_is v (out_parts v y).0 ∙ cond-true _ _ _ y in (ap (λ (z : Place). is_slot z.home) e, ap (λ (z : Place). number_of z.home) e);
    old = λ v n. elim (cases_lt v vars) [
      | inl h ↦ place_is v h ∙ cond-false _ _ _ n
      | inr h ↦ get_or_past after v no_place (omega (arith, places_length)) ∙ sym (get_or_past w.places v no_place (omega (arith, st.places)))
    ];
    class = st.class;
    low = low;
  }

  -- a new slot is below the slots given after the round, and above those before
  pub slot_new : (v : ℕ) → has ord.out v ≡ true → (w.slots ≤ slot_in ord v) × (slot_in ord v < slots_after w o)
  unfolding slots_after
  slot_new v y =
      let (h, e) = out_parts v y in
      (omega (arith, slot_is v h), omega (arith, slot_is v h, low, count_rises (has o.spilled) (node v) (length w.classes) (omega (arith, low, (sp.own (node v) e).0)) e))

  pub slots_grow : w.slots ≤ slots_after w o
  unfolding slots_after
  slots_grow = omega arith

  pub slot_below_lem : (v : ℕ) → spilled after v ≡ true → slot_of after v < slots_after w o
  slot_below_lem v y = elim (cases_Bool (has ord.out v)) [
    | inl e ↦ omega (arith, (fresh.now v e).1, (slot_new v e).1)
    | inr e ↦
        (let was : spilled w.places v ≡ true = sym (ap (λ (z : Place). is_slot z.home) (fresh.old v e)) ∙ y in
        omega (arith, slot_stays w.source w.places after ord w.classes fresh v was, st.slot v was, slots_grow))
  ]

  both : (k : ℕ) → bit (spilled w.places k) + bit (has ord.out k) ≡ bit (spilled after k)
  both k = elim (cases_Bool (has ord.out k)) [
    | inl e ↦ rw (e, fresh.new k e, (fresh.now k e).0) refl
    | inr e ↦ (let same : spilled after k ≡ spilled w.places k = ap (λ (z : Place). is_slot z.home) (fresh.old k e) in rw (e, same) (omega arith))
  ]

  -- each slot has a variable of its own
  pub slots_count : slots_after w o ≤ count (spilled after) vars
  unfolding slots_after
  slots_count =
      let t : ℕ → Bool = has o.spilled in
      let d : ℕ = length w.classes - vars in
      let e : length w.classes ≡ vars + d = omega (arith, low) in
      let few : count t (length w.classes) ≡ count t vars = ap (count t) e ∙ count_only t vars d (λ k y. (sp.own k y).0) in
      let less : count t vars ≤ count (has ord.out) vars =
      sum_below (λ k. cond (t k) 1 0) (λ k. cond (has ord.out k) 1 0) vars (λ k h. bit_mono (t k) (has ord.out k) (λ y. out_from k h (ap t (sp.own k y).1 ∙ y))) in
      let all : count (spilled w.places) vars + count (has ord.out) vars ≡ count (spilled after) vars = count_add (spilled w.places) (has ord.out) (spilled after) vars (λ k h. both k) in
      omega (arith, st.slots)

  size_apart : (u v : ℕ) → has o.spilled u ≡ true → has o.spilled v ≡ true → size u o.spilled ≡ size v o.spilled → u ≡ v
  size_apart u v x y e = elim (cases_order u v) [
    | inl z ↦ z
    | inr (inl z) ↦ absurd (omega (arith, count_rises (has o.spilled) u v z x))
    | inr (inr z) ↦ absurd (omega (arith, count_rises (has o.spilled) v u z y))
  ]

  -- two variables share a slot only if they did, or are of one node spilled now
  pub shared : (u v : ℕ) → spilled after u ≡ true → spilled after v ≡ true → slot_of after u ≡ slot_of after v →
      ((spilled w.places u ≡ true) × (spilled w.places v ≡ true) × (slot_of w.places u ≡ slot_of w.places v))
      ⊎ ((has o.spilled (node u) ≡ true) × (node u ≡ node v))
  shared u v x y e = elim (cases_Bool (has ord.out u)) [
    | inl a ↦ elim (cases_Bool (has ord.out v)) [
      | inl b ↦
          (let (uh, us) = out_parts u a in let (vh, vs) = out_parts v b in
          let same : size (node u) o.spilled ≡ size (node v) o.spilled = omega (arith, (fresh.now u a).1, (fresh.now v b).1, slot_is u uh, slot_is v vh) in
          inr (us, size_apart (node u) (node v) us vs same))
      | inr b ↦ (let c = was v b y in absurd (omega (arith, (fresh.now u a).1, (slot_new u a).0, c.1, st.slot v c.0)))
    ]
    | inr a ↦
        (let c = was u a x in
        elim (cases_Bool (has ord.out v)) [
          | inl b ↦ absurd (omega (arith, (fresh.now v b).1, (slot_new v b).0, c.1, st.slot u c.0))
          | inr b ↦ (let d = was v b y in inl (c.0, d.0, sym c.1 ∙ e ∙ d.1))
        ])
  ]
    where
      was : (x : ℕ) → has ord.out x ≡ false → spilled after x ≡ true → (spilled w.places x ≡ true) × (slot_of after x ≡ slot_of w.places x)
      was x n y = (sym (ap (λ (z : Place). is_slot z.home) (fresh.old x n)) ∙ y, ap (λ (z : Place). number_of z.home) (fresh.old x n))

pub slot_of_node : SlotOfNode
slot_of_node w start o st sp = shared w start o st sp
