-- Removal takes each node that is left once, by the test or in hope.
use Rattle.std.proofs.Common.{◌≡◌, ℕ, zero, suc, ◌*◌, ◌<◌, ◌≤◌, Bool, true, false, cond, not, ◌&&◌, eqb, ltb, ◌⊎◌, List, ◌∷◌, length, get_or, sym, refl, ap, ◌∙◌, inl, inr, arith}
use Rattle.std.proofs.lemmas.Bool.{cases_Bool, cases_lt, cases_eq, both_ways, and_from, and_parts, eq-eqb, ne_eqb, lt-ltb, le-ltb, ltb-true}
use Rattle.counting.specs.Counting.{least}
use Rattle.counting.proofs.Sums.{sum_below}
use Rattle.counting.proofs.Searches.{least_below, least_found}
use Rattle.sets.specs.Sets.{has, single, minus, size}
use Rattle.sets.proofs.Members.{has_meet, has_minus, has_single}
use Rattle.registers.specs.Model.{Model}
use Rattle.rounds.specs.declared.Removed.{Removed}
use Rattle.rounds.specs.declared.Offer.{Offer}
use Rattle.rounds.specs.Interference.{Graph, neighbours}
use Rattle.rounds.specs.Pressure.{pressure, passes}
use Rattle.rounds.specs.Simplify.{remaining, removable, no_offer, better, cheapest, next_removed, removals}
use Rattle.colouring.specs.Selecting.{Proper, listed, later, Rightly, Orderly}
use Rattle.colouring.specs.Removing.{Among, NeverStuck, AllRemoved}
use Rattle.colouring.proofs.Counts.{some_found, none_counted, count_without}

cond_le : (a b : Bool) (x : ℕ) → (a ≡ true → b ≡ true) → cond a x 0 ≤ cond b x 0
cond_le a b x h = grind arith

module _ (m : Model) (g : Graph) where
  -- fewer nodes press less
  pub pressure_fewer : (v : ℕ) (s t : ℕ → Bool) → ((k : ℕ) → s k ≡ true → t k ≡ true) → pressure m g v s ≤ pressure m g v t
  unfolding pressure
  pressure_fewer v s t h = sum_below _ _ _ (λ k b. cond_le (s k) (t k) _ (h k))

  pub passes_fewer : (v : ℕ) (s t : ℕ → Bool) → ((k : ℕ) → s k ≡ true → t k ≡ true) → passes m g v t ≡ true → passes m g v s ≡ true
  unfolding passes
  passes_fewer v s t h e = lt-ltb _ _ (omega (arith, pressure_fewer v s t h, ltb-true _ _ e))

  module _ (costs : List ℕ) (left : ℕ) where
    -- v takes the place of the best so far only if it is left
    better_one : (v : ℕ) (o : Offer) → (better m g costs left v o ≡ o) ⊎ (((better m g costs left v o).node ≡ v) × (has left v ≡ true))
    unfolding better
    better_one v o = elim (cases_Bool (has left v && ltb (get_or costs v 0 * o.pressure) (o.cost * pressure m g v (remaining g left v)))) [
      | inl e ↦ inr (rw e, (and_parts _ _ e).0)
      | inr e ↦ inl (rw e)
    ]

    -- the first that is under pressure does
    better_first : (v : ℕ) → has left v ≡ true → 0 < pressure m g v (remaining g left v) → (better m g costs left v no_offer).node ≡ v
    unfolding better
    better_first v e pos =
        let less : ltb (get_or costs v 0 * 0) (1 * pressure m g v (remaining g left v)) ≡ true = lt-ltb _ _ (omega arith) in
        rw (e, less)

    abbrev LeftBelow : ℕ → Offer → Type 0
    LeftBelow n o = (o.node < n) × (has left o.node ≡ true)

    kept : (n : ℕ) (o : Offer) → LeftBelow n o → LeftBelow (suc n) (better m g costs left n o)
    kept n o (lt, h) = elim (better_one n o) [ inl e ↦ rw e (omega arith, h) | inr (e, f) ↦ rw e (omega arith, f) ]

    offered : (n : ℕ) → (cheapest m g costs left n ≡ no_offer) ⊎ LeftBelow n (cheapest m g costs left n)
    unfolding cheapest
    offered zero = inl refl
    offered (suc n) = elim (offered n) [
      | inl none ↦ elim (better_one n (cheapest m g costs left n)) [ inl e ↦ inl (e ∙ none) | inr (e, f) ↦ inr (rw e (omega arith, f)) ]
      | inr found ↦ inr (kept n _ found)
    ]

    hit : (n v : ℕ) → v < n → has left v ≡ true → 0 < pressure m g v (remaining g left v) → LeftBelow n (cheapest m g costs left n)
    unfolding cheapest
    hit zero v lt e pos = absurd (omega arith)
    hit (suc n) v lt e pos = elim (cases_eq v n) [
      | inl p ↦ elim (offered n) [
        | inl none ↦ (
            let f : has left n ≡ true = rw p at e in
            let at_n : (better m g costs left n no_offer).node ≡ n = better_first n f (rw p at pos) in
            rw (none, at_n) (omega arith, f))
        | inr found ↦ kept n _ found
      ]
      | inr p ↦ kept n _ (hit n v (omega arith) e pos)
    ]

  removable_parts : (left v : ℕ) → removable m g left v ≡ true → (has left v ≡ true) × (passes m g v (remaining g left v) ≡ true)
  unfolding removable
  removable_parts left v e = and_parts _ _ e

  -- what is removed is left, passes if marked tested, is of source variables if marked hoped
  pub record Next (vars left : ℕ) (r : Removed) : Type 0 where
    pub is_left : has left r.node ≡ true
    pub passed : r.hoped ≡ false → passes m g r.node (remaining g left r.node) ≡ true
    pub of_source : r.hoped ≡ true → r.node < vars

  module _ (pr : Proper g) (costs : List ℕ) (ns : NeverStuck m g (length costs)) where
    next_ok : (left : ℕ) → Among g left → (w : ℕ) → has left w ≡ true → Next (length costs) left (next_removed m g costs left)
    unfolding next_removed
    next_ok left among w is =
        let n = length g.classes in
        let v = least (removable m g left) n in
        elim (cases_lt v n) [
          | inl h ↦ rw (lt-ltb v n h) (tested v (least_found (removable m g left) n h))
          | inr h ↦ rw (le-ltb v n h) (hoped (ns left among w is (λ k b. least_below (removable m g left) n k (omega arith))))
        ]
      where
        tested : (v : ℕ) → removable m g left v ≡ true → Next (length costs) left (record { node = v; hoped = false })
        tested v e = let both = removable_parts left v e in record { is_left = both.0; passed = λ _. both.1; of_source = λ f. absurd (both_ways false refl f) }

        hoped : (v : ℕ) × (v < length costs) × (has left v ≡ true) × (0 < pressure m g v (remaining g left v)) →
            Next (length costs) left (record { node = (cheapest m g costs left (length costs)).node; hoped = true })
        hoped (v, lt, e, pos) =
            let found = hit costs left (length costs) v lt e pos in
            record { is_left = found.1; passed = λ f. absurd (both_ways true f refl); of_source = λ _. found.0 }

    -- what is left when v is gone
    gone : (left v k : ℕ) → has (minus left (single v)) k ≡ (has left k && not (eqb k v))
    gone left v k = has_minus left (single v) k ∙ ap (λ (b : Bool). has left k && not b) (has_single v k)

    gone_left : (left v k : ℕ) → has (minus left (single v)) k ≡ true → has left k ≡ true
    gone_left left v k e = let f : (has left k && not (eqb k v)) ≡ true = sym (gone left v k) ∙ e in (and_parts _ _ f).0

    gone_self : (left v : ℕ) → has (minus left (single v)) v ≡ false
    gone_self left v = gone left v v ∙ (rw (eq-eqb v v refl) (grind arith))

    gone_other : (left v k : ℕ) → (k ≡ v → ⊥) → has (minus left (single v)) k ≡ has left k
    gone_other left v k ne = gone left v k ∙ (rw (ne_eqb k v ne) (grind arith))

    -- one removal before the others
    step : (left : ℕ) (r : Removed) (rs : List Removed) → Among g left → Next (length costs) left r →
        ((k : ℕ) → listed rs k ≡ has (minus left (single r.node)) k) → Rightly m g (length costs) r rs × ((k : ℕ) → listed (r ∷ rs) k ≡ has left k)
    unfolding listed
    step left r rs among ok same =
        let v = r.node in (
          record {
            inside = pr.inside v (among v ok.is_left);
            once = same v ∙ gone_self left v;
            tested = λ e. passes_fewer v (later g rs v) (remaining g left v)
                (λ k f. let both = and_parts (has (neighbours g v) k) _ f in has_meet (neighbours g v) left k ∙ and_from _ _ both.0 (gone_left left v k (sym (same k) ∙ both.1)))
                (ok.passed e);
            of_source = ok.of_source;
          },
          λ k. elim (cases_eq v k) [
            | inl p ↦ rw (eq-eqb v k p) (sym (ap (has left) (sym p) ∙ ok.is_left))
            | inr p ↦ rw (ne_eqb v k p) (same k ∙ gone_other left v k (λ q. p (sym q)))
          ],
        )

    removed : (k left : ℕ) → k ≡ size (length g.classes) left → Among g left →
        Orderly m g (length costs) (removals m g costs k left) × ((v : ℕ) → listed (removals m g costs k left) v ≡ has left v)
    unfolding removals listed
    removed zero left e among = (
      tt,
      λ v. elim (cases_Bool (has left v)) [
        | inl f ↦ absurd (both_ways _ (none_counted (has left) _ v (sym e) (pr.inside v (among v f))) f)
        | inr f ↦ sym f
      ],
    )
    removed (suc k) left e among =
        let n = length g.classes in
        let r = next_removed m g costs left in
        let (w, lt, is) = some_found (has left) n (omega arith) in
        let ok = next_ok left among w is in
        let fewer = count_without (has (minus left (single r.node))) (has left) r.node n (pr.inside _ (among _ ok.is_left)) ok.is_left (gone_self left r.node) (gone_other left r.node) in
        let (rest, same) = removed k (minus left (single r.node)) (omega arith) (λ v f. among v (gone_left left r.node v f)) in
        let (right, listed-now) = step left r _ among ok same in
        ((right, rest), listed-now)

pub all_removed : AllRemoved
all_removed m g costs left pr ns among = removed m g pr costs ns _ left refl among
