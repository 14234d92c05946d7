-- Removal never sticks where temporaries are paired at most.
use Rattle.std.proofs.Common.{◌≡◌, ℕ, ◌<◌, ◌≤◌, true, false, ◌&&◌, length, sym, ◌∙◌, inl, inr, arith}
use Rattle.std.proofs.lemmas.Bool.{cases_Bool, cases_lt, both_ways, and_cases, and_parts, ltb-false}
use Rattle.counting.specs.Counting.{any}
use Rattle.counting.proofs.Searches.{any_found}
use Rattle.sets.specs.Sets.{has}
use Rattle.sets.proofs.Members.{has_meet}
use Rattle.registers.specs.Model.{Model, Lawful}
use Rattle.rounds.specs.Interference.{Graph, neighbours, class_at}
use Rattle.rounds.specs.Pressure.{pressure, passes}
use Rattle.rounds.specs.Simplify.{remaining, removable}
use Rattle.colouring.specs.Selecting.{Proper}
use Rattle.colouring.specs.Removing.{Among, NonePasses, Paired, TemporariesPass}
use Rattle.colouring.proofs.Counts.{any_false, sum_one}

module _ (m : Model) (l : Lawful m) (g : Graph) (pr : Proper g) (vars : ℕ) (pa : Paired g vars) (left : ℕ) (among : Among g left) where
  -- one that is left and not removable is under a pressure of p or more
  pressed : (v : ℕ) → has left v ≡ true → removable m g left v ≡ false → m.p (class_at g v) ≤ pressure m g v (remaining g left v)
  unfolding removable passes
  pressed v is e = elim (and_cases (has left v) _ e) [ inl f ↦ absurd (both_ways _ f is) | inr f ↦ ltb-false _ _ f ]

  has_room : (b c : ℕ) → m.q (class_at g b) (class_at g c) < m.p (class_at g b)
  has_room b c = l.room _ _ (pa.classed b) (pa.classed c)

  -- a temporary among temporaries is under a pressure below p
  light : (w : ℕ) → vars ≤ w → any (has left) vars ≡ false → pressure m g w (remaining g left w) < m.p (class_at g w)
  unfolding pressure
  light w b none = sum_one (remaining g left w) (λ k. m.q (class_at g w) (class_at g k)) (m.p (class_at g w)) (length g.classes) (omega (arith, has_room w w)) (has_room w) (λ x y p q.
      let px = near x p in let py = near y q in pa.partner w x y b px.1 py.1 px.0 py.0)
    where
      near : (k : ℕ) → remaining g left w k ≡ true → (has (neighbours g w) k ≡ true) × (vars ≤ k)
      near k e =
          let f : (has (neighbours g w) k && has left k) ≡ true = sym (has_meet (neighbours g w) left k) ∙ e in
          let both = and_parts _ _ f in
          (both.0, elim (cases_lt k vars) [ inl h ↦ absurd (both_ways _ (any_false (has left) vars k none h) both.1) | inr h ↦ h ])

  unstuck : (w : ℕ) → has left w ≡ true → NonePasses m g left → (v : ℕ) × (v < vars) × (has left v ≡ true) × (0 < pressure m g v (remaining g left v))
  unstuck w is none = elim (cases_Bool (any (has left) vars)) [
    | inl e ↦ under (any_found (has left) vars e)
    | inr e ↦ absurd (elim (cases_lt w vars) [
      | inl h ↦ both_ways _ (any_false (has left) vars w e h) is
      | inr h ↦ (let full = pressed w is (none w (pr.inside w (among w is))) in omega (arith, light w h e))
    ])
  ]
    where
      under : (v : ℕ) × (v < vars) × (has left v ≡ true) → (v : ℕ) × (v < vars) × (has left v ≡ true) × (0 < pressure m g v (remaining g left v))
      under (v, b, e) = (v, b, e, (let full = pressed v e (none v (pr.inside v (among v e))) in omega (arith, has_room v v)))

pub temporaries_pass : TemporariesPass
temporaries_pass m l g pr vars pa left among = unstuck m l g pr vars pa left among
