-- The light nodes when one node more is gone.
use Rattle.std.proofs.Common.{◌≡◌, ℕ, ◌≤◌, min, Bool, true, false, cond, not, ◌&&◌, ◌||◌, eqb, ltb, length, sym, refl, ap, ◌∙◌, inl, inr, arith}
use Rattle.std.proofs.lemmas.Bool.{cases_Bool, cases_eq, lt-ltb, ltb-true, ne_eqb}
use Rattle.counting.proofs.Sums.{sum_ext, sum_below}
use Rattle.sets.specs.Sets.{has, single, meet, minus, up_to}
use Rattle.sets.proofs.Members.{has_meet, has_minus, has_single, has_up_to}
use Rattle.registers.specs.Model.{Model}
use Rattle.rounds.specs.Interference.{Graph, class_at, neighbours}
use Rattle.rounds.specs.Pressure.{pressure, passes}
use Rattle.rounds.specs.Simplify.{remaining, removable}
use Rattle.simplify.specs.Lightness.{Light}

-- what is left without one node
gone_is : (before v k : ℕ) → has (minus before (single v)) k ≡ (has before k && not (eqb k v))
gone_is before v k = rw (has_minus before (single v) k, has_single v k)

remains : (g : Graph) (before v k j : ℕ) → remaining g (minus before (single v)) k j ≡ (remaining g before k j && not (eqb j v))
remains g before v k j =
    rw (has_meet (neighbours g k) (minus before (single v)) j, has_meet (neighbours g k) before j, gone_is before v j) (grind arith)

-- the pressure falls
pressure_falls : (m : Model) (g : Graph) (before v k : ℕ) → pressure m g k (remaining g (minus before (single v)) k) ≤ pressure m g k (remaining g before k)
unfolding pressure
pressure_falls m g before v k =
    sum_below _ _ (length g.classes) (λ j _. rw (remains g before v k j) (less (remaining g before k j) (eqb j v) (m.q (class_at g k) (class_at g j))))
  where
    less : (a b : Bool) (q : ℕ) → cond (a && not b) q 0 ≤ cond a q 0
    less true true q = omega arith
    less true false q = omega arith
    less false b q = omega arith

-- and stays where the node was no neighbour
pressure_stays : (m : Model) (g : Graph) (before v k : ℕ) → has (neighbours g k) v ≡ false → pressure m g k (remaining g (minus before (single v)) k) ≡ pressure m g k (remaining g before k)
unfolding pressure
pressure_stays m g before v k apart =
    sum_ext _ _ (length g.classes) (λ j _. ap (λ (b : Bool). cond b (m.q (class_at g k) (class_at g j)) 0) (same j))
  where
    same : (j : ℕ) → remaining g (minus before (single v)) k j ≡ remaining g before k j
    same j = elim (cases_eq j v) [
      | inl e ↦ (let none : has (neighbours g k) j ≡ false = ap (has (neighbours g k)) e ∙ apart in
          rw (has_meet (neighbours g k) (minus before (single v)) j, has_meet (neighbours g k) before j, none))
      | inr n ↦ rw (remains g before v k j, ne_eqb j v n) (grind arith)
    ]

-- so one that passed passes still
passes_still : (m : Model) (g : Graph) (before v k : ℕ) → passes m g k (remaining g before k) ≡ true → passes m g k (remaining g (minus before (single v)) k) ≡ true
unfolding passes
passes_still m g before v k h =
    lt-ltb _ _ (omega (arith, ltb-true _ _ h, pressure_falls m g before v k))

passes_same : (m : Model) (g : Graph) (before v k : ℕ) → has (neighbours g k) v ≡ false → passes m g k (remaining g (minus before (single v)) k) ≡ passes m g k (remaining g before k)
unfolding passes
passes_same m g before v k apart = ap (λ (n : ℕ). ltb n (m.p (class_at g k))) (pressure_stays m g before v k apart)

-- the tests of one node: it was left, is another than the one gone, passed, is a neighbour, passes now
table : (was other passed near passes : Bool) → (passed ≡ true → passes ≡ true) → (near ≡ false → passes ≡ passed) →
    (((was && passed) && other) || (((was && other) && not (was && passed)) && (near && passes))) ≡ ((was && other) && passes)
table false other passed near passes f g = refl
table true false true near passes f g = refl
table true false false near passes f g = refl
table true true true near passes f g = sym (f refl)
table true true false true passes f g = refl
table true true false false passes f g = sym (g refl)

-- whether j had the node gone for a neighbour and passes the test now
abbrev pub eases : Model → Graph → ℕ → ℕ → ℕ → Bool
eases m g left gone j = has (neighbours g j) gone && passes m g j (remaining g left j)

-- what was light, less the node gone, and what is eased of the heavy ones, is light
pub light_now : (m : Model) (g : Graph) (before v left light : ℕ) (after heavy : ℕ → Bool) → left ≡ minus before (single v) → Light m g before light →
    ((k : ℕ) → heavy k ≡ ((has left k && not (has light k)) && ltb k (length g.classes))) →
    ((k : ℕ) → after k ≡ ((has light k && not (eqb k v)) || (heavy k && eases m g left v k))) →
    (k : ℕ) → after k ≡ (ltb k (length g.classes) && removable m g left k)
unfolding removable
light_now m g before v left light after heavy same is-light is-heavy is-after k =
    is-after k ∙ elim (cases_Bool (ltb k (length g.classes))) [
      | inl e ↦ rw (is-heavy k, is-light k, left_is, e) (shuffle (has before k) (not (eqb k v)) (passes m g k (remaining g before k)) (has (neighbours g k) v) (passes m g k (remaining g left k)) still equal)
      | inr e ↦ rw (is-heavy k, is-light k, e) (grind arith)
    ]
  where
    left_is : has left k ≡ (has before k && not (eqb k v))
    left_is = ap (λ (x : ℕ). has x k) same ∙ gone_is before v k

    still : passes m g k (remaining g before k) ≡ true → passes m g k (remaining g left k) ≡ true
    still h = ap (λ (x : ℕ). passes m g k (remaining g x k)) same ∙ passes_still m g before v k h

    equal : has (neighbours g k) v ≡ false → passes m g k (remaining g left k) ≡ passes m g k (remaining g before k)
    equal apart = ap (λ (x : ℕ). passes m g k (remaining g x k)) same ∙ passes_same m g before v k apart

    right : (b : Bool) → (b && true) ≡ b
    right true = refl
    right false = refl

    shuffle : (was other passed near passes : Bool) → (passed ≡ true → passes ≡ true) → (near ≡ false → passes ≡ passed) →
        (((was && passed) && other) || ((((was && other) && not (was && passed)) && true) && (near && passes))) ≡ ((was && other) && passes)
    shuffle was other passed near passes f g = ap (λ (b : Bool). ((was && passed) && other) || (b && (near && passes))) (right ((was && other) && not (was && passed))) ∙ table was other passed near passes f g

-- the heavy nodes are those left that are not light
pub heavy_is : (left light n heavy : ℕ) → n ≤ 448 → heavy ≡ meet (minus left light) (up_to (min n 448)) → (k : ℕ) → has heavy k ≡ ((has left k && not (has light k)) && ltb k n)
heavy_is left light n heavy few e k =
    let m : min n 448 ≡ n = omega arith in
    rw (e, m, has_meet (minus left light) (up_to n) k, has_minus left light k, has_up_to n k)
