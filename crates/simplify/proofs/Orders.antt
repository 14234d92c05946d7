-- What is removed next, and the order of removals.
use Rattle.std.proofs.Common.{◌≡◌, ℕ, suc, ◌+◌, ◌-◌, ◌*◌, ◌^◌, ◌<◌, ◌≤◌, min, true, false, cond, not, ◌&&◌, eqb, ltb, List, [], ◌∷◌, Option, Some, None, ◌++◌, map, length, get_or, sym, ap, ◌∙◌, inl, inr, append_assoc, append-nil, arith}
use Rattle.std.specs.Option.{unwrap_or}
use lib.Bits.{bit_xor, xor_lt, and_lt, and_zero_r}
use Rattle.std.proofs.lemmas.List.{length-take-le}
use Rattle.std.proofs.lemmas.Nat.{pow_below, pow_pos}
use Rattle.std.proofs.lemmas.Bool.{cases_lt, cases_eq, lt-ltb, le-ltb, ltb-true, ne_eqb, and_parts}
use Rattle.counting.specs.Counting.{least, range}
use Rattle.counting.proofs.Sums.{sum_ext}
use Rattle.counting.proofs.Searches.{least_is, least_none, least_below, least_found}
use Rattle.sets.specs.Sets.{has, single, meet, minus, up_to, when, size}
use Rattle.sets.proofs.Members.{has_meet, has_minus, has_single, has_when, has_up_to, has_none, has_past, same_members}
use Rattle.registers.specs.Model.{Model}
use Rattle.rounds.specs.declared.Removed.{Removed}
use Rattle.rounds.specs.declared.Offer.{Offer}
use Rattle.rounds.specs.Interference.{Graph}
use Rattle.rounds.specs.Simplify.{cost, remaining, removable, better, cheapest, next_removed, removals}
use Rattle.rounds.specs.Pressure.{pressure}
use Rattle.rounds.specs.Round.{order_of}
use Rattle.rows.specs.declared.Row.{Row}
use Rattle.sets.specs.Rising.{lowest}
use Rattle.graphs.proofs.Pressing.{sum_cut}
use Rattle.graphs.specs.declared.variables.Variables.{Variables}
use Rattle.graphs.specs.Graphs.{classes_of}
use Rattle.simplify.specs.Lightness.{Light}
use Rattle.simplify.proofs.Alike.{Alike, removals_alike}

-- a graph has as many nodes as there are variables
pub drawn_length : (vs : Variables) → length (classes_of vs) ≡ vs.count
drawn_length vs = length-take-le vs.count vs.classes (omega (arith, vs.few.1, vs.whole.0))

-- a number of 448 or more is in no node set
meet_past : (x v : ℕ) → x < 2 ^ 448 → 448 ≤ v → meet x (single v) ≡ 0
meet_past x v small l =
    let wide : x < 2 ^ (v + 1) = omega (arith, pow_below 448 (v + 1) (omega arith)) in
    same_members (v + 1) (meet x (single v)) 0 (and_lt (v + 1) x (2 ^ v) wide (pow_below v (v + 1) (omega arith))) (pow_pos (v + 1))
    (λ k _. has_meet x (single v) k ∙ elim (cases_eq k v) [
      | inl e ↦ rw (e, has_past x 448 v small l) (sym (has_none v))
      | inr n ↦ rw (has_single v k, ne_eqb k v n, has_none k) (grind arith)
    ])

pub gone_exact : (x v : ℕ) → x < 2 ^ 448 → minus x (when (ltb v 448) (single v)) ≡ minus x (single v)
gone_exact x v small =
    elim (cases_lt v 448) [
      | inl l ↦ rw (lt-ltb v 448 l)
      | inr l ↦ rw (le-ltb v 448 l) (ap (bit_xor x) (and_zero_r x ∙ sym (meet_past x v small l)))
    ]

pub gone_small : (x v : ℕ) → x < 2 ^ 448 → minus x (when (ltb v 448) (single v)) < 2 ^ 448
gone_small x v small = xor_lt 448 x (meet x (when (ltb v 448) (single v))) small (and_lt 448 x (when (ltb v 448) (single v)) small narrow)
  where
    narrow : when (ltb v 448) (single v) < 2 ^ 448
    narrow = elim (cases_lt v 448) [ inl l ↦ rw (lt-ltb v 448 l) (pow_below v 448 l) | inr l ↦ rw (le-ltb v 448 l) (pow_pos 448) ]

-- the light nodes without the one that is gone
pub light_gone : (m : Model) (g : Graph) (before light v : ℕ) → Light m g before light → length g.classes ≤ 448 →
    (k : ℕ) → has (minus light (when (ltb v 448) (single v))) k ≡ (has light k && not (eqb k v))
light_gone m g before light v is few k =
    has_minus light (when (ltb v 448) (single v)) k ∙ elim (cases_lt v 448) [
      | inl l ↦ rw (has_when (ltb v 448) (single v) k, lt-ltb v 448 l, has_single v k)
      | inr l ↦ elim (cases_eq k v) [
        | inl e ↦ rw (is k, le-ltb k (length g.classes) (omega arith))
        | inr n ↦ rw (has_when (ltb v 448) (single v) k, le-ltb v 448 l, ne_eqb k v n)
      ]
    ]

dark_heavy : (m : Model) (g : Graph) (left light k : ℕ) → Light m g left light → k < length g.classes → has light k ≡ false → removable m g left k ≡ false
dark_heavy m g left light k is l dark =
    let f : (true && removable m g left k) ≡ false = rw (lt-ltb k (length g.classes) l) at (sym (is k) ∙ dark) in f

no_less : (n : ℕ) → ltb n n ≡ false
no_less n = le-ltb n n (omega arith)

-- the lowest light node is the lowest that can be removed
lowest_light : (m : Model) (g : Graph) (left light v : ℕ) → Light m g left light → v ≡ least (has light) 448 → v < 448 → (v < length g.classes) × (v ≡ least (removable m g left) (length g.classes))
lowest_light m g left light v is e l =
    let here : has light v ≡ true = rw e (least_found (has light) 448 (rw e at l)) in
    let both = and_parts (ltb v (length g.classes)) (removable m g left v) (sym (is v) ∙ here) in
    let in_graph = ltb-true v (length g.classes) both.0 in (
      in_graph,
      least_is (removable m g left) (length g.classes) v in_graph
          (λ k b. dark_heavy m g left light k is (omega arith) (least_below (has light) 448 k (rw e at b)))
          both.1,
    )

none_light : (m : Model) (g : Graph) (left light v : ℕ) → Light m g left light → length g.classes ≤ 448 → v ≡ least (has light) 448 → 448 ≤ v → least (removable m g left) (length g.classes) ≡ length g.classes
none_light m g left light v is few e l =
    sym (least_none (removable m g left) (length g.classes) (λ k b.
    dark_heavy m g left light k is b (least_below (has light) 448 k (omega (arith, e)))))

pub next_tested : (m : Model) (g : Graph) (costs : List ℕ) (left light v : ℕ) → Light m g left light → v ≡ least (has light) 448 → v < 448 → (r : Removed) → r ≡ record { node = v; hoped = false } → r ≡ next_removed m g costs left
unfolding next_removed
next_tested m g costs left light v is e l r same =
    let (lt, low) = lowest_light m g left light v is e l in
    same ∙ rw (← low, lt-ltb v (length g.classes) lt)

pub next_hoped : (m : Model) (g : Graph) (costs : List ℕ) (left light v : ℕ) → Light m g left light → length g.classes ≤ 448 → v ≡ least (has light) 448 → 448 ≤ v →
    (o : Offer) → o ≡ cheapest m g costs left (length costs) → (r : Removed) → r ≡ record { node = o.node; hoped = true } → r ≡ next_removed m g costs left
unfolding next_removed
next_hoped m g costs left light v is few e l o best r same =
    same ∙ rw (none_light m g left light v is few e l, no_less (length g.classes), best)

-- the offer when v was looked at
pub better_gone : (m : Model) (g : Graph) (costs : List ℕ) (left v : ℕ) (o : Offer) → has left v ≡ false → o ≡ better m g costs left v o
unfolding better
better_gone m g costs left v o no' = rw no'

pub better_less : (m : Model) (g : Graph) (costs : List ℕ) (left v : ℕ) (o : Offer) (w : ℕ) → has left v ≡ true → w ≡ pressure m g v (remaining g left v) → get_or costs v 0 * o.pressure < o.cost * w →
    (r : Offer) → r ≡ record { node = v; cost = get_or costs v 0; pressure = w } → r ≡ better m g costs left v o
unfolding better
better_less m g costs left v o w yes' e h r same = same ∙ rw (yes', ← e, lt-ltb (get_or costs v 0 * o.pressure) (o.cost * w) h)

pub better_same : (m : Model) (g : Graph) (costs : List ℕ) (left v : ℕ) (o : Offer) (w : ℕ) → has left v ≡ true → w ≡ pressure m g v (remaining g left v) → o.cost * w ≤ get_or costs v 0 * o.pressure →
    o ≡ better m g costs left v o
unfolding better
better_same m g costs left v o w yes' e h = rw (yes', ← e, le-ltb (get_or costs v 0 * o.pressure) (o.cost * w) h)

removals_step : (m : Model) (g : Graph) (costs : List ℕ) (k left after : ℕ) (r : Removed) → r ≡ next_removed m g costs left → after ≡ minus left (single r.node) →
    removals m g costs (suc k) left ≡ r ∷ removals m g costs k after
unfolding removals
removals_step m g costs k left after r e f = rw (f, e)

-- one node more is removed
pub order_more : (m : Model) (g : Graph) (costs : List ℕ) (kept more all : List Removed) (i count left after : ℕ) (r : Removed) → i < count → more ≡ kept ++ (r ∷ []) →
    r ≡ next_removed m g costs left → after ≡ minus left (single r.node) → kept ++ removals m g costs (count - i) left ≡ all → more ++ removals m g costs (count - (i + 1)) after ≡ all
order_more m g costs kept more all i count left after r room one e f h =
    let less : count - i ≡ suc (count - (i + 1)) = omega arith in
    rw (one, append_assoc) (rw (less, removals_step m g costs (count - (i + 1)) left after r e f) at h)

-- how many nodes of a set are in the graph
pub nodes_count : (nodes n : ℕ) → n ≤ 448 → size 448 (meet nodes (up_to (min n 448))) ≡ size n nodes
nodes_count nodes n few =
    let e : min n 448 ≡ n = omega arith in
    rw e (sum_cut (λ k. cond (has (meet nodes (up_to n)) k) 1 0) n 448 few (λ k l. rw (has_meet nodes (up_to n) k, has_up_to n k, le-ltb k n l) (grind arith))
    ∙ sum_ext _ _ n (λ k l. rw (has_meet nodes (up_to n) k, has_up_to n k, lt-ltb k n l) (grind arith)))

-- all are removed
pub order_done : (m : Model) (g h : Graph) (costs : List ℕ) (vars : ℕ) (rows : List Row) (kept : List Removed) (i count left nodes : ℕ) → Alike g h → i ≡ count →
    kept ++ removals m h costs (count - i) left ≡ removals m h costs count nodes → costs ≡ map (cost g rows) (range vars 0) → count ≡ size (length g.classes) g.nodes → g.nodes ≡ nodes →
    kept ≡ order_of m vars rows g
unfolding order_of removals
order_done m g h costs vars rows kept i count left nodes alike e is priced counted same =
    let z : count - count ≡ 0 = omega arith in
    let all : kept ≡ removals m h costs count nodes = rw (e, z, append-nil) at is in
    let table = map (cost g rows) (range vars 0) in
    all ∙ sym (removals_alike m g h alike costs count nodes) ∙ ap (λ (cs : List ℕ). removals m g cs count nodes) priced ∙ ap (λ (n : ℕ). removals m g table n nodes) counted ∙ ap (λ (x : ℕ). removals m g table (size (length g.classes) g.nodes) x) (sym same)

-- what the lowest member of a set says
pub first_some : (x v : ℕ) → Some v ≡ lowest x → (v ≡ least (has x) 448) × (v < 448)
first_some x v e = elim (cases_lt (least (has x) 448) 448) [
  | inl l ↦ (let f : Some v ≡ Some (least (has x) 448) = rw (lt-ltb (least (has x) 448) 448 l) at e in let h : v ≡ least (has x) 448 = ap (λ (o : Option ℕ). unwrap_or o 0) f in (h, omega (arith, h, l)))
  | inr l ↦ (let f : ◌≡◌ {A = Option ℕ} (Some v) None = rw (le-ltb (least (has x) 448) 448 l) at e in absurd (some_none v f))
]
  where
    some_none : (v : ℕ) → ◌≡◌ {A = Option ℕ} (Some v) None → ⊥
    some_none v f = cc

pub first_none : (x : ℕ) → ◌≡◌ {A = Option ℕ} None (lowest x) → 448 ≤ least (has x) 448
first_none x e = elim (cases_lt (least (has x) 448) 448) [
  | inl l ↦ (let f : ◌≡◌ {A = Option ℕ} None (Some (least (has x) 448)) = rw (lt-ltb (least (has x) 448) 448 l) at e in absurd (none_some (least (has x) 448) f))
  | inr l ↦ l
]
  where
    none_some : (v : ℕ) → ◌≡◌ {A = Option ℕ} None (Some v) → ⊥
    none_some v f = cc
