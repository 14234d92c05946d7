-- A round ends settled.
use Rattle.std.proofs.Common.{◌≡◌, ℕ, zero, suc, ◌<◌, ◌≤◌, Bool, true, false, not, ◌&&◌, eqb, ltb, List, [], ◌∷◌, map, length, get_or, sym, refl, ap, ◌∙◌, inl, inr, arith}
use lib.ListN.{length-map}
use Rattle.std.proofs.lemmas.Bool.{cases_Bool, cases_lt, cases_eq, both_ways, and_from, and_parts, lt-ltb, le-ltb, ltb-false, eqb-true, eq-eqb, ne_eqb, not-true, not_from_false, cond-true, cond-false}
use Rattle.counting.specs.Counting.{range, any}
use Rattle.counting.proofs.Searches.{any_found}
use Rattle.sets.specs.Sets.{has, single, when, size}
use Rattle.sets.proofs.Members.{has_union, has_when, has_single, has_none}
use Rattle.rows.specs.declared.Row.{Row}
use Rattle.registers.specs.Model.{Model, Lawful}
use Rattle.rounds.specs.declared.Removed.{Removed}
use Rattle.rounds.specs.declared.Ends.{Ends}
use Rattle.rounds.specs.Interference.{Graph, node_at, interference}
use Rattle.rounds.specs.Coalescing.{merged, no_ends, first_mergeable, coalesced, copies_in}
use Rattle.rounds.specs.Simplify.{cost, removals}
use Rattle.rounds.specs.Select.{register_of, selected}
use Rattle.rounds.specs.Round.{those, graph_of, order_of, round, hoped_for}
use Rattle.colouring.specs.Selecting.{Proper, listed, Orderly}
use Rattle.colouring.specs.Rounds.{Settled, RoundSettles, PairedSettles}
use Rattle.colouring.proofs.Counts.{any_false}
use Rattle.colouring.proofs.Selecting.{neighbours_apart, tested_nodes_find}
use Rattle.colouring.proofs.Removing.{all_removed}
use Rattle.colouring.proofs.Sticking.{temporaries_pass}

pub has_those : (t : ℕ → Bool) (n k : ℕ) → has (those t n) k ≡ (ltb k n && t k)
unfolding those
has_those t zero k = has_none k ∙ (rw (le-ltb k 0 (omega arith)))
has_those t (suc n) k =
    has_union (those t n) (when (t n) (single n)) k ∙ (
    let last : has (when (t n) (single n)) k ≡ (t n && eqb k n) = has_when (t n) (single n) k ∙ ap (λ (b : Bool). t n && b) (has_single n k) in
    rw (has_those t n k, last) (elim (cases_eq k n) [
      | inl p ↦ rw p (rw (le-ltb n n (omega arith), lt-ltb n (suc n) (omega arith), eq-eqb n n refl) (grind arith))
      | inr p ↦ rw (ne_eqb k n p) (elim (cases_lt k n) [
        | inl h ↦ rw (lt-ltb k n h, lt-ltb k (suc n) (omega arith)) (grind arith)
        | inr h ↦ rw (le-ltb k n h, le-ltb k (suc n) (omega arith)) (grind arith)
      ])
    ]))

those_none : (t : ℕ → Bool) (n : ℕ) → ((k : ℕ) → k < n → t k ≡ false) → those t n ≡ 0
unfolding those
those_none t zero h = refl
those_none t (suc n) h = rw (h n (omega arith), those_none t n (λ k l. h k (omega arith)))

-- the set is empty, or has a member
pub those_some : (t : ℕ → Bool) (n : ℕ) → eqb (those t n) 0 ≡ false → (k : ℕ) × (has (those t n) k ≡ true)
those_some t n e = elim (cases_Bool (any t n)) [
  | inl f ↦ member (any_found t n f)
  | inr f ↦ absurd (both_ways _ e (eq-eqb (those t n) 0 (those_none t n (λ k l. any_false t n k f l))))
]
  where
    member : (k : ℕ) × (k < n) × (t k ≡ true) → (k : ℕ) × (has (those t n) k ≡ true)
    member (k, l, f) = (k, has_those t n k ∙ and_from _ _ (lt-ltb k n l) f)

pub length_range : (n j : ℕ) → length (range n j) ≡ n
unfolding range
length_range zero j = refl
length_range (suc n) j = ap suc (length_range n (suc j))

-- merging changes no class
pub classes_coalesced : (m : Model) (cs : List Ends) (k : ℕ) (g : Graph) → (coalesced m cs k g).classes ≡ g.classes
unfolding coalesced merged
classes_coalesced m cs zero g = refl
classes_coalesced m cs (suc k) g =
    let i = first_mergeable m g cs in
    let c = get_or cs i no_ends in
    elim (cases_Bool (ltb i (length cs))) [
      | inl e ↦ rw e (classes_coalesced m cs k (merged (node_at g c.d) (node_at g c.a) g))
      | inr e ↦ rw e
    ]

pub classes_kept : (m : Model) (vars : ℕ) (classes : List ℕ) (nodes : ℕ) (rows : List Row) → (graph_of m vars classes nodes rows).classes ≡ classes
unfolding graph_of interference
classes_kept m vars classes nodes rows = classes_coalesced m (copies_in vars rows) vars _

-- who is hoped for in an orderly list is of source variables
hoped_source : (m : Model) (g : Graph) (vars : ℕ) (order : List Removed) → Orderly m g vars order → (v : ℕ) → hoped_for order v ≡ true → v < vars
unfolding hoped_for
hoped_source m g vars [] o v h = absurd (both_ways false refl h)
hoped_source m g vars (r ∷ rs) (ok, rest) v h =
    elim (cases_eq r.node v) [
      | inl p ↦ (let hoped : r.hoped ≡ true = sym (cond-true (eqb r.node v) r.hoped (hoped_for rs v) (eq-eqb _ _ p)) ∙ h in omega (arith, ok.of_source hoped))
      | inr p ↦ hoped_source m g vars rs rest v (sym (cond-false (eqb r.node v) r.hoped (hoped_for rs v) (ne_eqb _ _ p)) ∙ h)
    ]

module _ (m : Model) (l : Lawful m) (vars : ℕ) (g : Graph) (pr : Proper g) (order : List Removed) (orderly : Orderly m g vars order)
    (all : (v : ℕ) → listed order v ≡ has g.nodes v) (taken : List ℕ) (is-taken : taken ≡ selected m g order) (n : ℕ) (long : n ≡ length g.classes) where
  abbrev bare : ℕ → Bool
  bare v = has g.nodes v && not (ltb (register_of m taken v) m.count)

  bare_parts : (v : ℕ) → has (those bare n) v ≡ true → (has g.nodes v ≡ true) × (m.count ≤ register_of m taken v)
  bare_parts v e =
      let f : (ltb v n && bare v) ≡ true = sym (has_those bare n v) ∙ e in
      let parts = and_parts _ _ (and_parts _ _ f).1 in
      (parts.0, ltb-false _ _ (not-true _ parts.1))

  bare_hoped : (v : ℕ) → has (those bare n) v ≡ true → hoped_for order v ≡ true
  bare_hoped v e =
      let parts = bare_parts v e in
      elim (cases_Bool (hoped_for order v)) [
        | inl h ↦ h
        | inr h ↦ absurd (omega (arith, parts.1, ap (λ (x : List ℕ). register_of m x v) is-taken, tested_nodes_find m l g pr vars order orderly v (all v ∙ parts.0) h))
      ]

  settled : Settled m vars (record { graph = g; order = order; registers = taken; spilled = those bare n })
  settled = record {
    orderly = orderly;
    removed = all;
    separate = rw is-taken (neighbours_apart m l g pr order);
    spilled_node = λ v e. (bare_parts v e).0;
    spilled_none = λ v e. (bare_parts v e).1;
    spilled_hoped = bare_hoped;
    spilled_some = those_some bare n;
    spilled_source = λ v e. hoped_source m g vars order orderly v (bare_hoped v e);
    coloured = λ c v e. elim (cases_lt (register_of m taken v) m.count) [
      | inl h ↦ h
      | inr h ↦ absurd (
          let out : has (those bare n) v ≡ true = has_those bare n v ∙ and_from _ _ (lt-ltb v n (omega (arith, pr.inside v e))) (and_from _ _ e (not_from_false _ (le-ltb _ _ h))) in
          let none : has (those bare n) v ≡ false = ap (λ (x : ℕ). has x v) (eqb-true _ _ c) ∙ has_none v in
          both_ways _ none out)
    ];
  }

pub round_settles : RoundSettles
unfolding round order_of
round_settles m l vars classes nodes rows pr ns =
    let g = graph_of m vars classes nodes rows in
    let costs = map (cost g rows) (range vars 0) in
    let many : length costs ≡ vars = length-map (range vars 0) (cost g rows) ∙ length_range vars 0 in
    let (orderly, all) = all_removed m g costs g.nodes pr (rw many ns) (λ v e. e) in
    settled m l vars g pr (removals m g costs (size (length g.classes) g.nodes) g.nodes) (rw many at orderly) all
    (selected m g (removals m g costs (size (length g.classes) g.nodes) g.nodes)) refl (length classes) (sym (ap length (classes_kept m vars classes nodes rows)))

pub paired_settles : PairedSettles
paired_settles m l vars classes nodes rows pr pa = round_settles m l vars classes nodes rows pr (temporaries_pass m l _ pr vars pa)
