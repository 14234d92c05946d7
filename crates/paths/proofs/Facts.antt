-- What the two kinds of facts stand for: which rows a path leads to, and what is written on every path to a row.
use Rattle.std.proofs.Common.{◌≡◌, ℕ, zero, suc, ◌<◌, ◌≤◌, Bool, true, false, not, ◌&&◌, ◌||◌, eqb, ltb, ◌⊎◌, List, [], ◌∷◌, length, sym, refl, ap, ◌∙◌, ap₂, inl, inr, arith}
use Rattle.std.proofs.lemmas.Bool.{cases_Bool, cases_eq, both_ways, and_from, and_right, not_from_true, not_from_false, not-true, not-false, lt-ltb, ltb-true, eqb-true, eq-eqb, ne_eqb, or_left, or_right}
use Rattle.sets.specs.Sets.{has, meet, minus, single, up_to, when}
use Rattle.sets.proofs.Members.{has_union, has_meet, has_minus, has_none, has_single, has_when, has_up_to}
use Rattle.rows.specs.declared.Row.{Row}
use Rattle.rows.specs.Rows.{reads, writes, set_of, row_at}
use Rattle.facts.specs.Flow.{holds, feeders, at, incoming, solved}
use Rattle.facts.proofs.Sweeping.{solved_least, solved_facts}
use Rattle.facts.proofs.Walking.{same_sets}
use Rattle.admission.specs.Kinds.{reach, initialisation, reached, written_before, sure}
use Rattle.admission.specs.Laws.{reach_lawful, initialisation_lawful}
use Rattle.admission.proofs.Ways.{nexts_length, nexts_at}
use Rattle.paths.specs.Paths.{Leads, written_on}
use Rattle.paths.proofs.Marks.{passed, Marking, found, brought}

-- the members of the set of a list
has_set_of : (xs : List ℕ) (v : ℕ) → has (set_of xs) v ≡ (holds xs v && ltb v 448)
unfolding set_of holds
has_set_of [] v = has_none v
has_set_of (x ∷ xs) v =
    has_union (set_of xs) (when (ltb x 448) (single x)) v
    ∙ ap₂ ◌||◌ (has_set_of xs v) (has_when (ltb x 448) (single x) v ∙ ap (λ (b : Bool). ltb x 448 && b) (has_single x v))
    ∙ elim (cases_eq v x) [
      | inl e ↦ rw (e, eq-eqb x x refl) (same (holds xs x) (ltb x 448))
      | inr ne ↦ rw (ne_eqb v x ne) (none (holds xs v && ltb v 448) (ltb x 448))
    ]
  where
    same : (a b : Bool) → ((a && b) || (b && true)) ≡ b
    same a b = grind arith

    none : (a b : Bool) → (a || (b && false)) ≡ a
    none a b = grind arith

-- ---- reach

-- every row hands reach on
every : ℕ → Bool
every j = true

-- the mark of reach: 0 is a member
reach_marking : (rs : List Row) → Marking rs (reach rs) (λ x. has x 0) every
unfolding has every
reach_marking rs = record {
  forward = refl;
  lawful = reach_lawful rs;
  many = nexts_length 0 rs;
  ways = λ j l. nexts_at j rs l;
  joined = λ x y. has_union x y 0;
  none = has_none 0;
  some = refl;
  stepped = λ i x. alone (has x 0);
}
  where
    alone : (b : Bool) → b ≡ (b && true)
    alone true = refl
    alone false = refl

every_passed : (path : List ℕ) → passed every path ≡ true
unfolding passed every
every_passed [] = refl
every_passed (j ∷ js) = every_passed js

-- a set of nothing but 0
one_bit : (x : ℕ) → x < 2 → not (eqb x 0) ≡ has x 0
unfolding has
one_bit zero h = refl
one_bit (suc zero) h = refl
one_bit (suc (suc x)) h = absurd (omega arith)

-- reach of a row is the mark of what comes to it
reached_is : (rs : List Row) (i : ℕ) → i < length rs → reached rs i ≡ has (incoming (reach rs) (feeders (reach rs)) (at (reach rs) (solved (reach rs))) i) 0
unfolding reached
reached_is rs i l =
    one_bit (at (reach rs) (solved (reach rs)) i) (ltb-true _ 2 (solved_facts (reach rs) (reach_lawful rs) i))
    ∙ ap (λ (x : ℕ). has x 0) ((solved_least (reach rs) (reach_lawful rs)).solves i (omega (arith, nexts_length 0 rs)))

-- a row that is reached has a path
pub reached_path : (rs : List Row) (i : ℕ) → i < length rs → reached rs i ≡ true → (path : List ℕ) × Leads rs path i
reached_path rs i l h =
    let (path, leads, _) = found rs (reach rs) (λ x. has x 0) every (reach_marking rs) i l (sym (reached_is rs i l) ∙ h) in
    (path, leads)

-- a row to which a path leads is reached
pub path_reached : (rs : List Row) (i : ℕ) (path : List ℕ) → i < length rs → Leads rs path i → reached rs i ≡ true
path_reached rs i path l leads = reached_is rs i l ∙ brought rs (reach rs) (λ x. has x 0) every (reach_marking rs) path i l leads (every_passed path)

-- ---- initialisation

-- whether row j leaves v unwritten
leaves : List Row → ℕ → ℕ → Bool
leaves rs v j = not (holds (writes (row_at rs j)) v)

module _ (vars : ℕ) (rs : List Row) (v : ℕ) (lt : v < vars) (few : vars ≤ 64) where
  -- the mark of initialisation: v is no member
  initialisation_marking : Marking rs (initialisation vars rs) (λ x. not (has x v)) (leaves rs v)
  unfolding leaves
  initialisation_marking = record {
    forward = refl;
    lawful = initialisation_lawful vars rs;
    many = nexts_length 0 rs;
    ways = λ j l. nexts_at j rs l;
    joined = λ x y. ap not (has_meet x y v) ∙ either (has x v) (has y v);
    none = not_from_true _ (has_up_to vars v ∙ lt-ltb v vars lt);
    some = not_from_false _ (has_none v);
    stepped = λ i x. ap not (has_union x (meet (set_of (writes (row_at rs i))) (up_to vars)) v ∙ ap (λ (b : Bool). has x v || b) (adds i)) ∙ neither (has x v) (holds (writes (row_at rs i)) v);
  }
    where
      either : (a b : Bool) → not (a && b) ≡ (not a || not b)
      either a b = grind arith

      neither : (a b : Bool) → not (a || b) ≡ (not a && not b)
      neither a b = grind arith

      adds : (i : ℕ) → has (meet (set_of (writes (row_at rs i))) (up_to vars)) v ≡ holds (writes (row_at rs i)) v
      adds i =
          has_meet (set_of (writes (row_at rs i))) (up_to vars) v ∙ ap₂ ◌&&◌ (has_set_of (writes (row_at rs i)) v) (has_up_to vars v)
          ∙ rw (lt-ltb v vars lt, lt-ltb v 448 (omega arith)) (whole (holds (writes (row_at rs i)) v))
        where
          whole : (b : Bool) → ((b && true) && true) ≡ b
          whole b = grind arith

  -- a path on which every row leaves v unwritten
  left_unwritten : (path : List ℕ) → passed (leaves rs v) path ≡ not (written_on rs path v)
  unfolding passed leaves written_on
  left_unwritten [] = refl
  left_unwritten (j ∷ js) = ap (λ (b : Bool). not (holds (writes (row_at rs j)) v) && b) (left_unwritten js) ∙ neither (holds (writes (row_at rs j)) v) (written_on rs js v)
    where
      neither : (a b : Bool) → (not a && not b) ≡ not (a || b)
      neither a b = grind arith

  -- what is not surely written before a row is unwritten on some path to it
  pub unsure_path : (i : ℕ) → i < length rs → has (written_before vars rs i) v ≡ false → (path : List ℕ) × Leads rs path i × (written_on rs path v ≡ false)
  unfolding written_before
  unsure_path i l h =
      let (path, leads, clear) = found rs (initialisation vars rs) (λ x. not (has x v)) (leaves rs v) initialisation_marking i l (not_from_false _ h) in
      (path, leads, not-true _ (sym (left_unwritten path) ∙ clear))

  -- what is surely written before a row is written on every path to it
  pub sure_path : (i : ℕ) (path : List ℕ) → i < length rs → has (written_before vars rs i) v ≡ true → Leads rs path i → written_on rs path v ≡ true
  unfolding written_before
  sure_path i path l h leads =
      elim (cases_Bool (written_on rs path v)) [
        | inl e ↦ e
        | inr e ↦ absurd (both_ways (has (written_before vars rs i) v)
            (not-true _ (brought rs (initialisation vars rs) (λ x. not (has x v)) (leaves rs v) initialisation_marking path i l leads (left_unwritten path ∙ not_from_false _ e))) h)
      ]

-- ---- what a row reads

-- a member of a list that a set lacks, or none
lacking : (xs : List ℕ) (y : ℕ) → ((v : ℕ) × (holds xs v ≡ true) × (has y v ≡ false)) ⊎ ((v : ℕ) → holds xs v ≡ true → has y v ≡ true)
unfolding holds
lacking [] y = inr (λ v h. absurd (both_ways false refl h))
lacking (x ∷ xs) y =
    elim (cases_Bool (has y x)) [
      | inr e ↦ inl (x, or_left _ _ (eq-eqb x x refl), e)
      | inl e ↦ elim (lacking xs y) [
        | inl (v, h, none) ↦ inl (v, or_right _ _ h, none)
        | inr all ↦ inr (λ v h. elim (cases_eq v x) [ inl q ↦ rw q e | inr ne ↦ all v (rw (ne_eqb v x ne) at h) ])
      ]
    ]

-- a row is sure if each variable that it reads is surely written
pub sure_from : (vars : ℕ) (rs : List Row) (i : ℕ) → ((v : ℕ) → holds (reads (row_at rs i)) v ≡ true → has (written_before vars rs i) v ≡ true) → sure vars rs i ≡ true
unfolding sure
sure_from vars rs i h =
    let x : ℕ = set_of (reads (row_at rs i)) in
    let y : ℕ = written_before vars rs i in
    eq-eqb (minus x y) 0 (same_sets (minus x y) 0 (λ k. has_minus x y k ∙ elim (cases_Bool (holds (reads (row_at rs i)) k)) [
      | inl e ↦ and_right _ _ (not_from_true _ (h k e)) ∙ sym (has_none k)
      | inr e ↦ rw (has_set_of (reads (row_at rs i)) k, e) (sym (has_none k))
    ]))

-- a sure row finds each variable that it reads surely written
pub sure_at : (vars : ℕ) (rs : List Row) (i v : ℕ) → sure vars rs i ≡ true → v < 448 → holds (reads (row_at rs i)) v ≡ true → has (written_before vars rs i) v ≡ true
unfolding sure
sure_at vars rs i v h lt r =
    let x : ℕ = set_of (reads (row_at rs i)) in
    let y : ℕ = written_before vars rs i in
    let none : (has x v && not (has y v)) ≡ false = sym (has_minus x y v) ∙ ap (λ (z : ℕ). has z v) (eqb-true (minus x y) 0 h) ∙ has_none v in
    let here : has x v ≡ true = has_set_of (reads (row_at rs i)) v ∙ and_from _ _ r (lt-ltb v 448 lt) in
    not-false _ (rw here at none)

-- a row that is not sure reads what is not surely written
pub unsure_reads : (vars : ℕ) (rs : List Row) (i : ℕ) → sure vars rs i ≡ false → (v : ℕ) × (holds (reads (row_at rs i)) v ≡ true) × (has (written_before vars rs i) v ≡ false)
unsure_reads vars rs i h =
    elim (lacking (reads (row_at rs i)) (written_before vars rs i)) [
      | inl w ↦ w
      | inr all ↦ absurd (both_ways (sure vars rs i) h (sure_from vars rs i all))
    ]
