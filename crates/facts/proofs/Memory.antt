-- Lists of node sets as the lists of numbers that they stand for.
use Rattle.std.proofs.Common.{◌≡◌, ℕ, zero, suc, ◌+◌, ◌<◌, ◌≤◌, min, Bool, true, false, ◌&&◌, ◌||◌, eqb, ltb, leb, List, [], ◌∷◌, ◌++◌, map, length, get_or, take, drop, set, replicate, sym, refl, ap, ◌∙◌, inl, inr, arith}
use Rattle.std.proofs.lemmas.List.{get_or_past, get_or-replicate, get_or_append_left, get_or-set_same, get_or-set_other, length-replicate, length-append, length-drop, take_all, ext_get_or}
use Rattle.std.proofs.lemmas.Bool.{cases_lt, cases_eq, eq-eqb, ne_eqb, lt-ltb, le-ltb, leb-true, and_parts, or_cases, both_ways}
use Rattle.counting.specs.Counting.{range}
use Rattle.sets.specs.Sets.{has, union, single, when}
use Rattle.sets.specs.Words.{joined, cleared}
use Rattle.sets.specs.Rising.{passing}
use Rattle.sets.proofs.Members.{has_union, has_single, has_none}
use Rattle.facts.specs.Flow.{Flow, rows, holds, comers, feeders, enters, gather, incoming}
use Rattle.facts.specs.Solving.{listed, comer_sets, Listing, suffices, Tells, Solved, Answers}
use Rattle.facts.proofs.Walking.{same_sets, has_listed, holds_comers, comers_passing, passing_none}

pub take_short : {A : Type 0} (n : ℕ) (xs : List A) → take (min n (length xs)) xs ≡ take n xs
take_short n xs = elim (cases_lt n (length xs)) [
  | inl l ↦ (let e : min n (length xs) ≡ n = omega arith in rw e)
  | inr l ↦ (let e : min n (length xs) ≡ length xs = omega arith in rw e (take_all (length xs) xs (omega arith) ∙ sym (take_all n xs l)))
]

-- what it means that the memory suffices
pub suffices_parts : (f : Flow) (a b : ℕ) → suffices f a b ≡ true → (rows f ≤ a) × (f.backward ≡ false → (rows f ≤ b) × (rows f ≤ 448))
suffices_parts f a b h =
    let both = and_parts (leb (rows f) a) (f.backward || (leb (rows f) b && leb (rows f) 448)) h in (
      leb-true _ _ both.0,
      λ forward. elim (or_cases f.backward (leb (rows f) b && leb (rows f) 448) both.1) [
        | inl e ↦ absurd (both_ways f.backward forward e)
        | inr e ↦ (let room = and_parts (leb (rows f) b) (leb (rows f) 448) e in (leb-true _ _ room.0, leb-true _ _ room.1))
      ],
    )

-- ---- listing the comers

or_none : (b : Bool) → b ≡ (b || false)
or_none true = refl
or_none false = refl

pub listing_one : (ss : List ℕ) (i j : ℕ) (s : ℕ) → i < length ss → j < 448 → s ≡ union (get_or ss i 0) (when (ltb j 448) (single j)) →
    Listing ss (set ss i s) j (i ∷ [])
unfolding holds
listing_one ss i j s l small e r m h =
    elim (cases_eq r i) [
      | inl q ↦ (let here : (get_or (set ss i s) r 0) ≡ union (get_or ss r 0) (single j) = rw q ((get_or-set_same ss i s 0 l) ∙ e ∙ rw (lt-ltb j 448 small)) in
          rw (here, has_union (get_or ss r 0) (single j) m, has_single j m, eq-eqb r i q))
      | inr q ↦ rw (get_or-set_other ss i r s 0 q, ne_eqb r i q) (or_none _)
    ]

-- a number for which a set has no room is added to none
pub listing_unheld : (ss : List ℕ) (i j : ℕ) (s : ℕ) → i < length ss → 448 ≤ j → s ≡ union (get_or ss i 0) (when (ltb j 448) (single j)) →
    Listing ss (set ss i s) j []
unfolding holds
listing_unheld ss i j s l large e r m h =
    elim (cases_eq r i) [
      | inl q ↦ (let here : (get_or (set ss i s) r 0) ≡ union (get_or ss r 0) 0 = rw q ((get_or-set_same ss i s 0 l) ∙ e ∙ rw (le-ltb j 448 large)) in
          rw (here, has_union (get_or ss r 0) 0 m, has_none m))
      | inr q ↦ rw (get_or-set_other ss i r s 0 q) (or_none _)
    ]

pub listing_past : (ss : List ℕ) (i j : ℕ) → length ss ≤ i → Listing ss ss j (i ∷ [])
unfolding holds
listing_past ss i j l r m h = let ne : r ≡ i → ⊥ = omega arith in rw (ne_eqb r i ne) (or_none _)

pub listing_none : (ss : List ℕ) (j : ℕ) → Listing ss ss j []
unfolding holds
listing_none ss j r m h = or_none _

holds_append : (xs ys : List ℕ) (i : ℕ) → holds (xs ++ ys) i ≡ (holds xs i || holds ys i)
unfolding holds
holds_append [] ys i = refl
holds_append (x ∷ xs) ys i = rw (holds_append xs ys i) (or_assoc (eqb i x) (holds xs i) (holds ys i))
  where
    or_assoc : (a b c : Bool) → (a || (b || c)) ≡ ((a || b) || c)
    or_assoc true b c = refl
    or_assoc false b c = refl

pub listing_more : (a b c : List ℕ) (j : ℕ) (ws : List ℕ) (k : ℕ) → length b ≡ length a → Listing a b j ws → Listing b c j (k ∷ []) → Listing a c j (ws ++ k ∷ [])
listing_more a b c j ws k long was new i m h =
    new i m (omega arith) ∙ ap (λ (t : Bool). t || (holds (k ∷ []) i && eqb m j)) (was i m h)
    ∙ sort (has (get_or a i 0) m) (holds ws i) (holds (k ∷ []) i) (eqb m j)
    ∙ ap (λ (t : Bool). has (get_or a i 0) m || (t && eqb m j)) (sym (holds_append ws (k ∷ []) i))
  where
    sort : (o p q e : Bool) → ((o || (p && e)) || (q && e)) ≡ (o || ((p || q) && e))
    sort o p q e = grind arith

-- the rows below j have been listed
abbrev pub Partly : List (List ℕ) → ℕ → List ℕ → Type 0
Partly next j ss = (i m : ℕ) → i < length ss → has (get_or ss i 0) m ≡ (ltb m j && holds (get_or next m []) i)

pub partly_none : (next : List (List ℕ)) (ss : List ℕ) (n : ℕ) → n ≡ length ss → Partly next 0 (cleared n ss)
unfolding joined
partly_none next ss n e i m h =
    let le : i < n = omega (arith, h, e, length_cleared n ss e) in
    let here : get_or (cleared n ss) i 0 ≡ 0 = get_or_append_left (replicate n 0) (drop n ss) 0 i (omega (arith, le, length-replicate {A = ℕ} n 0)) ∙ get_or-replicate n i 0 0 le in
    rw (here, le-ltb m 0 (omega arith)) (has_none m)
  where
    length_cleared : (n : ℕ) (ss : List ℕ) → n ≡ length ss → length (cleared n ss) ≡ n
    length_cleared n ss e = length-append (replicate n 0) (drop n ss) ∙ omega (arith, length-replicate {A = ℕ} n 0, length-drop n ss)

pub partly_more : (next : List (List ℕ)) (j : ℕ) (a b : List ℕ) → length b ≡ length a → Partly next j a → Listing a b j (get_or next j []) → Partly next (j + 1) b
partly_more next j a b long was new i m h =
    new i m (omega arith) ∙ rw (was i m (omega arith)) (elim (cases_eq m j) [
      | inl e ↦ rw (e, le-ltb j j (omega arith), lt-ltb j (j + 1) (omega arith), eq-eqb j j refl) (and_true (holds (get_or next j []) i))
      | inr ne ↦ elim (cases_lt m j) [
        | inl l ↦ rw (ne_eqb m j ne, lt-ltb m j l, lt-ltb m (j + 1) (omega arith)) (only (holds (get_or next m []) i) (holds (get_or next j []) i))
        | inr l ↦ rw (ne_eqb m j ne, le-ltb m j l, le-ltb m (j + 1) (omega arith)) (and_false (holds (get_or next j []) i))
      ]
    ])
  where
    and_true : (b : Bool) → (b && true) ≡ b
    and_true true = refl
    and_true false = refl

    and_false : (b : Bool) → (b && false) ≡ false
    and_false true = refl
    and_false false = refl

    only : (a b : Bool) → (a || (b && false)) ≡ a
    only a b = grind arith

table_at : {A : Type 0} (f : ℕ → A) (n j v : ℕ) (d : A) → v < n → get_or (map f (range n j)) v d ≡ f (j + v)
unfolding range
table_at f zero j v d h = absurd (omega arith)
table_at f (suc n) j zero d h = let e : j ≡ j + 0 = omega arith in ap f e
table_at f (suc n) j (suc v) d h = let e : suc j + v ≡ j + suc v = omega arith in table_at f n (suc j) v d (omega arith) ∙ ap f e

table_length : {A : Type 0} (f : ℕ → A) (n j : ℕ) → length (map f (range n j)) ≡ n
unfolding range
table_length f zero j = refl
table_length f (suc n) j = ap suc (table_length f n (suc j))

pub comer_sets_length : (next : List (List ℕ)) → length (comer_sets next) ≡ length next
unfolding comer_sets
comer_sets_length next = table_length (λ i. listed (comers next i)) (length next) 0

comer_set : (next : List (List ℕ)) (i : ℕ) → i < length next → get_or (comer_sets next) i 0 ≡ listed (comers next i)
unfolding comer_sets
comer_set next i l = table_at (λ i. listed (comers next i)) (length next) 0 i 0 l ∙ ap (λ (k : ℕ). listed (comers next k)) (omega arith)

has_comer : (next : List (List ℕ)) (i k : ℕ) → has (listed (comers next i)) k ≡ holds (get_or next k []) i
has_comer next i k = has_listed (comers next i) k ∙ holds_comers next i k

pub partly_all : (next : List (List ℕ)) (j : ℕ) (ss : List ℕ) → length ss ≡ length next → j ≡ length next → Partly next j ss → ss ≡ comer_sets next
unfolding comer_sets holds
partly_all next j ss long e w =
    ext_get_or 0 ss (comer_sets next) (long ∙ sym (comer_sets_length next))
    (λ i h. same_sets (get_or ss i 0) (listed (comers next i)) (λ k. w i k h ∙ whole i k ∙ sym (has_comer next i k)) ∙ sym (comer_set next i (omega arith)))
  where
    whole : (i k : ℕ) → (ltb k j && holds (get_or next k []) i) ≡ holds (get_or next k []) i
    whole i k = elim (cases_lt k j) [
      | inl l ↦ rw (lt-ltb k j l)
      | inr l ↦ (let z : get_or next k [] ≡ [] = get_or_past next k [] (omega arith) in rw (le-ltb k j l, z))
    ]

-- ---- gathering from them

pub feeders_backward : (f : Flow) → f.backward ≡ true → feeders f ≡ f.next
unfolding feeders
feeders_backward f b = rw b

-- walking the set told of row i is walking its feeders
pub feeders_told : (f : Flow) (ss : List ℕ) (i : ℕ) → f.backward ≡ false → Tells f ss → passing (has (get_or ((take (rows f) ss)) i 0)) 448 0 ≡ get_or (feeders f) i []
unfolding feeders comer_sets
feeders_told f ss i b told =
    let (few, are) = told b in
    rw (are, b) (elim (cases_lt i (rows f)) [
      | inl l ↦ (let e = comer_set f.next i l in
          sym (table_at (comers f.next) (rows f) 0 i [] l ∙ ap (comers f.next) (omega arith) ∙ comers_passing f.next i (get_or (comer_sets f.next) i 0) 448 few (λ k. ap (λ (x : ℕ). has x k) e ∙ has_comer f.next i k)))
      | inr l ↦ (let past : get_or (comer_sets f.next) i 0 ≡ 0 = get_or_past (comer_sets f.next) i 0 (rw (comer_sets_length f.next) l) in
          rw past (passing_none (has 0) 448 0 (λ k _. has_none k) ∙ sym (get_or_past (map (comers f.next) (range (rows f) 0)) i [] (rw (table_length (comers f.next) (rows f) 0) l))))
    ])

pub incoming_backward : (f : Flow) (kept : ℕ → ℕ) (i : ℕ) → f.backward ≡ true → gather f.join kept (enters f i) (get_or f.next i []) ≡ incoming f (feeders f) kept i
unfolding incoming
incoming_backward f kept i b = ap (λ (t : List (List ℕ)). gather f.join kept (enters f i) (get_or t i [])) (sym (feeders_backward f b))

pub incoming_told : (f : Flow) (kept : ℕ → ℕ) (ss : List ℕ) (i : ℕ) → f.backward ≡ false → Tells f ss →
    gather f.join kept (enters f i) (passing (has (get_or ((take (rows f) ss)) i 0)) 448 0) ≡ incoming f (feeders f) kept i
unfolding incoming
incoming_told f kept ss i b told = ap (gather f.join kept (enters f i)) (feeders_told f ss i b told)

-- ---- for callers: what the answer of solving means

pub answered : (r : Bool) (f : Flow) (facts facts' sets sets' : List ℕ) → Answers r f facts facts' sets sets' → r ≡ true → Solved f facts facts' sets sets'
answered true f facts facts' sets sets' a e = a
answered false f facts facts' sets sets' a e = absurd (both_ways false refl e)

pub refused : (r : Bool) (f : Flow) (facts facts' sets sets' : List ℕ) → Answers r f facts facts' sets sets' → r ≡ false → (facts' ≡ facts) × (sets' ≡ sets)
refused true f facts facts' sets sets' a e = absurd (both_ways true e refl)
refused false f facts facts' sets sets' a e = a
