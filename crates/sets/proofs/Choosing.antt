-- A walk over the members of a set, the lowest first, that keeps those which pass a test.
use Rattle.std.proofs.Common.{◌≡◌, ℕ, zero, suc, ◌+◌, ◌^◌, ◌<◌, ◌≤◌, Bool, true, false, cond, ◌&&◌, ◌||◌, ltb, ◌⊎◌, List, [], ◌∷◌, refl, ◌∙◌, inl, inr, arith}
use Rattle.std.proofs.lemmas.Bool.{cases_Bool, cases_lt, cases_eq, eq-eqb, ne_eqb, lt-ltb}
use Rattle.sets.specs.Sets.{has, single, union, when}
use Rattle.sets.specs.Rising.{passing, rising}
use Rattle.sets.proofs.Members.{has_union, has_none, has_single, has_when, has_past}

-- s with v too, if v passes
abbrev pub joined_if : (ℕ → Bool) → ℕ → ℕ → ℕ
joined_if t s v = cond (t v) (union s (when (ltb v 448) (single v))) s

-- s with those of a list that pass
unfoldable pub chosen : (ℕ → Bool) → ℕ → List ℕ → ℕ
chosen t s [] = s
chosen t s (v ∷ vs) = chosen t (joined_if t s v) vs

-- one that passes joins, and another does not
pub chosen_yes : (t : ℕ → Bool) (s v more all : ℕ) (xs rest : List ℕ) → t v ≡ true → more ≡ union s (when (ltb v 448) (single v)) → xs ≡ v ∷ rest → chosen t s xs ≡ all → chosen t more rest ≡ all
unfolding chosen
chosen_yes t s v more all xs rest yes' e x h = rw e (rw (x, yes') at h)

pub chosen_no : (t : ℕ → Bool) (s v all : ℕ) (xs rest : List ℕ) → t v ≡ false → xs ≡ v ∷ rest → chosen t s xs ≡ all → chosen t s rest ≡ all
unfolding chosen
chosen_no t s v all xs rest no' x h = rw (x, no') at h

pub chosen_none : (t : ℕ → Bool) (s all : ℕ) (xs : List ℕ) → xs ≡ [] → chosen t s xs ≡ all → s ≡ all
unfolding chosen
chosen_none t s all xs x h = rw x at h

joined_off : (t : ℕ → Bool) (s v k : ℕ) → (k ≡ v → ⊥) → has (joined_if t s v) k ≡ has s k
joined_off t s v k n = elim (cases_Bool (t v)) [
  | inl e ↦ rw (e, has_union s (when (ltb v 448) (single v)) k, has_when (ltb v 448) (single v) k, has_single v k, ne_eqb k v n) (grind arith)
  | inr e ↦ rw e
]

joined_on : (t : ℕ → Bool) (s v : ℕ) → v < 448 → has (joined_if t s v) v ≡ (has s v || t v)
joined_on t s v l = elim (cases_Bool (t v)) [
  | inl e ↦ rw (e, has_union s (when (ltb v 448) (single v)) v, has_when (ltb v 448) (single v) v, has_single v v, eq-eqb v v refl, lt-ltb v 448 l) (grind arith)
  | inr e ↦ rw e (grind arith)
]

-- nothing changes outside the numbers looked at
chosen_off : (t p : ℕ → Bool) (n j s k : ℕ) → (k < j) ⊎ (j + n ≤ k) → has (chosen t s (passing p n j)) k ≡ has s k
unfolding chosen passing
chosen_off t p zero j s k out = refl
chosen_off t p (suc n) j s k out =
    let later : (k < suc j) ⊎ (suc j + n ≤ k) = elim out [ inl l ↦ inl (omega arith) | inr l ↦ inr (omega arith) ] in
    let other : k ≡ j → ⊥ = λ e. elim out [ inl l ↦ omega arith | inr l ↦ omega arith ] in
    elim (cases_Bool (p j)) [
      | inl e ↦ rw e (chosen_off t p n (suc j) (joined_if t s j) k later ∙ joined_off t s j k other)
      | inr e ↦ rw e (chosen_off t p n (suc j) s k later)
    ]

chosen_on : (t p : ℕ → Bool) (n j s k : ℕ) → j ≤ k → k < j + n → j + n ≤ 448 → has (chosen t s (passing p n j)) k ≡ (has s k || (p k && t k))
unfolding chosen passing
chosen_on t p zero j s k a b room = absurd (omega arith)
chosen_on t p (suc n) j s k a b room = elim (cases_eq k j) [
  | inl q ↦ rw q (elim (cases_Bool (p j)) [
    | inl e ↦ rw e (chosen_off t p n (suc j) (joined_if t s j) j (inl (omega arith)) ∙ joined_on t s j (omega arith))
    | inr e ↦ rw e (chosen_off t p n (suc j) s j (inl (omega arith)) ∙ grind arith)
  ])
  | inr q ↦ elim (cases_Bool (p j)) [
    | inl e ↦ rw e (chosen_on t p n (suc j) (joined_if t s j) k (omega arith) (omega arith) (omega arith) ∙ rw (joined_off t s j k q))
    | inr e ↦ rw e (chosen_on t p n (suc j) s k (omega arith) (omega arith) (omega arith))
  ]
]

pub chosen_all : (t : ℕ → Bool) (x : ℕ) → x < 2 ^ 448 → (k : ℕ) → has (chosen t 0 (rising x)) k ≡ (has x k && t k)
chosen_all t x small k = elim (cases_lt k 448) [
  | inl l ↦ chosen_on t (has x) 448 0 0 k (omega arith) (omega arith) (omega arith) ∙ rw (has_none k)
  | inr l ↦ chosen_off t (has x) 448 0 0 k (inr (omega arith)) ∙ rw (has_none k, has_past x 448 k small l)
]
