-- A node joined with a set of others, which is walked from its lowest member on.
use Rattle.std.proofs.Common.{◌≡◌, ℕ, zero, suc, ◌+◌, ◌^◌, ◌<◌, ◌≤◌, Bool, true, false, cond, ◌&&◌, ◌||◌, eqb, List, length, get_or, set, sym, refl, ap, ◌∙◌, inl, inr, arith}
use Rattle.std.proofs.lemmas.List.{get_or-set_same, get_or-set_other}
use Rattle.std.proofs.lemmas.Bool.{cases_Bool, cases_lt, cases_eq, eq-eqb, ne_eqb}
use Rattle.sets.specs.Sets.{has, single, union, when}
use Rattle.sets.specs.Rising.{passing, rising}
use Rattle.sets.proofs.Members.{has_union, has_single, has_when, has_past}
use Rattle.facts.specs.Flow.{holds}
use Rattle.facts.specs.Solving.{Listing}
use Rattle.facts.proofs.Walking.{same_sets}
use Rattle.interference.specs.Building.{Joined}

-- who stands among the members in rising order
holds_low : (t : ℕ → Bool) (n b k : ℕ) → k < b → holds (passing t n b) k ≡ false
unfolding holds passing
holds_low t zero b k l = refl
holds_low t (suc n) b k l = elim (cases_Bool (t b)) [
  | inl e ↦ rw (e, ne_eqb k b (omega arith)) (holds_low t n (suc b) k (omega arith))
  | inr e ↦ rw e (holds_low t n (suc b) k (omega arith))
]

holds_high : (t : ℕ → Bool) (n b k : ℕ) → b + n ≤ k → holds (passing t n b) k ≡ false
unfolding holds passing
holds_high t zero b k l = refl
holds_high t (suc n) b k l = elim (cases_Bool (t b)) [
  | inl e ↦ rw (e, ne_eqb k b (omega arith)) (holds_high t n (suc b) k (omega arith))
  | inr e ↦ rw e (holds_high t n (suc b) k (omega arith))
]

holds_within : (t : ℕ → Bool) (n b k : ℕ) → b ≤ k → k < b + n → holds (passing t n b) k ≡ t k
unfolding holds passing
holds_within t zero b k l u = absurd (omega arith)
holds_within t (suc n) b k l u = elim (cases_eq k b) [
  | inl q ↦ elim (cases_Bool (t b)) [
    | inl e ↦ rw (q, e, eq-eqb b b refl) refl
    | inr e ↦ rw (q, e) (holds_low t n (suc b) b (omega arith))
  ]
  | inr ne ↦ elim (cases_Bool (t b)) [
    | inl e ↦ rw (e, ne_eqb k b ne) (holds_within t n (suc b) k (omega arith) (omega arith))
    | inr e ↦ rw e (holds_within t n (suc b) k (omega arith) (omega arith))
  ]
]

holds_rising : (x k : ℕ) → x < 2 ^ 448 → holds (rising x) k ≡ has x k
holds_rising x k small = elim (cases_lt k 448) [
  | inl l ↦ holds_within (has x) 448 0 k (omega arith) (omega arith)
  | inr g ↦ holds_high (has x) 448 0 k (omega arith) ∙ sym (has_past x 448 k small g)
]

-- past the last of the others, d has come to the sets of all
abbrev Spread : ℕ → ℕ → (was after : List ℕ) → Type 0
Spread d others was after = (k m : ℕ) → k < length was → has (get_or after k 0) m ≡ (has (get_or was k 0) m || (has others k && eqb m d))

spread : (d others : ℕ) (was now done : List ℕ) → others < 2 ^ 448 → done ≡ rising others → Listing was now d done → Spread d others was now
spread d others was now done small e w k m h = w k m h ∙ ap (λ (b : Bool). has (get_or was k 0) m || (b && eqb m d)) (ap (λ (xs : List ℕ). holds xs k) e ∙ holds_rising others k small)

beside : (d others v x w : ℕ) → (v ≡ d → ⊥) → ((m : ℕ) → has x m ≡ (has w m || (has others v && eqb m d))) → x ≡ union (cond (eqb v d) others (when (has others v) (single d))) w
beside d others v x w ne h = rw (ne_eqb v d ne)
    (same_sets _ _ (λ m. h m ∙ sym (has_union (when (has others v) (single d)) w m ∙ rw (has_when (has others v) (single d) m, has_single d m) (either (has others v && eqb m d) (has w m)))))
  where
    either : (a b : Bool) → (a || b) ≡ (b || a)
    either a b = grind arith

pub joined_past : (d others : ℕ) (was now done : List ℕ) → others < 2 ^ 448 → done ≡ rising others → Listing was now d done → length was ≤ d → Joined d others was now
joined_past d others was now done small e w past k h = beside d others k _ _ (omega arith) (λ m. spread d others was now done small e w k m h)

pub joined_here : (d others s : ℕ) (was now done : List ℕ) → others < 2 ^ 448 → done ≡ rising others → Listing was now d done →
    d < length now → length now ≡ length was → s ≡ union (get_or now d 0) others → Joined d others was (set now d s)
joined_here d others s was now done small e w inside long is k h =
    elim (cases_eq k d) [
      | inl q ↦ rw (q, eq-eqb d d refl, get_or-set_same now d s 0 inside) (same_sets _ _ here)
      | inr ne ↦ rw (get_or-set_other now d k s 0 ne) (beside d others k _ _ ne (λ m. all k m h))
    ]
  where
    all : Spread d others was now
    all = spread d others was now done small e w

    here : (m : ℕ) → has s m ≡ has (union others (get_or was d 0)) m
    here m =
        ap (λ (x : ℕ). has x m) is ∙ has_union (get_or now d 0) others m ∙ ap (λ (b : Bool). b || has others m) (all d m (omega arith))
        ∙ elim (cases_eq m d) [
          | inl q ↦ rw (q, eq-eqb d d refl) (absorbed (has (get_or was d 0) d) (has others d))
          | inr ne ↦ rw (ne_eqb m d ne) (apart (has (get_or was d 0) m) (has others d) (has others m))
        ]
        ∙ sym (has_union others (get_or was d 0) m)
      where
        absorbed : (x o : Bool) → ((x || (o && true)) || o) ≡ (o || x)
        absorbed x o = grind arith

        apart : (x o q : Bool) → ((x || (o && false)) || q) ≡ (q || x)
        apart x o q = grind arith
