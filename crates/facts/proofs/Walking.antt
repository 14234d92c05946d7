-- The rows that come to a row, as a list and as a set that is walked from its lowest member on.
use Rattle.std.proofs.Common.{Option, ◌≡◌, ℕ, zero, suc, ◌+◌, ◌-◌, ◌^◌, ◌<◌, ◌≤◌, Bool, true, false, ◌&&◌, ◌||◌, eqb, leb, List, [], ◌∷◌, ◌++◌, length, get_or, sym, refl, ap, ◌∙◌, ap₂, inl, inr, pow-suc, map-id, arith}
use Rattle.std.proofs.lemmas.List.{get_or_past}
use Rattle.std.proofs.lemmas.Bool.{cases_Bool, cases_lt, cases_eq, le-leb, lt-leb, eq-eqb, ne_eqb}
use Rattle.std.specs.Iterator.{AlwaysYields, Drains, YieldsFirst}
use Rattle.std.proofs.lemmas.Iterator.{items_from_drains}
use Rattle.std.proofs.lemmas.Iterator.Consumers.{YieldsList-from_first}
use Rattle.counting.specs.Counting.{range, down}
use Rattle.sets.specs.Sets.{has, single}
use Rattle.sets.proofs.Members.{has_union, has_single, has_none, same_members}
use Rattle.facts.specs.Flow.{Flow, rows, holds, holders, comers, turns, gather}
use Rattle.sets.specs.Rising.{passing}
use Rattle.facts.specs.Solving.{listed}

below_pow : (n : ℕ) → n < 2 ^ n
below_pow zero = omega arith
below_pow (suc n) = omega (arith, below_pow n, pow-suc 2 n)

-- sets with the same are equal
pub same_sets : (a b : ℕ) → ((k : ℕ) → has a k ≡ has b k) → a ≡ b
same_sets a b h = same_members (a + b) a b (small a (a + b) (omega arith)) (small b (a + b) (omega arith)) (λ k _. h k)
  where
    small : (x n : ℕ) → x ≤ n → x < 2 ^ n
    small x n l = omega (arith, below_pow n)

pub has_listed : (js : List ℕ) (k : ℕ) → has (listed js) k ≡ holds js k
unfolding listed holds
has_listed [] k = has_none k
has_listed (j ∷ js) k = has_union (single j) (listed js) k ∙ ap₂ ◌||◌ (has_single j k) (has_listed js k)

-- a row holds i just if it is one of the holders
holds_holders : (i b : ℕ) (kss : List (List ℕ)) (j : ℕ) → holds (holders i b kss) j ≡ (leb b j && holds (get_or kss (j - b) []) i)
unfolding holders holds
holds_holders i b [] j = elim (cases_Bool (leb b j)) [ inl e ↦ rw e | inr e ↦ rw e ]
holds_holders i b (ks ∷ kss) j =
    let rest = holds_holders i (suc b) kss j in
    elim (cases_lt j b) [
      | inl l ↦ (let past : leb (suc b) j ≡ false = lt-leb (suc b) j (omega arith) in let here : eqb j b ≡ false = ne_eqb j b (omega arith) in
          let none : holds (holders i (suc b) kss) j ≡ false = rest ∙ ap (λ (t : Bool). t && holds (get_or kss (j - suc b) []) i) past in
          elim (cases_Bool (holds ks i)) [ inl e ↦ rw (e, lt-leb b j l, here) none | inr e ↦ rw (e, lt-leb b j l) none ])
      | inr l ↦ elim (cases_eq j b) [
        | inl q ↦ (let z : j - b ≡ 0 = omega arith in let past : leb (suc b) j ≡ false = lt-leb (suc b) j (omega arith) in
            let none : holds (holders i (suc b) kss) j ≡ false = rest ∙ ap (λ (t : Bool). t && holds (get_or kss (j - suc b) []) i) past in
            elim (cases_Bool (holds ks i)) [ inl e ↦ rw (e, z, le-leb b j l, eq-eqb j b q) (sym e) | inr e ↦ rw (e, z, le-leb b j l) (none ∙ sym e) ])
        | inr q ↦ (let s : j - b ≡ suc (j - suc b) = omega arith in let on : leb (suc b) j ≡ true = le-leb (suc b) j (omega arith) in
            let more : holds (holders i (suc b) kss) j ≡ holds (get_or kss (j - suc b) []) i = rest ∙ ap (λ (t : Bool). t && holds (get_or kss (j - suc b) []) i) on in
            elim (cases_Bool (holds ks i)) [ inl e ↦ rw (e, s, le-leb b j l, ne_eqb j b q) more | inr e ↦ rw (e, s, le-leb b j l) more ])
      ]
    ]

pub holds_comers : (next : List (List ℕ)) (i j : ℕ) → holds (comers next i) j ≡ holds (get_or next j []) i
unfolding comers
holds_comers next i j = let z : j - 0 ≡ j = omega arith in holds_holders i 0 next j ∙ rw (le-leb 0 j (omega arith), z)

holders_passing : (t : ℕ → Bool) (i b : ℕ) (kss : List (List ℕ)) → ((k : ℕ) → k < length kss → t (b + k) ≡ holds (get_or kss k []) i) → holders i b kss ≡ passing t (length kss) b
unfolding holders passing
holders_passing t i b [] h = refl
holders_passing t i b (ks ∷ kss) h =
    let z : b + 0 ≡ b = omega arith in
    let here : t b ≡ holds ks i = ap t (sym z) ∙ h 0 (omega arith) in
    let rest = holders_passing t i (suc b) kss (λ k l. let s : suc b + k ≡ b + suc k = omega arith in ap t s ∙ h (suc k) (omega arith)) in
    rw (here, rest)

-- what none passes may be left out
pub passing_none : (t : ℕ → Bool) (m b : ℕ) → ((k : ℕ) → b ≤ k → t k ≡ false) → passing t m b ≡ []
unfolding passing
passing_none t zero b h = refl
passing_none t (suc m) b h = rw (h b (omega arith)) (passing_none t m (suc b) (λ k l. h k (omega arith)))

passing_end : (t : ℕ → Bool) (n m b : ℕ) → ((k : ℕ) → b + n ≤ k → t k ≡ false) → passing t (n + m) b ≡ passing t n b
unfolding passing
passing_end t zero m b h = let z : 0 + m ≡ m = omega arith in rw z (passing_none t m b (λ k l. h k (omega arith)))
passing_end t (suc n) m b h =
    let s : suc n + m ≡ suc (n + m) = omega arith in
    let rest = passing_end t n m (suc b) (λ k l. h k (omega arith)) in
    rw (s, rest)

-- a set of the rows that come to row i holds them in their order
pub comers_passing : (next : List (List ℕ)) (i x n : ℕ) → length next ≤ n → ((k : ℕ) → has x k ≡ holds (get_or next k []) i) → comers next i ≡ passing (has x) n 0
unfolding comers holds
comers_passing next i x n l h =
    let e : length next + (n - length next) ≡ n = omega arith in
    holders_passing (has x) i 0 next (λ k _. let z : 0 + k ≡ k = omega arith in ap (has x) z ∙ h k)
    ∙ sym (passing_end (has x) (length next) (n - length next) 0 (λ k b. h k ∙ ap (λ (ks : List ℕ). holds ks i) (get_or_past next k [] (omega arith))))
    ∙ ap (λ (m : ℕ). passing (has x) m 0) e

-- one row more of a walk
pub gather_more : (join : ℕ → ℕ → ℕ) (kept : ℕ → ℕ) (x : ℕ) (js : List ℕ) (j : ℕ) → gather join kept x (js ++ j ∷ []) ≡ join (gather join kept x js) (kept j)
unfolding gather
gather_more join kept x [] j = refl
gather_more join kept x (i ∷ js) j = gather_more join kept (join x (kept i)) js j

-- an iterator that hands out the first of what is left always hands out what is left
pub always_first : {S : Type 0} (rest : S → List ℕ) (s : S) (all : List ℕ) → rest s ≡ all → AlwaysYields (YieldsFirst rest) (λ j. j) s all
always_first rest s all e = (YieldsList-from_first (λ j. j) rest all e).runs

-- an iterator that always hands out a list has handed out all of it when it is drained
pub drained : {S : Type 0} (steps : S → Option ℕ → S → Type 0) (s : S) (all : List ℕ) → AlwaysYields steps (λ j. j) s all → (js : List ℕ) → Drains steps s js → js ≡ all
drained steps s all always js (u, (t, run, end)) =
    sym (map-id js) ∙ items_from_drains {steps = steps} {v = λ j. j} {s = s} {all = all} js (t, run, λ _. (u, end)) record { runs = always }

pub gather_always : {S : Type 0} (steps : S → Option ℕ → S → Type 0) (s : S) (all : List ℕ) (join : ℕ → ℕ → ℕ) (kept : ℕ → ℕ) (x y : ℕ) →
    AlwaysYields steps (λ j. j) s all → (js : List ℕ) × Drains steps s js × (y ≡ gather join kept x js) → y ≡ gather join kept x all
gather_always steps s all join kept x y always (js, run, h) = h ∙ ap (gather join kept x) (drained steps s all always js run)

-- an iterator that hands out the first of what is left hands out all of it
pub gather_drained : {S : Type 0} (rest : S → List ℕ) (s : S) (all : List ℕ) (join : ℕ → ℕ → ℕ) (kept : ℕ → ℕ) (x y : ℕ) →
    rest s ≡ all → (js : List ℕ) × Drains (YieldsFirst rest) s js × (y ≡ gather join kept x js) → y ≡ gather join kept x all
gather_drained rest s all join kept x y e (js, (u, (t, run, end)), h) =
    h ∙ ap (gather join kept x) (sym (map-id js) ∙ items_from_drains {steps = YieldsFirst rest} {v = λ i. i} {s = s} {all = all} js (t, run, λ _. (u, end)) (YieldsList-from_first (λ i. i) rest all e))

range_at : (n j k : ℕ) → k < n → get_or (range n j) k 0 ≡ j + k
unfolding range
range_at zero j k l = absurd (omega arith)
range_at (suc n) j zero l = omega arith
range_at (suc n) j (suc k) l = omega (arith, range_at n (suc j) k (omega arith))

down_at : (n k : ℕ) → k < n → get_or (down n) k 0 ≡ n - 1 - k
unfolding down
down_at zero k l = absurd (omega arith)
down_at (suc n) zero l = omega arith
down_at (suc n) (suc k) l = omega (arith, down_at n k (omega arith))

pub turn_backward : (f : Flow) (k : ℕ) → f.backward ≡ true → k < rows f → get_or (turns f) k 0 ≡ rows f - 1 - k
unfolding turns
turn_backward f k b l = rw b (down_at (rows f) k l)

pub turn_forward : (f : Flow) (k : ℕ) → f.backward ≡ false → k < rows f → get_or (turns f) k 0 ≡ k
unfolding turns
turn_forward f k b l = rw b (omega (arith, range_at (rows f) 0 k l))
