-- Pressure as a sum over classes, and what bounds it.
use Rattle.std.proofs.Common.{◌≡◌, ℕ, ◌+◌, ◌-◌, ◌*◌, ◌<◌, ◌≤◌, Bool, false, cond, ◌&&◌, eqb, ltb, List, length, get_or, take, sym, ap, ◌∙◌, inl, inr, arith}
use Rattle.std.proofs.lemmas.List.{get_or-take, length-take-le}
use Rattle.std.proofs.lemmas.Bool.{cases_Bool, cases_lt, lt-ltb, le-ltb, cond_both, cond-false}
use Rattle.counting.specs.Counting.{sum, count}
use Rattle.counting.proofs.Sums.{sum_ext, sum_split, sum_le, count_le, class_more, none_below, most_none, most_attained}
use Rattle.sets.specs.Sets.{has, meet, size}
use Rattle.sets.proofs.Members.{has_meet}
use Rattle.registers.specs.Model.{Model, Lawful, clashes}
use Rattle.rounds.specs.Interference.{Graph}
use Rattle.rounds.specs.Pressure.{pressure}

-- no more than 64 registers are overlapped
pub q_few : (m : Model) → Lawful m → (b c : ℕ) → m.q b c ≤ 64
q_few m l b c =
    elim (most_attained (λ r. cond (m.belongs r c) (clashes m b r) 0) m.count) [
      | inl none ↦ omega (arith, l.reckoned b c, none)
      | inr (r, lt, e) ↦ omega (arith, l.reckoned b c, e, l.few, at_most r)
    ]
  where
    at_most : (r : ℕ) → cond (m.belongs r c) (clashes m b r) 0 ≤ m.count
    at_most r = cond_both (m.belongs r c) (clashes m b r) 0 (λ n. n ≤ m.count) (λ _. count_le (λ s. m.belongs s b && m.overlaps r s) m.count) (λ _. omega arith)

-- and none by what is of no class
pub q_none : (m : Model) → Lawful m → (b c : ℕ) → 3 ≤ c → m.q b c ≡ 0
q_none m l b c h =
    l.reckoned b c ∙ most_none (λ r. cond (m.belongs r c) (clashes m b r) 0) m.count (λ r _. cond-false (m.belongs r c) (clashes m b r) 0 (no' r))
  where
    no' : (r : ℕ) → m.belongs r c ≡ false
    no' r = elim (cases_Bool (m.belongs r c)) [ inl e ↦ absurd (omega (arith, (l.outside r c e).1)) | inr e ↦ e ]

-- a sum ends where its values do
pub sum_cut : (f : ℕ → ℕ) (n m : ℕ) → n ≤ m → ((k : ℕ) → n ≤ k → f k ≡ 0) → sum f m ≡ sum f n
sum_cut f n m h z =
    let e : m ≡ n + (m - n) = omega arith in
    let rest : sum (λ k. f (n + k)) (m - n) ≤ 0 * (m - n) = sum_le (λ k. f (n + k)) 0 (m - n) (λ k _. let here : f (n + k) ≡ 0 = z (n + k) (omega arith) in omega arith) in
    ap (sum f) e ∙ sum_split f n (m - n) ∙ omega (arith, rest)

-- what the variables below n that pass, of the classes below c, press on one of class b
abbrev pub pressed : Model → List ℕ → ℕ → ℕ → (ℕ → Bool) → ℕ → ℕ
pressed m classes n b t c = sum (λ k. cond ((t k && ltb k n) && ltb (get_or classes k 0) c) (m.q b (get_or classes k 0)) 0) 448

pub pressed_few : (m : Model) → Lawful m → (classes : List ℕ) (n b : ℕ) (t : ℕ → Bool) (c : ℕ) → pressed m classes n b t c ≤ 28672
pressed_few m l classes n b t c =
    omega (
      arith,
      sum_le (λ k. cond ((t k && ltb k n) && ltb (get_or classes k 0) c) (m.q b (get_or classes k 0)) 0) 64 448
          (λ k _. cond_both ((t k && ltb k n) && ltb (get_or classes k 0) c) (m.q b (get_or classes k 0)) 0 (λ x. x ≤ 64) (λ _. q_few m l b (get_or classes k 0)) (λ _. omega arith)),
    )

pub pressed_none : (m : Model) (classes : List ℕ) (n b : ℕ) (t : ℕ → Bool) → pressed m classes n b t 0 ≡ 0
pressed_none m classes n b t = none_below (λ k. t k && ltb k n) (λ k. get_or classes k 0) (m.q b) 448

-- the members of a class
pub near_is : (by mask : ℕ) (classes : List ℕ) (n c : ℕ) → ((k : ℕ) → has mask k ≡ (ltb k n && eqb (get_or classes k 0) c)) →
    size 448 (meet by mask) ≡ count (λ k. (has by k && ltb k n) && eqb (get_or classes k 0) c) 448
near_is by mask classes n c h = sum_ext _ _ 448 (λ k _. rw (has_meet by mask k, h k) (grind arith))

-- one class more
pub pressed_more : (m : Model) (classes : List ℕ) (n b : ℕ) (t : ℕ → Bool) (c near : ℕ) → near ≡ count (λ k. (t k && ltb k n) && eqb (get_or classes k 0) c) 448 →
    pressed m classes n b t (c + 1) ≡ pressed m classes n b t c + m.q b c * near
pressed_more m classes n b t c near e =
    class_more (λ k. t k && ltb k n) (λ k. get_or classes k 0) (m.q b) c 448 ∙ ap (λ (x : ℕ). pressed m classes n b t c + m.q b c * x) (sym e)

-- a variable below n presses by its class, and not at all where that is none of the three
each_part : (m : Model) → Lawful m → (classes : List ℕ) (n b : ℕ) (t : ℕ → Bool) (k : ℕ) → k < n →
    cond ((t k && ltb k n) && ltb (get_or classes k 0) 3) (m.q b (get_or classes k 0)) 0 ≡ cond (t k) (m.q b (get_or (take n classes) k 0)) 0
each_part m l classes n b t k h =
    rw (get_or-take n classes k 0 h, lt-ltb k n h) (elim (cases_lt (get_or classes k 0) 3) [
      | inl c ↦ rw (lt-ltb (get_or classes k 0) 3 c) (grind arith)
      | inr c ↦ rw (le-ltb (get_or classes k 0) 3 c, q_none m l b (get_or classes k 0) c) (grind arith)
    ])

-- three classes are all
pub pressed_all : (m : Model) → Lawful m → (g : Graph) (classes : List ℕ) (n v : ℕ) (t : ℕ → Bool) → n ≤ 448 → n ≤ length classes → g.classes ≡ take n classes →
    pressed m classes n (get_or (take n classes) v 0) t 3 ≡ pressure m g v t
unfolding pressure
pressed_all m l g classes n v t few whole same =
    rw (same, length-take-le n classes whole)
    (sum_cut (λ k. cond ((t k && ltb k n) && ltb (get_or classes k 0) 3) (m.q (get_or (take n classes) v 0) (get_or classes k 0)) 0) n 448 few (λ k h. rw (le-ltb k n h) (grind arith))
    ∙ sum_ext _ _ n (each_part m l classes n (get_or (take n classes) v 0) t))
