-- The occupants tell which registers are free; one more node returns.
use Rattle.std.proofs.Common.{◌≡◌, ℕ, zero, suc, ◌+◌, ◌^◌, ◌<◌, ◌≤◌, Bool, true, false, cond, not, ◌&&◌, eqb, ltb, List, [], ◌∷◌, Option, length, take, map, reverse, ◌++◌, set, replicate, sym, refl, ap, ◌∙◌, inl, inr, add-one, add-zero, zero-add, arith, get_or-set_other, get_or-set_same}
use lib.Bits.{and_lt, or_zero_r}
use Rattle.std.proofs.lemmas.Nat.{pow_pos}
use Rattle.std.proofs.lemmas.List.{get_or-replicate, get_or_past, length-replicate, map_push, reverse-append, reverse-reverse, get_or_append_left, get_or-take}
use Rattle.std.specs.List.{find, range_with_len}
use Rattle.std.specs.Option.{unwrap_or}
use Rattle.std.proofs.lemmas.Bool.{cases_Bool, cases_eq, cases_lt, eq-eqb, ne_eqb, lt-ltb, both_ways}
use Rattle.counting.specs.Counting.{any, least}
use Rattle.counting.proofs.Searches.{any_is, any_none, any_found, any_ext, least_ext, least_is, least_none}
use Rattle.sets.specs.Sets.{has, single, union, meet, minus, when}
use Rattle.sets.proofs.Members.{has_union, has_meet, has_minus, has_single, has_when, has_none, same_members}
use Rattle.sets.specs.Words.{members, no_set}
use Rattle.registers.specs.Model.{Model, Lawful}
use Rattle.rounds.specs.declared.Removed.{Removed}
use Rattle.rounds.specs.Interference.{Graph, class_at, neighbours}
use Rattle.rounds.specs.Select.{register_of, free, choice, selected}
use Rattle.rounds.specs.Round.{those, hoped_for}
use Rattle.selection.specs.Occupants.{occupies, Occupied, vacant, Settled}

-- none below n passes where any fails
any_fails : (t : ℕ → Bool) (n k : ℕ) → any t n ≡ false → k < n → t k ≡ false
any_fails t n k e l = elim (cases_Bool (t k)) [ inl h ↦ absurd (both_ways (any t n) e (any_is t n k l h)) | inr h ↦ h ]

-- the numbers from n on do not count where none of them passes
any_low : (t : ℕ → Bool) (n m : ℕ) → n ≤ m → ((k : ℕ) → n ≤ k → t k ≡ false) → any t m ≡ any t n
any_low t n m le high =
    elim (cases_Bool (any t n)) [
      | inl e ↦ (let (k, l, h) = any_found t n e in any_is t m k (omega arith) h ∙ sym e)
      | inr e ↦ any_none t m (λ k l. elim (cases_lt k n) [ inl b ↦ any_fails t n k e b | inr b ↦ high k b ]) ∙ sym e
    ]

-- two sets meet if they have a member in common
pub apart_is : (x y : ℕ) → x < 2 ^ 448 → y < 2 ^ 448 → eqb (meet x y) 0 ≡ not (any (λ k. has x k && has y k) 448)
apart_is x y hx hy =
    let t : ℕ → Bool = λ k. has x k && has y k in
    elim (cases_Bool (any t 448)) [
      | inl e ↦
          let (k, l, h) = any_found t 448 e in
          let there : has (meet x y) k ≡ true = has_meet x y k ∙ h in
          rw e (ne_eqb (meet x y) 0 (λ z. both_ways (has 0 k) (has_none k) (sym (ap (λ n. has n k) z) ∙ there)))
      | inr e ↦ rw e (eq-eqb (meet x y) 0 (same_members 448 (meet x y) 0 (and_lt 448 x y hx hy) (pow_pos 448) (λ k l. has_meet x y k ∙ any_fails t 448 k e l ∙ sym (has_none k))))
    ]

-- who has no register overlaps nothing
none_overlaps : (m : Model) → Lawful m → (r : ℕ) → m.overlaps r m.count ≡ false
none_overlaps m lawful r =
    elim (cases_Bool (m.overlaps r m.count)) [ inl e ↦ absurd (omega (arith, lawful.apart r m.count e)) | inr e ↦ e ]

vacant_free : (m : Model) → Lawful m → (g : Graph) (taken : List ℕ) (occupants : List ℕ) → length taken ≡ length g.classes → length taken ≤ 448 → Occupied m taken occupants →
    (v r : ℕ) → r < m.count → vacant m occupants (class_at g v) (neighbours g v) r ≡ free m g taken v r
unfolding free
vacant_free m lawful g taken occupants sized few held v r lt =
    let x = neighbours g v in
    let clash : ℕ → Bool = λ k. m.overlaps r (register_of m taken k) in
    let same = any_ext (λ k. has x k && occupies occupants r k) (λ k. has x k && clash k) 448 (λ k l. ap (λ b. has x k && b) (held r k lt l)) in
    let low = any_low (λ k. has x k && clash k) (length g.classes) 448 (omega arith) (λ k l.
    let none : clash k ≡ false = ap (m.overlaps r) (get_or_past taken k m.count (omega arith)) ∙ none_overlaps m lawful r in
    rw none (grind arith)) in
    ap (λ b. m.belongs r (class_at g v) && not b) (same ∙ low)

found_from : (t : ℕ → Bool) (n a : ℕ) → ((k : ℕ) → k < a → t k ≡ false) → unwrap_or (find t (range_with_len a n)) (a + n) ≡ least t (a + n)
found_from t zero a below = rw add-zero (least_none t a below)
found_from t (suc n) a below =
    let next : a + 1 + n ≡ a + suc n = omega arith in
    elim (cases_Bool (t a)) [
      | inl e ↦ rw e (least_is t (a + suc n) a (omega arith) below e)
      | inr e ↦ rw e (rw next at (found_from t n (a + 1) (λ k l. elim (cases_eq k a) [ inl f ↦ rw f e | inr f ↦ below k (omega arith) ])))
    ]

-- a search of a range finds the least number that passes
pub lowest_found : (t : ℕ → Bool) (n : ℕ) → unwrap_or (find t (range_with_len 0 n)) n ≡ least t n
lowest_found t n = rw (zero-add n) at (found_from t n 0 (λ k l. absurd (omega arith)))

-- the lowest vacant register is the one that the node takes
pub lowest_choice : (m : Model) → Lawful m → (g : Graph) (taken : List ℕ) (occupants : List ℕ) → length taken ≡ length g.classes → length taken ≤ 448 → Occupied m taken occupants →
    (v class near s : ℕ) → class ≡ class_at g v → near ≡ neighbours g v → s ≡ least (vacant m occupants class near) m.count → s ≡ choice m g taken v
unfolding choice
lowest_choice m lawful g taken occupants sized few held v class near s ec en is =
    is ∙ rw (ec, en) (least_ext (vacant m occupants (class_at g v) (neighbours g v)) (free m g taken v) m.count (λ r l. vacant_free m lawful g taken occupants sized few held v r l))

-- what a search of the registers answers, or none
pub lowest_taken : (m m' : Model) (occupants : List ℕ) (class near none s : ℕ) (o : Option ℕ) → m' ≡ m → o ≡ find (vacant m' occupants class near) (range_with_len 0 m'.count) → none ≡ m.count →
    s ≡ unwrap_or o none → s ≡ least (vacant m occupants class near) m.count
lowest_taken m m' occupants class near none s o em eo en is = is ∙ rw (eo, en, em) (lowest_found (vacant m occupants class near) m.count)

-- as long as nobody has returned there are no occupants
pub nobody : (m : Model) → Lawful m → (n k : ℕ) (taken : List ℕ) (r : ℕ) → taken ≡ replicate n m.count → m.overlaps r (register_of m taken k) ≡ false
nobody m lawful n k taken r e =
    let none : register_of m taken k ≡ m.count = rw e (elim (cases_lt k n) [ inl l ↦ get_or-replicate n k m.count m.count l | inr l ↦ get_or_past (replicate n m.count) k m.count (simp length-replicate (omega arith)) ]) in
    ap (m.overlaps r) none ∙ none_overlaps m lawful r

-- one more node stands in a register
pub occupied_more : (m : Model) (taken : List ℕ) (was after : List ℕ) (v s : ℕ) → v < length taken → Occupied m taken was → Settled m v s was after → Occupied m (set taken v s) after
occupied_more m taken was after v s lt held settled r k l b =
    settled r k l b ∙ elim (cases_eq v k) [
      | inl e ↦ rw (eq-eqb v k e, ← e, get_or-set_same taken v s m.count lt)
      | inr n ↦ rw (ne_eqb v k n, get_or-set_other taken v k s m.count (λ f. n (sym f))) (held r k l b)
    ]

-- the sets of all registers, if those below n were placed one by one
pub settled_below : (m : Model) (v s n : ℕ) (was items rest : List ℕ) → m.count ≡ n → length items ≡ n →
    ((r k : ℕ) → r < n → k < 448 → occupies items r k ≡ cond (eqb v k) (m.overlaps r s) (occupies (take n was) r k)) → Settled m v s was (items ++ rest)
settled_below m v s n was items rest en el placed r k l b =
    let below : r < n = omega arith in
    ap (λ x. has (members x) k) (get_or_append_left items rest no_set r (omega arith)) ∙ placed r k below b
    ∙ ap (λ x. cond (eqb v k) (m.overlaps r s) (has (members x) k)) (get_or-take n was r no_set below)

pub take_of_set : (n : ℕ) (xs : List ℕ) (i y : ℕ) → take n (set xs i y) ≡ set (take n xs) i y
take_of_set zero xs i y = refl
take_of_set (suc n) [] i y = refl
take_of_set (suc n) (x ∷ xs) zero y = refl
take_of_set (suc n) (x ∷ xs) (suc i) y = ap (λ zs. x ∷ zs) (take_of_set n xs i y)

-- what has been walked of a list from its last on, one more
walked_more : {A X : Type 0} (f : A → X) (xs : List A) (x : A) → reverse (map f (xs ++ x ∷ [])) ≡ f x ∷ reverse (map f xs)
walked_more f xs x = ap reverse (map_push f xs x) ∙ reverse-append (map f xs) (f x ∷ [])

-- and the whole list at the end
pub from_the_last : {X : Type 0} (seen xs : List X) → seen ≡ reverse xs → reverse seen ≡ xs
from_the_last seen xs e = ap reverse e ∙ reverse-reverse xs

-- one more node returns
pub selected_step : {A : Type 0} (m : Model) (g : Graph) (f : A → Removed) (back : List A) (r : A) (taken after : List ℕ) → taken ≡ selected m g (reverse (map f back)) →
    after ≡ set taken (f r).node (choice m g taken (f r).node) → after ≡ selected m g (reverse (map f (back ++ r ∷ [])))
unfolding selected
selected_step m g f back r taken after was is = is ∙ rw was (ap (selected m g) (sym (walked_more f back r)))

-- the set of v alone, as far as a node set can hold it
one_has : (v k : ℕ) → k < 448 → has (when (ltb v 448) (single v)) k ≡ eqb v k
one_has v k l =
    has_when (ltb v 448) (single v) k ∙ elim (cases_eq v k) [
      | inl e ↦ rw (e, lt-ltb k 448 l, has_single k k)
      | inr n ↦ rw (has_single v k, ne_eqb k v (λ e. n (sym e)), ne_eqb v k n) (grind arith)
    ]

pub with_has : (x v k : ℕ) → k < 448 → has (union x (when (ltb v 448) (single v))) k ≡ cond (eqb v k) true (has x k)
with_has x v k l = has_union x (when (ltb v 448) (single v)) k ∙ rw (one_has v k l) (grind arith)

pub without_has : (x v k : ℕ) → k < 448 → has (minus x (when (ltb v 448) (single v))) k ≡ cond (eqb v k) false (has x k)
without_has x v k l = has_minus x (when (ltb v 448) (single v)) k ∙ rw (one_has v k l) (grind arith)

pub those_yes : (t : ℕ → Bool) (n x y : ℕ) → t n ≡ true → x ≡ those t n → y ≡ union x (single n) → y ≡ those t (n + 1)
unfolding those
those_yes t n x y h was is = rw (add-one, h, ← was) is

pub those_no : (t : ℕ → Bool) (n x : ℕ) → t n ≡ false → x ≡ those t n → x ≡ those t (n + 1)
unfolding those
those_no t n x h was = rw (add-one, h, ← was) (sym (or_zero_r x))

-- one removal more, from the last to the first
pub hoped_step : {A : Type 0} (f : A → Removed) (back : List A) (r : A) (x y : ℕ) → ((v : ℕ) → v < 448 → has x v ≡ hoped_for (reverse (map f back)) v) →
    ((v : ℕ) → v < 448 → has y v ≡ cond (eqb (f r).node v) (f r).hoped (has x v)) → (v : ℕ) → v < 448 → has y v ≡ hoped_for (reverse (map f (back ++ r ∷ []))) v
unfolding hoped_for
hoped_step f back r x y was is v b = is v b ∙ ap (cond (eqb (f r).node v) (f r).hoped) (was v b) ∙ ap (λ rs. hoped_for rs v) (sym (walked_more f back r))
