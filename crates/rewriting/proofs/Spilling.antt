-- What the end of a round shows of its spill order.
use Rattle.std.proofs.Common.{◌≡◌, ℕ, suc, ◌+◌, ◌-◌, ◌<◌, ◌≤◌, min, Bool, true, false, cond, ◌&&◌, ltb, List, map, length, get_or, take, sym, refl, ap, ◌∙◌, arith}
use Rattle.std.proofs.lemmas.List.{get_or-take}
use Rattle.std.proofs.lemmas.Bool.{lt-ltb, le-ltb}
use Rattle.counting.specs.Counting.{sum, range}
use Rattle.counting.proofs.Sums.{sum_split, sum_ext, sum_mono, count_none}
use Rattle.sets.specs.Sets.{has, size, meet, up_to}
use Rattle.sets.specs.Words.{members}
use Rattle.sets.proofs.Members.{has_meet, has_up_to}
use Rattle.rounds.specs.Interference.{node_at}
use Rattle.rounds.specs.Round.{Outcome, those, hoped_for}
use Rattle.rounds.proofs.Members.{has_those}
use Rattle.compiling.specs.declared.Home.TheVariants.{Slot}
use Rattle.compiling.specs.declared.Place.{Place}
use Rattle.compiling.specs.Working.{place_of}
use Rattle.compiling.specs.Spill.{Order, slot_in, spill_order, slots_after, places_spilled}
use Rattle.compiling.specs.Rewrite.{Ticket}
use Rattle.drafts.specs.declared.draft.Draft.{Draft}
use Rattle.drafts.specs.declared.token.Colouring.{Colouring}
use Rattle.drafts.specs.Drafts.{working_of, Shows}
use Rattle.layout.proofs.Lists.{range_ext}
use Rattle.rewriting.specs.Orders.{Small, node_in, slot_below}

and_true : (b : Bool) → (b && true) ≡ b
and_true true = refl
and_true false = refl

and_false : (b : Bool) → (b && false) ≡ false
and_false true = refl
and_false false = refl

has_front : (x n k : ℕ) → has (meet x (up_to n)) k ≡ (has x k && ltb k n)
has_front x n k = has_meet x (up_to n) k ∙ ap (λ b. has x k && b) (has_up_to n k)

-- the members below n are those that meet the numbers below n
pub size_front : (x n : ℕ) → n ≤ 448 → size 448 (meet x (up_to n)) ≡ size n x
size_front x n l =
    let y = meet x (up_to n) in
    let f : ℕ → ℕ = λ k. cond (has y k) 1 0 in
    let below : sum f n ≡ size n x = sum_ext f (λ k. cond (has x k) 1 0) n (λ k h. ap (λ (b : Bool). cond b 1 0) (has_front x n k ∙ ap (λ b. has x k && b) (lt-ltb k n h) ∙ and_true (has x k))) in
    let above : sum (λ k. f (n + k)) (448 - n) ≡ 0 = count_none (λ k. has y (n + k)) (448 - n) (λ k h. has_front x n (n + k) ∙ ap (λ b. has x (n + k) && b) (le-ltb (n + k) n (omega arith)) ∙ and_false (has x (n + k))) in
    let all : n + (448 - n) ≡ 448 = omega arith in
    let split = sum_split f n (448 - n) in
    let whole : sum f 448 ≡ sum f n + sum (λ k. f (n + k)) (448 - n) = ap (sum f) (sym all) ∙ split in
    omega (arith, whole, below, above)

order_same : (a b : ℕ) (x y : List ℕ) → a ≡ b → x ≡ y → ◌≡◌ {A = Order} (record { out = a; slots = x }) (record { out = b; slots = y })
order_same a b x y e f = cc

pub ticket_same : (s t : Order) (a b : ℕ) (x y : List Place) → s ≡ t → a ≡ b → x ≡ y → ◌≡◌ {A = Ticket} (record { order = s; given = a; places = x }) (record { order = t; given = b; places = y })
ticket_same s t a b x y e f g = cc

-- a place by its parts
unfoldable pub placed : Bool → ℕ → ℕ → Bool → Place → Place
placed out number round hoped was = let new : Place = record { home = Slot number; round = round; hoped = hoped } in cond out new was

module _ (d : Draft) (end : Colouring) (o : Outcome) (s : Shows (length d.classes) end o) (small : Small (working_of d) o) where
  node_shown : (v : ℕ) → node_in d end v ≡ node_at o.graph v
  node_shown v = ap (λ (ns : List ℕ). get_or ns v v) s.node

  slot_shown : (k : ℕ) → k ≤ length d.classes → slot_below d end k ≡ d.slots + size k o.spilled
  unfolding slot_below slots_after
  slot_shown k l =
      let few : d.slots + size (length d.classes) o.spilled ≤ 255 = small.slots in
      let more : size k o.spilled ≤ size (length d.classes) o.spilled = sum_mono (λ j. cond (has o.spilled j) 1 0) k (length d.classes) l in
      let short : min k 448 ≡ k = omega (arith, d.few) in
      rw (short, s.spilled) (omega arith)

  pub given_shown : slot_below d end (length d.classes) ≡ slots_after (working_of d) o
  unfolding slots_after
  given_shown = slot_shown (length d.classes) (omega arith)

  pub order_shown : (out : ℕ) (slots : List ℕ) → out ≡ those (λ v. has (members end.spilled) (node_in d end v)) d.source.vars → slots ≡ map (λ v. slot_below d end (node_in d end v)) (range d.source.vars 0) →
      ◌≡◌ {A = Order} (record { out = out; slots = slots }) (spill_order (working_of d) o)
  unfolding spill_order
  order_shown out slots e f =
      let vars = d.source.vars in
      order_same out (those (λ v. has o.spilled (node_at o.graph v)) vars) slots (map (λ v. d.slots + size (node_at o.graph v) o.spilled) (range vars 0))
      (e ∙ ap (λ (x : ℕ). those (λ v. has x (node_in d end v)) vars) s.spilled ∙ ap (λ (ns : List ℕ). those (λ v. has o.spilled (get_or ns v v)) vars) s.node)
      (f ∙ range_ext (λ v. slot_below d end (node_in d end v)) (λ v. d.slots + size (node_at o.graph v) o.spilled) vars 0
      (λ v l. ap (slot_below d end) (node_shown v) ∙ slot_shown (node_at o.graph v) (omega (arith, small.inside v (omega arith)))))

  pub places_shown : (out hoped : ℕ) (slots : List ℕ) → ◌≡◌ {A = Order} (record { out = out; slots = take d.source.vars slots }) (spill_order (working_of d) o) → hoped ≡ those (λ v. has (members end.hoped) (node_in d end v)) d.source.vars →
      map (λ v. placed (has out v) (get_or slots v 0) (suc d.rounds) (has hoped v) (place_of (working_of d).places v)) (range d.source.vars 0) ≡ places_spilled (working_of d) o
  unfolding places_spilled placed
  places_shown out hoped slots e f =
      let w = working_of d in
      let vars = d.source.vars in
      range_ext (λ v. placed (has out v) (get_or slots v 0) (suc d.rounds) (has hoped v) (place_of w.places v)) (λ v. placed (has (spill_order w o).out v) (slot_in (spill_order w o) v) (suc d.rounds) (hoped_for o.order (node_at o.graph v)) (place_of w.places v)) vars 0
      (λ v l.
      let lv : v < vars = omega arith in
      let outs : has out v ≡ has (spill_order w o).out v = ap (λ (x : Order). has x.out v) e in
      let number : get_or slots v 0 ≡ slot_in (spill_order w o) v = sym (get_or-take vars slots v 0 lv) ∙ ap (λ (x : Order). slot_in x v) e in
      let hope : has hoped v ≡ hoped_for o.order (node_at o.graph v) =
      ap (λ (x : ℕ). has x v) f ∙ has_those (λ u. has (members end.hoped) (node_in d end u)) vars v ∙ ap (λ b. b && has (members end.hoped) (node_in d end v)) (lt-ltb v vars lv)
      ∙ ap (has (members end.hoped)) (node_shown v) ∙ s.hoped (node_at o.graph v) (omega (arith, small.inside v lv)) in
      rw (outs, number, hope))
