-- Simplify: nodes are removed one by one, by the test, else in hope.
use Rattle.std.specs.Prelude.{ℕ, zero, suc, ◌+◌, ◌*◌, ◌^◌, Bool, true, false, cond, ◌&&◌, ltb, List, [], ◌∷◌, ◌++◌, length, ◌==◌, nat_lt, slice_index_or}
use Rattle.counting.specs.Counting.{least}
use Rattle.sets.specs.Sets.{has, single, meet, minus}
use Rattle.rows.specs.declared.Row.{Row}
use Rattle.rows.specs.Rows.{reads, writes}
use Rattle.registers.specs.Model.{Model}
use Rattle.rounds.specs.declared.Removed.{Removed}
use Rattle.rounds.specs.declared.Offer.{Offer}
use Rattle.rounds.specs.Interference.{Graph, neighbours, node_at}
use Rattle.rounds.specs.Pressure.{pressure, passes}

-- how many variables of a list are members of node v
unfoldable pub members_in : Graph → ℕ → List ℕ → ℕ
members_in g v [] = 0
members_in g v (x ∷ xs) = cond (node_at g x == v) 1 0 + members_in g v xs

-- the cost of node v: 10 to the weight of the row, for each place where a row reads or writes a member
unfoldable pub cost : Graph → List Row → ℕ → ℕ
unfolding members_in
cost g [] v = 0
cost g (r ∷ rs) v = members_in g v (reads r ++ writes r) * 10 ^ r.weight + cost g rs v

-- the neighbours of v that are left
abbrev pub remaining : Graph → ℕ → ℕ → ℕ → Bool
remaining g left v = has (meet (neighbours g v) left)

-- whether v is left and passes the test
unfoldable pub removable : Model → Graph → ℕ → ℕ → Bool
unfolding passes has
removable m g left v =
    let ok = passes m g v (remaining g left v) in
    has left v && ok

-- nothing looked at yet: cost over pressure is without bound
abbrev pub no_offer : Offer
no_offer = record { node = 448; cost = 1; pressure = 0 }

-- v in place of the best so far, if it is left and its cost over pressure is less
unfoldable pub better : Model → Graph → List ℕ → ℕ → ℕ → Offer → Offer
unfolding pressure has
better m g costs left v o =
    let c = slice_index_or costs v 0 in
    let w = pressure m g v (remaining g left v) in
    let less = ltb (c * o.pressure) (o.cost * w) in
    let new : Offer = record { node = v; cost = c; pressure = w } in
    cond (has left v && less) new o

-- the best of the nodes below n, the lowest of equals
unfoldable pub cheapest : Model → Graph → List ℕ → ℕ → ℕ → Offer
unfolding better
cheapest m g costs left zero = no_offer
cheapest m g costs left (suc v) = better m g costs left v (cheapest m g costs left v)

-- what is removed next: the lowest node that passes, else the cheapest of source variables, whose costs are handed
unfoldable pub next_removed : Model → Graph → List ℕ → ℕ → Removed
unfolding least removable cheapest
next_removed m g costs left =
    let n = length g.classes in
    let v = least (removable m g left) n in
    let tested : Removed = record { node = v; hoped = false } in
    let hope : Removed = record { node = (cheapest m g costs left (length costs)).node; hoped = true } in
    cond (nat_lt v n) tested hope

-- the next k removals, the first one first
unfoldable pub removals : Model → Graph → List ℕ → ℕ → ℕ → List Removed
unfolding next_removed
removals m g costs zero left = []
removals m g costs (suc k) left =
    let r = next_removed m g costs left in
    r ∷ removals m g costs k (minus left (single r.node))
