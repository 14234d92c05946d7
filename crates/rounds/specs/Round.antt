-- A round: liveness, interference, coalescing, simplify, select.
use Rattle.std.specs.Prelude.{ℕ, zero, suc, Bool, false, cond, not, ◌&&◌, List, [], ◌∷◌, map, length, ◌==◌, nat_lt}
use Rattle.counting.specs.Counting.{sum, range}
use Rattle.sets.specs.Sets.{has, single, union, when, size}
use Rattle.rows.specs.declared.Row.{Row}
use Rattle.registers.specs.Model.{Model}
use Rattle.rounds.specs.declared.Removed.{Removed}
use Rattle.rounds.specs.Liveness.{live_after}
use Rattle.rounds.specs.Interference.{Graph, interference}
use Rattle.rounds.specs.Coalescing.{copies_in, coalesced}
use Rattle.rounds.specs.Simplify.{cost, removals}
use Rattle.rounds.specs.Select.{register_of, selected}

-- the set of the numbers below n that pass
unfoldable pub those : (ℕ → Bool) → ℕ → ℕ
those t zero = 0
those t (suc n) = union (those t n) (when (t n) (single n))

-- how a round ends: the merged graph, the removals in order, the register of each node, and the nodes that found none
pub record Outcome : Type 0 where
  pub graph : Graph
  pub order : List Removed
  pub registers : List ℕ
  pub spilled : ℕ

-- the merged graph of a round: vars source variables, the classes of all variables, those that are nodes, the rows
unfoldable pub graph_of : Model → ℕ → List ℕ → ℕ → List Row → Graph
unfolding live_after interference copies_in coalesced
graph_of m vars classes nodes rows = coalesced m (copies_in vars rows) vars (interference classes nodes rows (live_after rows))

-- the order of removals of all nodes of a graph
unfoldable pub order_of : Model → ℕ → List Row → Graph → List Removed
unfolding cost removals range sum has
order_of m vars rows g =
    let costs = map (cost g rows) (range vars 0) in
    removals m g costs (size (length g.classes) g.nodes) g.nodes

-- a round
unfoldable pub round : Model → ℕ → List ℕ → ℕ → List Row → Outcome
unfolding graph_of order_of selected those has
round m vars classes nodes rows =
    let g = graph_of m vars classes nodes rows in
    let order = order_of m vars rows g in
    let taken = selected m g order in
    record {
      graph = g;
      order = order;
      registers = taken;
      spilled = those (λ v. has g.nodes v && not (nat_lt (register_of m taken v) m.count)) (length classes);
    }

-- whether the round coloured the program: every node has a register
abbrev pub colours : Outcome → Bool
colours o = o.spilled == 0

-- whether node v was removed in hope
unfoldable pub hoped_for : List Removed → ℕ → Bool
hoped_for [] v = false
hoped_for (r ∷ rs) v =
    let rest = hoped_for rs v in
    cond (r.node == v) r.hoped rest
