-- Coalescing: the two ends of a copy become one node where that costs no colour.
use Rattle.std.specs.Prelude.{ℕ, zero, suc, min, max, Bool, cond, not, ◌&&◌, ◌||◌, List, [], ◌∷◌, map, length, ◌==◌, nat_lt, slice_index_or, slice_set}
use Rattle.counting.specs.Counting.{least}
use Rattle.sets.specs.Sets.{has, single, union, minus}
use Rattle.rows.specs.declared.Row.{Row}
use Rattle.rows.specs.Rows.{copies}
use Rattle.registers.specs.Model.{Model}
use Rattle.rounds.specs.declared.Ends.{Ends}
use Rattle.rounds.specs.Interference.{Graph, beside, neighbours, node_at}
use Rattle.rounds.specs.Pressure.{passes}

-- a set in which low stands for high
abbrev pub renamed : ℕ → ℕ → ℕ → ℕ
renamed low high x = cond (has x high) (union (minus x (single high)) (single low)) x

-- edges after high went into low: low has the neighbours of both, the edge between them is gone
unfoldable pub contracted : ℕ → ℕ → List ℕ → List ℕ
unfolding has
contracted low high es =
    let both = minus (union (beside es low) (beside es high)) (union (single low) (single high)) in
    slice_set (slice_set (map (renamed low high) es) low both) high 0

-- the graph after nodes x and y were merged; the node has the lower number
unfoldable pub merged : ℕ → ℕ → Graph → Graph
unfolding contracted
merged x y g =
    let low = min x y in
    let high = max x y in
    record {
      classes = g.classes;
      node = map (λ v. cond (v == high) low v) g.node;
      nodes = minus g.nodes (single high);
      edges = contracted low high g.edges;
      hard = contracted low high g.hard;
    }

-- whether k is a neighbour of v that fails the test while all nodes are there
unfoldable pub heavy : Model → Graph → ℕ → ℕ → Bool
unfolding passes has
heavy m g v k =
    let fails = not (passes m g k (has (neighbours g k))) in
    has (neighbours g v) k && fails

-- whether nodes x and y may be merged: no hard edge joins them, and the merged node passes with only its heavy neighbours counted
unfoldable pub mergeable : Model → Graph → ℕ → ℕ → Bool
unfolding merged heavy passes has
mergeable m g x y =
    let h = merged x y g in
    let light = passes m h (min x y) (heavy m h (min x y)) in
    not (x == y || has (beside g.hard x) y) && light

-- the copies between source variables, in the order of rows
unfoldable pub copies_in : ℕ → List Row → List Ends
copies_in vars [] = []
copies_in vars (r ∷ rs) =
    let rest = copies_in vars rs in
    cond (copies r.op && (nat_lt r.d vars && nat_lt r.a vars)) (record { d = r.d; a = r.a } ∷ rest) rest

-- what a list of copies has past its end
abbrev pub no_ends : Ends
no_ends = record { d = 0; a = 0 }

-- the place of the first copy whose ends may be merged, or the length of the list
unfoldable pub first_mergeable : Model → Graph → List Ends → ℕ
unfolding least mergeable
first_mergeable m g cs = least (λ i. let c = slice_index_or cs i no_ends in mergeable m g (node_at g c.d) (node_at g c.a)) (length cs)

-- the first copy that may be merged is merged, and again from the first, at most k times
unfoldable pub coalesced : Model → List Ends → ℕ → Graph → Graph
unfolding first_mergeable merged
coalesced m cs zero g = g
coalesced m cs (suc k) g =
    let i = first_mergeable m g cs in
    let c = slice_index_or cs i no_ends in
    let more = coalesced m cs k (merged (node_at g c.d) (node_at g c.a) g) in
    cond (nat_lt i (length cs)) more g
