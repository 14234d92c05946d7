-- Interference: which variables must not stand in overlapping registers. A graph is a set of neighbours for each node.
use Rattle.std.specs.Prelude.{ℕ, cond, List, [], ◌∷◌, ◌++◌, map, length, ◌==◌, slice_index, slice_index_or}
use Rattle.counting.specs.Counting.{range}
use Rattle.sets.specs.Sets.{has, single, union, minus, when}
use Rattle.rows.specs.declared.Row.{Row}
use Rattle.rows.specs.Rows.{copies, reads, writes, set_of}

-- a row writes d while others are live after it; to those in hard it makes a hard edge, to the rest a soft one
pub record Reason : Type 0 where
  pub d : ℕ
  pub others : ℕ
  pub hard : ℕ

-- the reason of a row for one variable that it writes: soft only from a copy to what it reads
abbrev pub reason : Row → ℕ → ℕ → Reason
reason r live d =
    let others = minus live (single d) in
    record { d = d; others = others; hard = minus others (when (copies r.op) (set_of (reads r))) }

-- the reasons of all rows, given what is live after each
unfoldable pub reasons : List Row → List ℕ → List Reason
unfolding set_of
reasons [] lives = []
reasons (r ∷ rs) [] = []
reasons (r ∷ rs) (live ∷ lives) = map (reason r live) (writes r) ++ reasons rs lives

-- the variables that reasons join with v, over their others or over their hard ones
unfoldable pub near : (Reason → ℕ) → List Reason → ℕ → ℕ
unfolding has
near side [] v = 0
near side (r ∷ rs) v = union (cond (v == r.d) (side r) (when (has (side r) v) (single r.d))) (near side rs v)

-- the class of each variable, its node, the nodes there are, and the neighbours of each node: all, and those over hard edges
pub record Graph : Type 0 where
  pub classes : List ℕ
  pub node : List ℕ
  pub nodes : ℕ
  pub edges : List ℕ
  pub hard : List ℕ

-- the neighbours of v in a list of edges: every question about edges is asked here
abbrev pub beside : List ℕ → ℕ → ℕ
beside edges v = slice_index edges v

-- all neighbours of node v
abbrev pub neighbours : Graph → ℕ → ℕ
neighbours g v = beside g.edges v

-- the class of node v, which all its members have
abbrev pub class_at : Graph → ℕ → ℕ
class_at g v = slice_index g.classes v

-- the node of variable v
abbrev pub node_at : Graph → ℕ → ℕ
node_at g v = slice_index_or g.node v v

-- the graph before any merge: each variable is a node for itself
unfoldable pub interference : List ℕ → ℕ → List Row → List ℕ → Graph
unfolding reasons near range
interference classes nodes rows lives =
    let vs = range (length classes) 0 in
    let rs = reasons rows lives in
    record { classes = classes; node = vs; nodes = nodes; edges = map (near (λ r. r.others) rs) vs; hard = map (near (λ r. r.hard) rs) vs }
