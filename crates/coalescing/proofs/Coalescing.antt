-- One turn of coalescing, and what may be merged.
use Rattle.std.proofs.Common.{◌≡◌, ℕ, suc, ◌<◌, ◌≤◌, min, max, true, false, ltb, List, map, length, get_or, refl, arith}
use Rattle.std.proofs.lemmas.Bool.{lt-ltb, le-ltb, eq-eqb, ne_eqb}
use Rattle.counting.proofs.Searches.{least_is, least_none}
use Rattle.sets.specs.Sets.{has, single, minus}
use Rattle.registers.specs.Model.{Model}
use Rattle.rounds.specs.declared.Ends.{Ends}
use Rattle.rounds.specs.Interference.{Graph, beside, node_at}
use Rattle.rounds.specs.Pressure.{passes}
use Rattle.rounds.specs.Coalescing.{contracted, merged, heavy, mergeable, no_ends, first_mergeable, coalesced}
use Rattle.graphs.specs.Graphs.{graph}
use Rattle.coalescing.specs.Pairs.{moved}

pub merged_from : (g : Graph) (x y low high : ℕ) (node : List ℕ) (nodes : ℕ) (edges hard : List ℕ) → low ≡ min x y → high ≡ max x y →
    node ≡ map (moved low high) g.node → nodes ≡ minus g.nodes (single high) → edges ≡ contracted low high g.edges → hard ≡ contracted low high g.hard →
    graph g.classes node nodes edges hard ≡ merged x y g
unfolding merged
merged_from g x y low high node nodes edges hard l h a b c d = rw (a, b, c, d, l, h)

pub merged_classes : (x y : ℕ) (g : Graph) → (merged x y g).classes ≡ g.classes
unfolding merged
merged_classes x y g = refl

pub merged_edges : (x y : ℕ) (g : Graph) → (merged x y g).edges ≡ contracted (min x y) (max x y) g.edges
unfolding merged
merged_edges x y g = refl

pub not_itself : (m : Model) (g : Graph) (x y : ℕ) → x ≡ y → mergeable m g x y ≡ false
unfolding mergeable
not_itself m g x y e = rw (eq-eqb x y e)

pub not_hard : (m : Model) (g : Graph) (x y : ℕ) → (x ≡ y → ⊥) → has (beside g.hard x) y ≡ true → mergeable m g x y ≡ false
unfolding mergeable
not_hard m g x y n h = rw (ne_eqb x y n, h)

pub if_light : (m : Model) (g : Graph) (x y : ℕ) → (x ≡ y → ⊥) → has (beside g.hard x) y ≡ false → mergeable m g x y ≡ passes m (merged x y g) (min x y) (heavy m (merged x y g) (min x y))
unfolding mergeable
if_light m g x y n h = rw (ne_eqb x y n, h)

pub coalesced_none : (m : Model) (cs : List Ends) (k : ℕ) (g : Graph) → k ≡ 0 → coalesced m cs k g ≡ g
unfolding coalesced
coalesced_none m cs k g e = rw e

pub coalesced_stop : (m : Model) (cs : List Ends) (j i : ℕ) (g : Graph) → i ≡ first_mergeable m g cs → length cs ≤ i → coalesced m cs (suc j) g ≡ g
unfolding coalesced
coalesced_stop m cs j i g e l = let f : ltb (first_mergeable m g cs) (length cs) ≡ false = le-ltb _ _ (omega arith) in rw f

pub coalesced_step : (m : Model) (cs : List Ends) (j i : ℕ) (g : Graph) → i ≡ first_mergeable m g cs → i < length cs →
    coalesced m cs (suc j) g ≡ coalesced m cs j (merged (node_at g (get_or cs i no_ends).d) (node_at g (get_or cs i no_ends).a) g)
unfolding coalesced
coalesced_step m cs j i g e l = let f : ltb (first_mergeable m g cs) (length cs) ≡ true = lt-ltb _ _ (omega arith) in rw (f, ← e)

-- the first copy that allows a merge, or none
pub first_is : (m : Model) (g : Graph) (cs : List Ends) (i : ℕ) → i < length cs →
    ((j : ℕ) → j < i → mergeable m g (node_at g (get_or cs j no_ends).d) (node_at g (get_or cs j no_ends).a) ≡ false) → mergeable m g (node_at g (get_or cs i no_ends).d) (node_at g (get_or cs i no_ends).a) ≡ true →
    i ≡ first_mergeable m g cs
unfolding first_mergeable
first_is m g cs i l below here = least_is _ _ i l below here

pub first_none : (m : Model) (g : Graph) (cs : List Ends) → ((j : ℕ) → j < length cs → mergeable m g (node_at g (get_or cs j no_ends).d) (node_at g (get_or cs j no_ends).a) ≡ false) → length cs ≡ first_mergeable m g cs
unfolding first_mergeable
first_none m g cs none = least_none _ (length cs) none
