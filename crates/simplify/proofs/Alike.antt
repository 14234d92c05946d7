-- The order of removals asks a graph for its classes and its edges alone.
use Rattle.std.proofs.Common.{◌≡◌, ℕ, zero, suc, List, length, refl, ap, ◌∙◌}
use Rattle.counting.specs.Counting.{least}
use Rattle.counting.proofs.Searches.{least_ext}
use Rattle.registers.specs.Model.{Model}
use Rattle.rounds.specs.declared.Offer.{Offer}
use Rattle.rounds.specs.Interference.{Graph}
use Rattle.rounds.specs.Simplify.{remaining, removable, better, cheapest, next_removed, removals}
use Rattle.graphs.proofs.Drawing.{pressure_alike, passes_alike}

pub record Alike (g h : Graph) : Type 0 where
  pub classes : g.classes ≡ h.classes
  pub edges : g.edges ≡ h.edges

removable_alike : (m : Model) (g h : Graph) → Alike g h → (left v : ℕ) → removable m g left v ≡ removable m h left v
unfolding removable
removable_alike m g h a left v = rw (passes_alike m g h a.classes v (remaining g left v), a.edges)

better_alike : (m : Model) (g h : Graph) → Alike g h → (costs : List ℕ) (left v : ℕ) (o : Offer) → better m g costs left v o ≡ better m h costs left v o
unfolding better
better_alike m g h a costs left v o = rw (pressure_alike m g h a.classes v (remaining g left v), a.edges)

cheapest_alike : (m : Model) (g h : Graph) → Alike g h → (costs : List ℕ) (left n : ℕ) → cheapest m g costs left n ≡ cheapest m h costs left n
unfolding cheapest
cheapest_alike m g h a costs left zero = refl
cheapest_alike m g h a costs left (suc n) = rw (cheapest_alike m g h a costs left n, better_alike m g h a costs left n (cheapest m h costs left n))

next_alike : (m : Model) (g h : Graph) → Alike g h → (costs : List ℕ) (left : ℕ) → next_removed m g costs left ≡ next_removed m h costs left
unfolding next_removed
next_alike m g h a costs left =
    let lowest : least (removable m g left) (length g.classes) ≡ least (removable m h left) (length h.classes) =
    least_ext (removable m g left) (removable m h left) (length g.classes) (λ k l. removable_alike m g h a left k) ∙ ap (λ cs. least (removable m h left) (length cs)) a.classes in
    rw (lowest, cheapest_alike m g h a costs left (length costs), a.classes)

pub removals_alike : (m : Model) (g h : Graph) → Alike g h → (costs : List ℕ) (k left : ℕ) → removals m g costs k left ≡ removals m h costs k left
unfolding removals
removals_alike m g h a costs zero left = refl
removals_alike m g h a costs (suc k) left = rw (next_alike m g h a costs left, removals_alike m g h a costs k _)
