-- Liveness keeps the laws of its shape, so what is solved is the least solution.
use Rattle.std.proofs.Common.{ℕ, ◌^◌, ◌<◌, true, ltb, List, [], ◌∷◌, inl, inr}
use lib.Bits.{or_lt}
use Rattle.std.proofs.lemmas.Nat.{pow_pos, pow_below}
use Rattle.std.proofs.lemmas.Bool.{cases_lt, lt-ltb, le-ltb}
use Rattle.sets.specs.Sets.{single, when}
use Rattle.rows.specs.declared.Row.{Row}
use Rattle.rows.specs.Rows.{reads, writes, set_of, row_at}
use Rattle.facts.specs.Flow.{Lawful}
use Rattle.facts.proofs.Laws.{spreading_lawful, made_steady, made_inside}
use Rattle.facts.proofs.Sweeping.{solved_least}
use Rattle.admission.specs.Kinds.{nexts}
use Rattle.rounds.specs.Liveness.{liveness, live_before, LiveLeast}

one_small : (v : ℕ) → when (ltb v 448) (single v) < 2 ^ 448
one_small v = elim (cases_lt v 448) [ inl l ↦ rw (lt-ltb v 448 l) (pow_below v 448 l) | inr g ↦ rw (le-ltb v 448 g) (pow_pos 448) ]

-- a row reads and writes numbers of nodes only
pub set_small : (vs : List ℕ) → set_of vs < 2 ^ 448
unfolding set_of
set_small [] = pow_pos 448
set_small (v ∷ vs) = or_lt 448 (set_of vs) (when (ltb v 448) (single v)) (set_small vs) (one_small v)

pub liveness_lawful : (rows : List Row) → Lawful (liveness rows)
liveness_lawful rows =
    let adds : ℕ → ℕ = λ i. set_of (reads (row_at rows i)) in
    let takes : ℕ → ℕ = λ i. set_of (writes (row_at rows i)) in
    spreading_lawful 448 (nexts rows) true 0 _ (pow_pos 448) (made_steady 448 adds takes) (made_inside 448 adds takes (λ i. set_small (reads (row_at rows i))))

pub live_least : LiveLeast
unfolding live_before
live_least rows = solved_least (liveness rows) (liveness_lawful rows)
