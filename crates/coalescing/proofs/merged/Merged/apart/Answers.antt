use Rattle.std.proofs.Common.{◌≡◌, ℕ, List, sym, refl, ◌∙◌, subst, arith, rules, of_calls}
use Rattle.std.proofs.lemmas.List.{ext_get_or}
use Rattle.counting.specs.Counting.{range}
use Rattle.coalescing.specs.Facts.{Placed}
use Rattle.coalescing.proofs.Lists.{range_at, range_length, range_placed}
use Rattle.coalescing.proofs.merged.Merged.apart.Goals as goal

pub invariant_of-result : goal.invariant_of-result
invariant_of-result c =
    let ns : List ℕ = c.from_fn.result in
    let all : ns ≡ range 448 0 = ext_get_or 0 ns (range 448 0) (c.from_fn.ensures.items.long ∙ sym (range_length 448 0)) (λ i l. (let (p, q, called) = c.from_fn.ensures.items.at i 0 (omega (arith, c.from_fn.ensures.items.long)) in search (rules, of_calls)) ∙ sym (range_at 448 0 i (omega (arith, c.from_fn.ensures.items.long)))) in
    record { whole = c.from_fn.ensures.items.long; placed = subst Placed (sym all) (range_placed 448 0 (omega arith)) }

pub returns : goal.returns
returns c =
    let ns : List ℕ = c.from_fn.result in
    (ext_get_or 0 ns (range 448 0) (c.from_fn.ensures.items.long ∙ sym (range_length 448 0)) (λ i l. (let (p, q, called) = c.from_fn.ensures.items.at i 0 (omega (arith, c.from_fn.ensures.items.long)) in search (rules, of_calls)) ∙ sym (range_at 448 0 i (omega (arith, c.from_fn.ensures.items.long)))), refl)
