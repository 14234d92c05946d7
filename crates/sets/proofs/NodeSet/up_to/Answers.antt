use Rattle.std.proofs.Common.{◌≡◌, ◌-◌, ◌*◌, length, inl, inr, arith}
use Rattle.std.proofs.lemmas.Bool.{cases_lt}
use Rattle.std.proofs.lemmas.List.{get_or_past}
use Rattle.sets.proofs.Words.{joined_up_to, up_to_word}
use Rattle.sets.proofs.NodeSet.up_to.Goals as goal

pub invariant_of-result : goal.invariant_of-result
invariant_of-result c =
    let ws = c.loop-i.w-items in
    let seven : length ws ≡ 7 = omega arith in (
      seven,
      λ k. elim (cases_lt k 7) [
        | inl l ↦ let e = c.loop-i.invariant k (omega arith) in omega (arith, e, up_to_word (c.args.n - 64 * k))
        | inr l ↦ let e = get_or_past ws k 0 (omega arith) in omega (arith, e)
      ],
    )

pub returns : goal.returns
returns c = joined_up_to c.loop-i.w-items c.args.n (omega arith) (λ k h. c.loop-i.invariant k (omega arith))
