use Rattle.std.proofs.Common.{◌≡◌, ℕ, ◌/◌, ◌%◌, ◌^◌, ◌<◌, true, false, ltb, sym, ap, ◌∙◌, arith}
use lib.Bits.{or_zero_r, bit_or, or_lt}
use Rattle.std.proofs.lemmas.Nat.{one_shl, pow_below}
use Rattle.std.proofs.lemmas.Bool.{lt-ltb, le-ltb}
use Rattle.sets.proofs.Words.{joined_with, words_set}
use Rattle.sets.proofs.NodeSet.with.Goals as goal

pub invariant_of-self : goal.invariant_of-self
invariant_of-self c =
    let b : c.args.v % 64 < 64 = omega arith in
    rw (one_shl (c.args.v % 64) 64 b) (words_set _ _ _ c.self.invariant (or_lt 64 _ _ (c.self.invariant.1 (c.args.v / 64)) (pow_below (c.args.v % 64) 64 b)))

pub returns-then-v-lt-CAPACITY : goal.returns-then-v-lt-CAPACITY
returns-then-v-lt-CAPACITY c =
    let e : ltb c.args.v 448 ≡ true = lt-ltb _ _ (omega arith) in
    let b : c.args.v % 64 < 64 = omega arith in
    rw (e, one_shl (c.args.v % 64) 64 b) (joined_with c.self.inside.words c.args.v c.self.invariant.0 (omega arith) ∙ ap (λ (x : ℕ). bit_or x (2 ^ c.args.v)) c.self.view_is)

pub returns-else-v-lt-CAPACITY : goal.returns-else-v-lt-CAPACITY
returns-else-v-lt-CAPACITY c =
    let e : ltb c.args.v 448 ≡ false = le-ltb _ _ (omega arith) in rw e (sym (or_zero_r c.args.self))
