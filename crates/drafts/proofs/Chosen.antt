-- The set of the numbers that pass a test, one number more.
use Rattle.std.proofs.Common.{◌≡◌, ℕ, ◌+◌, ◌<◌, Bool, true, false, ltb, ◌∙◌, add-one}
use lib.Bits.{or_zero_r}
use Rattle.std.proofs.lemmas.Bool.{lt-ltb}
use Rattle.sets.specs.Sets.{union, single, when}
use Rattle.rounds.specs.Round.{those}

pub those_with : (t : ℕ → Bool) (n x y : ℕ) → x ≡ those t n → t n ≡ true → n < 448 → y ≡ union x (when (ltb n 448) (single n)) → y ≡ those t (n + 1)
unfolding those
those_with t n x y e p l s = rw (add-one, p, s, lt-ltb n 448 l, e)

pub those_same : (t : ℕ → Bool) (n x y : ℕ) → x ≡ those t n → t n ≡ false → y ≡ x → y ≡ those t (n + 1)
unfolding those
those_same t n x y e p s = rw (add-one, p, or_zero_r) (s ∙ e)
