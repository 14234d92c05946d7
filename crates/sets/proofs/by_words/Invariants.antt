use Rattle.std.proofs.Common.{◌≡◌, ℕ, ◌<◌, ◌≤◌, slice_index}
use Rattle.sets.proofs.by_words.Given as goal

abbrev pub invariant-loop-i : goal.invariant-loop-i
invariant-loop-i g l =
    goal.F-IsAlwaysCallable g l.f
    × ((k : ℕ) → k < l.i → goal.F-post g l.f (slice_index l.fn.a k) (slice_index l.b k) (slice_index l.w-items k))
    × ((k : ℕ) → l.i ≤ k → slice_index l.w-items k ≡ slice_index l.fn.a k)
