-- A list in an array of fixed length.
use Rattle.std.specs.Prelude.{◌≡◌, ℕ, ◌-◌, ◌≤◌, List, ◌++◌, length, drop, replicate}

-- the list, and behind it the blank to a length of n
abbrev pub padded : {A : Type 0} → ℕ → A → List A → List A
padded n blank xs = xs ++ replicate (n - length xs) blank

-- of n items `count` are a list, and behind them all is blank
pub record IsPadded {A : Type 0} (n : ℕ) (blank : A) (items : List A) (count : ℕ) : Type 0 where
  pub fits : count ≤ n
  pub whole : length items ≡ n
  pub rest : drop count items ≡ replicate (n - count) blank
