use Rattle.std.proofs.Common.{◌≡◌, ◌^◌, ◌<◌, drop}
use Rattle.numerals.specs.Numerals.{number_from}
use Rattle.numerals.proofs.number.Given as goal

abbrev pub invariant-loop-b : goal.invariant-loop-b
invariant-loop-b l = (number_from l.n (drop l.b-index l.word) ≡ number_from 0 l.word) × (l.n < 2 ^ 32)
