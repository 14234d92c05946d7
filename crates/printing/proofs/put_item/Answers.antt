use Rattle.std.proofs.Common.{◌^◌, ◌<◌, ◌≤◌, length, decimal, arith, rules}
use Rattle.std.proofs.lemmas.Fmt.{length-decimal-le, decimal_nonempty}
use Rattle.printing.proofs.put_item.Goals as goal

pub write_digits-requires : goal.write_digits-requires
write_digits-requires c =
    let half : c.in-Some.n < 2 ^ 16 = search rules in
    let short : length (decimal c.in-Some.n) ≤ 5 = length-decimal-le 5 c.in-Some.n (omega arith) (omega arith) (omega arith) in
    (omega arith, omega arith)

pub returns-in-Some-clause-within : goal.returns-in-Some-clause-within
returns-in-Some-clause-within c =
    let half : c.in-Some.n < 2 ^ 16 = search rules in
    let short : length (decimal c.in-Some.n) ≤ 5 = length-decimal-le 5 c.in-Some.n (omega arith) (omega arith) (omega arith) in
    let some : 0 < length (decimal c.in-Some.n) = decimal_nonempty c.in-Some.n (omega arith) in
    (omega arith, omega arith)
