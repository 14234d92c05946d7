use Rattle.std.proofs.Common.{◌^◌, ◌<◌, ◌≤◌, sym, arith, rules}
use Rattle.players.proofs.Numbers.{whole}
use Rattle.players.proofs.playing.reduced.Goals as goal

pub returns-in_default : goal.returns-in_default
returns-in_default c =
    let two : 2 ≤ c.args.class = omega (arith, c.in_default) in
    let small : c.args.x < 2 ^ 32 = search rules in
    sym (whole c.args.x c.args.class small two)
