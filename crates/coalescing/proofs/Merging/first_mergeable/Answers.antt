use Rattle.std.proofs.Common.{◌<◌, length, arith}
use Rattle.rounds.specs.Interference.{Graph}
use Rattle.coalescing.specs.Merges.{graph_of}
use Rattle.coalescing.proofs.Coalescing.{first_is, first_none}
use Rattle.coalescing.proofs.Merging.first_mergeable.Goals as goal

pub returns-in-Some : goal.returns-in-Some
returns-in-Some g c =
    let s = c.args.self.now in
    let h : Graph = graph_of s.weighing.variables.now s.merged.now s.weighing.edges.now s.hard.now in
    let l : c.loop-copy.copy-index < length c.args.copies.now = omega arith in
    let e = first_is (g.F.RegisterFile.model s.weighing.file.now) h c.args.copies.now c.loop-copy.copy-index l c.loop-copy.invariant c.in-Some.ensures.0 in
    rw (← e) (l, c.in-Some.ensures.1)

pub returns : goal.returns
returns g c =
    let s = c.args.self.now in
    let h : Graph = graph_of s.weighing.variables.now s.merged.now s.weighing.edges.now s.hard.now in
    omega (arith, first_none (g.F.RegisterFile.model s.weighing.file.now) h c.args.copies.now (λ k l. c.loop-copy.invariant k (omega arith)))
