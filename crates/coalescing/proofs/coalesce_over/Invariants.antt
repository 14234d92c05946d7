use Rattle.std.proofs.Common.{◌≡◌, ◌-◌}
use Rattle.rounds.specs.Coalescing.{coalesced}
use Rattle.coalescing.specs.Merges.{graph_of}
use Rattle.coalescing.proofs.coalesce_over.Given as goal

abbrev pub invariant-loop-k : goal.invariant-loop-k
invariant-loop-k g l =
    coalesced (g.F.RegisterFile.model l.file) l.copies (l.variables.source - l.k) (graph_of l.variables l.merged l.edges l.hard)
    ≡ coalesced (g.F.RegisterFile.model l.file) l.copies l.variables.source (graph_of l.variables l.initial.merged l.initial.edges l.initial.hard)
