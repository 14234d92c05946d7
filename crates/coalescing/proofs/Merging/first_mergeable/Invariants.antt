use Rattle.std.proofs.Common.{◌≡◌, ℕ, ◌<◌, false, get_or}
use Rattle.rounds.specs.Interference.{node_at}
use Rattle.rounds.specs.Coalescing.{mergeable, no_ends}
use Rattle.coalescing.specs.Merges.{graph_of}
use Rattle.coalescing.proofs.Merging.first_mergeable.Given as goal

abbrev pub invariant-loop-copy : goal.invariant-loop-copy
invariant-loop-copy g l =
    let h = graph_of l.self.weighing.variables.now l.self.merged.now l.self.weighing.edges.now l.self.hard.now in
    (j : ℕ) → j < l.copy-index → mergeable (g.F.RegisterFile.model l.self.weighing.file.now) h (node_at h (get_or l.copies j no_ends).d) (node_at h (get_or l.copies j no_ends).a) ≡ false
