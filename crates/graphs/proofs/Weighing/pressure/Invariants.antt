use Rattle.std.proofs.Common.{◌≡◌}
use Rattle.sets.specs.Sets.{has}
use Rattle.sets.specs.Words.{members}
use Rattle.graphs.proofs.Pressing.{pressed}
use Rattle.graphs.proofs.Weighing.pressure.Given as goal

abbrev pub invariant-loop-c : goal.invariant-loop-c
invariant-loop-c g l = l.total ≡ pressed (g.F.RegisterFile.model l.self.file.now) l.self.variables.now.classes l.self.variables.now.count l.b (has (members l.by)) l.c
