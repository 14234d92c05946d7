use Rattle.std.proofs.Common.{◌≡◌, ◌≤◌, length, take, map, reverse}
use Rattle.sets.specs.Words.{sets_of}
use Rattle.rounds.specs.Interference.{Graph}
use Rattle.rounds.specs.Select.{selected}
use Rattle.selection.specs.Occupants.{Occupied}
use Rattle.selection.proofs.select.Given as goal

abbrev pub invariant-loop-removed : goal.invariant-loop-removed
invariant-loop-removed g l =
    let m = g.F.RegisterFile.model l.file in
    let n = length l.classes in
    record {
      file : l.occupants.file.now ≡ l.file;
      sized : length l.registers ≡ 448;
      taken : n ≤ 448 → (graph : Graph) → graph.classes ≡ l.classes → graph.edges ≡ sets_of l.edges → take n l.registers ≡ selected m graph (reverse (map (λ r. r.now) l.yielded));
      held : n ≤ 448 → Occupied m (take n l.registers) l.occupants.sets;
    }
