use Rattle.std.proofs.Common.{◌≡◌, ◌+◌, ◌*◌, ◌≤◌, length, drop}
use Rattle.printing.specs.Texts.{behind, item}
use Rattle.printing.proofs.RowTold.tell.Given as goal

abbrev pub invariant-loop-i : goal.invariant-loop-i
invariant-loop-i l = record {
  sized : length l.text ≡ length l.initial.text;
  room : l.i * 6 ≤ l.start;
  within : l.start + length l.items ≤ length l.text + l.i;
  written : drop l.start l.text ≡ behind 44 item (drop l.i l.items);
}
