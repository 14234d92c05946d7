-- Files made by the generator of reference/, each with the answer that the reference gives. Made by scripts/make-agreement.
use Rattle.std.specs.Prelude.{◌≡◌, true, false, [], ◌∷◌}
use Rattle.faults.specs.Refusals.{told}
use Rattle.faults.specs.declared.Layer.TheVariants.{Bits as BitLayer, Rows as RowLayer, Program as ProgramLayer}
use Rattle.rows.specs.declared.Op.TheVariants.{End, Const, Copy, Add, Sub, And, Xor, Widen, Narrow, Input, Output, Jump, Less, Load, Store}
use Rattle.counting.specs.Counting.{range}
use Rattle.chips.specs.NestedChip.{nested, nested_file}
use Rattle.chips.specs.PairedChip.{paired, paired_file}
use Rattle.compiling.specs.Compile.{compile}
use Rattle.worked.specs.Telling.{Coded, Refused, tells, code, in_register, in_slot}
use Rattle.machine.specs.Rehearsal.{Restart, PlaySource, PlayCode}
use Rattle.worked.specs.Showing.{Shows, rehearse, served, long_input, many_rows}

-- compile tells what the reference tells
pub record Generated : Type 0 where
  pub file_0 : tells (compile paired_file (10 ∷ 21 ∷ 168 ∷ 153 ∷ 32 ∷ 144 ∷ 64 ∷ 0 ∷ 0 ∷ 144 ∷ 16 ∷ 0 ∷ 0 ∷ 16 ∷ 96 ∷ 0 ∷ 48 ∷ 16 ∷ 0 ∷ 0 ∷ 64 ∷ 16 ∷ 32 ∷ 16 ∷ 0 ∷ 144 ∷ 128 ∷ 0 ∷ 0 ∷ 144 ∷ 112 ∷ 0 ∷ 0 ∷ 144 ∷ 48 ∷ 0 ∷ 0 ∷ 144 ∷ 80 ∷ 0 ∷ 0 ∷ 16 ∷ 144 ∷ 16 ∷ 0 ∷ 32 ∷ 128 ∷ 192 ∷ 0 ∷ 80 ∷ 16 ∷ 73 ∷ 0 ∷ 64 ∷ 64 ∷ 4 ∷ 0 ∷ 80 ∷ 64 ∷ 134 ∷ 0 ∷ 48 ∷ 48 ∷ 195 ∷ 0 ∷ 64 ∷ 64 ∷ 9 ∷ 0 ∷ 112 ∷ 17 ∷ 192 ∷ 0 ∷ 80 ∷ 81 ∷ 71 ∷ 0 ∷ 96 ∷ 48 ∷ 200 ∷ 0 ∷ 160 ∷ 0 ∷ 192 ∷ 0 ∷ 0 ∷ 0 ∷ 0 ∷ 0 ∷ [])) ≡ Coded 4 9 ((in_slot 0 1 true) ∷ (in_slot 6 2 true) ∷ (in_slot 1 1 true) ∷ (in_slot 7 3 true) ∷ (in_register 7 4 false) ∷ (in_slot 2 1 true) ∷ (in_slot 3 1 true) ∷ (in_slot 4 1 true) ∷ (in_slot 8 3 true) ∷ (in_slot 5 1 true) ∷ []) ((code Input 0 2 0 7 0 0 0) ∷ (code Input 0 2 0 6 0 0 0) ∷ (code Store 0 0 2 0 6 0 6) ∷ (code Const 0 2 0 6 0 0 3) ∷ (code Store 0 0 2 0 6 0 3) ∷ (code Const 0 2 0 6 0 0 4) ∷ (code Store 0 0 2 0 6 0 0) ∷ (code Const 0 2 0 6 0 0 256) ∷ (code Store 0 0 2 0 6 0 1) ∷ (code Input 0 0 0 0 0 0 0) ∷ (code Store 0 0 0 0 0 0 8) ∷ (code Input 0 1 0 0 0 0 0) ∷ (code Store 0 0 1 0 0 0 4) ∷ (code Input 0 0 0 0 0 0 0) ∷ (code Store 0 0 0 0 0 0 7) ∷ (code Input 0 1 0 0 0 0 0) ∷ (code Store 0 0 1 0 0 0 2) ∷ (code Const 0 2 0 6 0 0 256) ∷ (code Store 0 0 2 0 6 0 5) ∷ (code Load 0 0 0 0 0 0 7) ∷ (code Store 0 0 0 0 0 0 8) ∷ (code Load 0 2 0 8 0 0 5) ∷ (code Load 0 2 0 6 0 0 6) ∷ (code And 0 2 2 6 6 8 0) ∷ (code Store 0 0 2 0 6 0 6) ∷ (code Load 0 2 0 6 0 0 0) ∷ (code Sub 0 2 2 7 6 7 0) ∷ (code Load 0 2 0 7 0 0 1) ∷ (code Load 0 2 0 6 0 0 3) ∷ (code And 0 2 2 7 7 6 0) ∷ (code Load 0 0 0 1 0 0 7) ∷ (code Load 0 0 0 0 0 0 7) ∷ (code Add 0 0 0 0 1 0 0) ∷ (code Store 0 0 0 0 0 0 7) ∷ (code Load 0 2 0 7 0 0 0) ∷ (code Load 0 2 0 6 0 0 5) ∷ (code Sub 0 2 2 7 7 6 0) ∷ (code Load 0 1 0 0 0 0 4) ∷ (code Widen 0 2 1 6 0 0 0) ∷ (code Store 0 0 2 0 6 0 6) ∷ (code Load 0 1 0 1 0 0 2) ∷ (code Load 0 1 0 0 0 0 4) ∷ (code And 0 1 1 0 1 0 0) ∷ (code Store 0 0 1 0 0 0 2) ∷ (code Load 0 0 0 1 0 0 7) ∷ (code Load 0 0 0 0 0 0 8) ∷ (code Xor 0 0 0 0 1 0 0) ∷ (code Store 0 0 0 0 0 0 7) ∷ (code Load 0 0 0 0 0 0 7) ∷ (code Output 0 0 0 0 0 0 0) ∷ (code End 0 0 0 0 0 0 0) ∷ [])
  pub file_1 : tells (compile nested_file (7 ∷ 21 ∷ 17 ∷ 136 ∷ 16 ∷ 0 ∷ 0 ∷ 80 ∷ 16 ∷ 96 ∷ 0 ∷ 96 ∷ 144 ∷ 32 ∷ 0 ∷ 0 ∷ 16 ∷ 48 ∷ 7 ∷ 240 ∷ 16 ∷ 24 ∷ 0 ∷ 0 ∷ 16 ∷ 72 ∷ 0 ∷ 0 ∷ 16 ∷ 95 ∷ 255 ∷ 240 ∷ 48 ∷ 0 ∷ 133 ∷ 0 ∷ 96 ∷ 32 ∷ 5 ∷ 0 ∷ 96 ∷ 80 ∷ 5 ∷ 0 ∷ 96 ∷ 48 ∷ 65 ∷ 0 ∷ 48 ∷ 48 ∷ 65 ∷ 0 ∷ 64 ∷ 33 ∷ 66 ∷ 0 ∷ 160 ∷ 0 ∷ 0 ∷ 0 ∷ 160 ∷ 0 ∷ 128 ∷ 0 ∷ 160 ∷ 1 ∷ 64 ∷ 0 ∷ 160 ∷ 1 ∷ 64 ∷ 0 ∷ 160 ∷ 1 ∷ 0 ∷ 0 ∷ 160 ∷ 0 ∷ 64 ∷ 0 ∷ 160 ∷ 1 ∷ 0 ∷ 0 ∷ 176 ∷ 0 ∷ 0 ∷ 8 ∷ [])) ≡ Coded 3 2 ((in_register 13 3 true) ∷ (in_register 6 3 false) ∷ (in_register 11 3 false) ∷ (in_slot 0 1 true) ∷ (in_slot 1 2 true) ∷ (in_register 9 3 false) ∷ (in_register 0 3 false) ∷ []) ((code Const 0 0 0 13 0 0 5) ∷ (code Const 0 2 0 0 0 0 6) ∷ (code Input 0 0 0 11 0 0 0) ∷ (code Const 0 1 0 4 0 0 127) ∷ (code Store 0 0 1 0 4 0 0) ∷ (code Const 0 1 0 6 0 0 32768) ∷ (code Const 0 2 0 0 0 0 32768) ∷ (code Store 0 0 2 0 0 0 1) ∷ (code Const 0 0 0 9 0 0 65535) ∷ (code Add 0 0 0 13 11 9 0) ∷ (code Xor 0 0 0 11 13 9 0) ∷ (code Xor 0 0 0 9 13 9 0) ∷ (code Xor 0 1 1 4 6 6 0) ∷ (code Store 0 0 1 0 4 0 0) ∷ (code Add 0 1 1 4 6 6 0) ∷ (code Store 0 0 1 0 4 0 0) ∷ (code Sub 0 0 0 11 9 11 0) ∷ (code Output 0 0 0 0 13 0 0) ∷ (code Output 0 0 0 0 11 0 0) ∷ (code Output 0 0 0 0 9 0 0) ∷ (code Output 0 0 0 0 9 0 0) ∷ (code Load 0 2 0 0 0 0 1) ∷ (code Output 0 0 2 0 0 0 0) ∷ (code Output 0 0 1 0 6 0 0) ∷ (code Load 0 2 0 0 0 0 1) ∷ (code Output 0 0 2 0 0 0 0) ∷ (code Jump 0 0 0 0 0 0 10) ∷ [])
  pub file_2 : tells (compile paired_file (6 ∷ 9 ∷ 170 ∷ 160 ∷ 16 ∷ 0 ∷ 7 ∷ 240 ∷ 144 ∷ 16 ∷ 0 ∷ 0 ∷ 80 ∷ 80 ∷ 64 ∷ 0 ∷ 160 ∷ 0 ∷ 64 ∷ 0 ∷ 80 ∷ 33 ∷ 69 ∷ 0 ∷ 64 ∷ 64 ∷ 133 ∷ 0 ∷ 160 ∷ 0 ∷ 64 ∷ 0 ∷ 160 ∷ 0 ∷ 0 ∷ 0 ∷ 0 ∷ 0 ∷ 0 ∷ 0 ∷ [])) ≡ Coded 3 2 ((in_slot 1 2 true) ∷ (in_register 7 3 false) ∷ (in_slot 0 1 true) ∷ (in_register 6 3 false) ∷ (in_register 6 3 false) ∷ (in_register 8 3 false) ∷ []) ((code Const 0 2 0 6 0 0 127) ∷ (code Store 0 0 2 0 6 0 1) ∷ (code Input 0 2 0 7 0 0 0) ∷ (code Load 0 2 0 6 0 0 1) ∷ (code And 0 2 2 8 7 6 0) ∷ (code Output 0 0 2 0 7 0 0) ∷ (code And 0 2 2 6 8 8 0) ∷ (code Store 0 0 2 0 6 0 0) ∷ (code Load 0 2 0 6 0 0 0) ∷ (code Sub 0 2 2 6 6 8 0) ∷ (code Output 0 0 2 0 7 0 0) ∷ (code Load 0 2 0 6 0 0 1) ∷ (code Output 0 0 2 0 6 0 0) ∷ (code End 0 0 0 0 0 0 0) ∷ [])
  pub file_3 : tells (compile nested_file (8 ∷ 14 ∷ 73 ∷ 132 ∷ 148 ∷ 80 ∷ 0 ∷ 0 ∷ 144 ∷ 32 ∷ 0 ∷ 0 ∷ 28 ∷ 48 ∷ 16 ∷ 0 ∷ 28 ∷ 96 ∷ 0 ∷ 16 ∷ 148 ∷ 64 ∷ 0 ∷ 0 ∷ 152 ∷ 0 ∷ 0 ∷ 0 ∷ 16 ∷ 16 ∷ 15 ∷ 240 ∷ 92 ∷ 49 ∷ 131 ∷ 0 ∷ 196 ∷ 1 ∷ 2 ∷ 7 ∷ 32 ∷ 65 ∷ 0 ∷ 0 ∷ 32 ∷ 48 ∷ 0 ∷ 0 ∷ 172 ∷ 1 ∷ 128 ∷ 0 ∷ 164 ∷ 0 ∷ 192 ∷ 0 ∷ 0 ∷ 0 ∷ 0 ∷ 0 ∷ [])) ≡ Coded 4 4 ((in_slot 3 3 true) ∷ (in_slot 0 1 true) ∷ (in_slot 1 1 true) ∷ (in_register 6 4 false) ∷ (in_slot 2 2 true) ∷ (in_register 8 4 false) ∷ (in_register 5 4 false) ∷ (in_register 8 4 false) ∷ []) ((code Input 1 0 0 8 0 0 0) ∷ (code Input 0 2 0 0 0 0 0) ∷ (code Store 0 0 2 0 0 0 1) ∷ (code Const 3 1 0 6 0 0 256) ∷ (code Const 3 1 0 5 0 0 1) ∷ (code Input 1 2 0 0 0 0 0) ∷ (code Store 1 0 2 0 0 0 2) ∷ (code Input 2 1 0 4 0 0 0) ∷ (code Store 2 0 1 0 4 0 3) ∷ (code Const 0 0 0 8 0 0 255) ∷ (code Store 0 0 0 0 8 0 0) ∷ (code And 3 1 1 6 5 6 0) ∷ (code Load 1 2 0 3 0 0 1) ∷ (code Load 1 2 0 0 0 0 2) ∷ (code Less 1 0 2 0 0 3 11) ∷ (code Load 0 1 0 4 0 0 3) ∷ (code Copy 0 1 1 6 4 0 0) ∷ (code Output 3 0 1 0 5 0 0) ∷ (code Output 1 0 1 0 6 0 0) ∷ (code End 0 0 0 0 0 0 0) ∷ [])
  pub file_4 : tells (compile paired_file (10 ∷ 22 ∷ 32 ∷ 8 ∷ 64 ∷ 16 ∷ 96 ∷ 15 ∷ 240 ∷ 16 ∷ 72 ∷ 0 ∷ 0 ∷ 160 ∷ 1 ∷ 0 ∷ 0 ∷ 128 ∷ 129 ∷ 128 ∷ 0 ∷ 32 ∷ 1 ∷ 0 ∷ 0 ∷ 160 ∷ 1 ∷ 128 ∷ 0 ∷ 96 ∷ 97 ∷ 134 ∷ 0 ∷ 32 ∷ 97 ∷ 128 ∷ 0 ∷ 32 ∷ 17 ∷ 128 ∷ 0 ∷ 96 ∷ 130 ∷ 8 ∷ 0 ∷ 64 ∷ 49 ∷ 4 ∷ 0 ∷ 32 ∷ 17 ∷ 128 ∷ 0 ∷ 32 ∷ 97 ∷ 128 ∷ 0 ∷ 32 ∷ 80 ∷ 192 ∷ 0 ∷ 64 ∷ 0 ∷ 3 ∷ 0 ∷ 64 ∷ 17 ∷ 134 ∷ 0 ∷ 64 ∷ 80 ∷ 5 ∷ 0 ∷ 96 ∷ 33 ∷ 68 ∷ 0 ∷ 160 ∷ 1 ∷ 128 ∷ 0 ∷ 160 ∷ 2 ∷ 0 ∷ 0 ∷ 160 ∷ 0 ∷ 192 ∷ 0 ∷ 0 ∷ 0 ∷ 0 ∷ 0 ∷ [])) ≡ Coded 2 3 ((in_slot 0 1 true) ∷ (in_register 8 2 false) ∷ (in_register 1 2 false) ∷ (in_slot 1 1 true) ∷ (in_register 1 2 false) ∷ (in_slot 2 1 true) ∷ (in_register 7 2 false) ∷ (in_register 0 2 false) ∷ (in_register 0 2 false) ∷ (in_register 0 2 false) ∷ []) ((code Const 0 2 0 7 0 0 255) ∷ (code Const 0 0 0 1 0 0 32768) ∷ (code Output 0 0 0 0 1 0 0) ∷ (code Narrow 0 1 2 0 7 0 0) ∷ (code Copy 0 0 0 4 1 0 0) ∷ (code Store 0 0 0 0 4 0 0) ∷ (code Output 0 0 2 0 7 0 0) ∷ (code Xor 0 2 2 7 7 7 0) ∷ (code Copy 0 2 2 8 7 0 0) ∷ (code Xor 0 1 1 0 0 0 0) ∷ (code Sub 0 0 0 4 1 1 0) ∷ (code Store 0 0 0 0 4 0 1) ∷ (code Copy 0 2 2 8 7 0 0) ∷ (code Load 0 0 0 4 0 0 1) ∷ (code Store 0 0 0 0 4 0 2) ∷ (code Load 0 0 0 5 0 0 0) ∷ (code Load 0 0 0 4 0 0 1) ∷ (code Sub 0 0 0 4 5 4 0) ∷ (code Store 0 0 0 0 4 0 0) ∷ (code Sub 0 2 2 8 7 7 0) ∷ (code Load 0 0 0 5 0 0 0) ∷ (code Load 0 0 0 4 0 0 2) ∷ (code Sub 0 0 0 4 5 4 0) ∷ (code Store 0 0 0 0 4 0 2) ∷ (code Load 0 0 0 4 0 0 2) ∷ (code Xor 0 0 0 1 4 1 0) ∷ (code Output 0 0 2 0 7 0 0) ∷ (code Output 0 0 1 0 0 0 0) ∷ (code Load 0 0 0 0 0 0 1) ∷ (code Output 0 0 0 0 0 0 0) ∷ (code End 0 0 0 0 0 0 0) ∷ [])
  pub file_5 : tells (compile paired_file (5 ∷ 18 ∷ 130 ∷ 0 ∷ 16 ∷ 0 ∷ 0 ∷ 0 ∷ 16 ∷ 64 ∷ 0 ∷ 32 ∷ 144 ∷ 16 ∷ 0 ∷ 0 ∷ 16 ∷ 48 ∷ 0 ∷ 0 ∷ 16 ∷ 40 ∷ 0 ∷ 0 ∷ 36 ∷ 0 ∷ 192 ∷ 0 ∷ 52 ∷ 48 ∷ 195 ∷ 0 ∷ 64 ∷ 33 ∷ 1 ∷ 0 ∷ 44 ∷ 32 ∷ 64 ∷ 0 ∷ 172 ∷ 0 ∷ 128 ∷ 0 ∷ 88 ∷ 0 ∷ 195 ∷ 0 ∷ 168 ∷ 0 ∷ 64 ∷ 0 ∷ 172 ∷ 0 ∷ 0 ∷ 0 ∷ 160 ∷ 0 ∷ 64 ∷ 0 ∷ 172 ∷ 0 ∷ 64 ∷ 0 ∷ 168 ∷ 0 ∷ 192 ∷ 0 ∷ 172 ∷ 0 ∷ 128 ∷ 0 ∷ 12 ∷ 0 ∷ 0 ∷ 0 ∷ [])) ≡ Coded 2 1 ((in_register 8 2 false) ∷ (in_register 1 2 false) ∷ (in_register 0 2 false) ∷ (in_register 7 2 false) ∷ (in_slot 0 1 true) ∷ []) ((code Const 0 2 0 8 0 0 0) ∷ (code Const 0 0 0 0 0 0 2) ∷ (code Store 0 0 0 0 0 0 0) ∷ (code Input 0 0 0 1 0 0 0) ∷ (code Const 0 2 0 7 0 0 0) ∷ (code Const 0 0 0 0 0 0 32768) ∷ (code Copy 1 2 2 8 7 0 0) ∷ (code Add 1 2 2 7 7 7 0) ∷ (code Load 0 0 0 0 0 0 0) ∷ (code Sub 0 0 0 0 0 1 0) ∷ (code Copy 3 0 0 0 1 0 0) ∷ (code Output 3 0 0 0 0 0 0) ∷ (code And 2 2 2 8 7 7 0) ∷ (code Output 2 0 0 0 1 0 0) ∷ (code Output 3 0 2 0 8 0 0) ∷ (code Output 0 0 0 0 1 0 0) ∷ (code Output 3 0 0 0 1 0 0) ∷ (code Output 2 0 2 0 7 0 0) ∷ (code Output 3 0 0 0 0 0 0) ∷ (code End 3 0 0 0 0 0 0) ∷ [])
  pub file_6 : tells (compile paired_file (9 ∷ 18 ∷ 21 ∷ 72 ∷ 0 ∷ 24 ∷ 104 ∷ 0 ∷ 0 ∷ 152 ∷ 112 ∷ 0 ∷ 0 ∷ 28 ∷ 32 ∷ 16 ∷ 0 ∷ 28 ∷ 48 ∷ 7 ∷ 240 ∷ 152 ∷ 80 ∷ 0 ∷ 0 ∷ 28 ∷ 16 ∷ 0 ∷ 96 ∷ 156 ∷ 0 ∷ 0 ∷ 0 ∷ 28 ∷ 64 ∷ 0 ∷ 144 ∷ 144 ∷ 128 ∷ 0 ∷ 0 ∷ 40 ∷ 130 ∷ 0 ∷ 0 ∷ 100 ∷ 32 ∷ 68 ∷ 0 ∷ 32 ∷ 97 ∷ 128 ∷ 0 ∷ 44 ∷ 128 ∷ 0 ∷ 0 ∷ 48 ∷ 17 ∷ 4 ∷ 0 ∷ 56 ∷ 81 ∷ 69 ∷ 0 ∷ 44 ∷ 17 ∷ 0 ∷ 0 ∷ 32 ∷ 80 ∷ 0 ∷ 0 ∷ 12 ∷ 0 ∷ 0 ∷ 0 ∷ [])) ≡ Coded 2 1 ((in_register 4 2 false) ∷ (in_register 3 2 false) ∷ (in_register 0 2 false) ∷ (in_register 0 2 false) ∷ (in_register 2 2 false) ∷ (in_register 1 2 false) ∷ (in_slot 0 1 true) ∷ (in_register 0 2 false) ∷ (in_register 0 2 false) ∷ []) ((code Const 2 2 0 6 0 0 32768) ∷ (code Store 2 0 2 0 6 0 0) ∷ (code Input 2 0 0 0 0 0 0) ∷ (code Const 3 1 0 0 0 0 256) ∷ (code Const 3 1 0 0 0 0 127) ∷ (code Input 2 0 0 1 0 0 0) ∷ (code Const 3 1 0 3 0 0 6) ∷ (code Input 3 0 0 4 0 0 0) ∷ (code Const 3 1 0 2 0 0 9) ∷ (code Input 0 0 0 0 0 0 0) ∷ (code Xor 1 1 1 0 3 2 0) ∷ (code Copy 3 0 0 0 4 0 0) ∷ (code Add 0 1 1 3 2 2 0) ∷ (code Add 2 0 0 1 1 1 0) ∷ (code Copy 3 1 1 3 2 0 0) ∷ (code Copy 0 0 0 1 4 0 0) ∷ (code End 3 0 0 0 0 0 0) ∷ [])
  pub file_7 : tells (compile nested_file (5 ∷ 19 ∷ 85 ∷ 64 ∷ 144 ∷ 0 ∷ 0 ∷ 0 ∷ 16 ∷ 32 ∷ 7 ∷ 240 ∷ 144 ∷ 48 ∷ 0 ∷ 0 ∷ 144 ∷ 16 ∷ 0 ∷ 0 ∷ 144 ∷ 64 ∷ 0 ∷ 0 ∷ 160 ∷ 1 ∷ 0 ∷ 0 ∷ 96 ∷ 0 ∷ 66 ∷ 0 ∷ 48 ∷ 16 ∷ 192 ∷ 0 ∷ 80 ∷ 64 ∷ 66 ∷ 0 ∷ 96 ∷ 33 ∷ 1 ∷ 0 ∷ 160 ∷ 1 ∷ 0 ∷ 0 ∷ 80 ∷ 17 ∷ 0 ∷ 0 ∷ 160 ∷ 0 ∷ 64 ∷ 0 ∷ 64 ∷ 64 ∷ 192 ∷ 0 ∷ 160 ∷ 1 ∷ 0 ∷ 0 ∷ 144 ∷ 32 ∷ 0 ∷ 0 ∷ 80 ∷ 1 ∷ 4 ∷ 0 ∷ 160 ∷ 0 ∷ 192 ∷ 0 ∷ 0 ∷ 0 ∷ 0 ∷ 0 ∷ [])) ≡ Coded 2 1 ((in_register 6 2 false) ∷ (in_register 7 2 false) ∷ (in_register 5 2 false) ∷ (in_slot 0 1 true) ∷ (in_register 4 2 false) ∷ []) ((code Input 0 1 0 6 0 0 0) ∷ (code Const 0 1 0 5 0 0 127) ∷ (code Input 0 1 0 4 0 0 0) ∷ (code Store 0 0 1 0 4 0 0) ∷ (code Input 0 1 0 7 0 0 0) ∷ (code Input 0 1 0 4 0 0 0) ∷ (code Output 0 0 1 0 4 0 0) ∷ (code Xor 0 1 1 6 7 5 0) ∷ (code Load 0 1 0 4 0 0 0) ∷ (code Add 0 1 1 7 4 6 0) ∷ (code And 0 1 1 4 7 5 0) ∷ (code Xor 0 1 1 5 4 7 0) ∷ (code Output 0 0 1 0 4 0 0) ∷ (code And 0 1 1 7 4 6 0) ∷ (code Output 0 0 1 0 7 0 0) ∷ (code Load 0 1 0 4 0 0 0) ∷ (code Sub 0 1 1 4 4 6 0) ∷ (code Output 0 0 1 0 4 0 0) ∷ (code Input 0 1 0 5 0 0 0) ∷ (code And 0 1 1 6 4 4 0) ∷ (code Load 0 1 0 4 0 0 0) ∷ (code Output 0 0 1 0 4 0 0) ∷ (code End 0 0 0 0 0 0 0) ∷ [])
  pub file_8 : tells (compile paired_file (5 ∷ 17 ∷ 170 ∷ 64 ∷ 16 ∷ 0 ∷ 0 ∷ 144 ∷ 16 ∷ 16 ∷ 15 ∷ 240 ∷ 144 ∷ 64 ∷ 0 ∷ 0 ∷ 16 ∷ 48 ∷ 0 ∷ 128 ∷ 16 ∷ 47 ∷ 255 ∷ 240 ∷ 96 ∷ 65 ∷ 4 ∷ 0 ∷ 64 ∷ 65 ∷ 4 ∷ 0 ∷ 128 ∷ 64 ∷ 64 ∷ 0 ∷ 64 ∷ 48 ∷ 192 ∷ 0 ∷ 128 ∷ 64 ∷ 128 ∷ 0 ∷ 64 ∷ 65 ∷ 4 ∷ 0 ∷ 80 ∷ 32 ∷ 130 ∷ 0 ∷ 160 ∷ 0 ∷ 0 ∷ 0 ∷ 160 ∷ 0 ∷ 128 ∷ 0 ∷ 160 ∷ 1 ∷ 0 ∷ 0 ∷ 160 ∷ 0 ∷ 128 ∷ 0 ∷ 0 ∷ 0 ∷ 0 ∷ 0 ∷ [])) ≡ Coded 2 2 ((in_slot 0 1 true) ∷ (in_slot 1 1 true) ∷ (in_register 8 2 false) ∷ (in_register 6 2 false) ∷ (in_register 2 2 false) ∷ []) ((code Const 0 2 0 6 0 0 9) ∷ (code Store 0 0 2 0 6 0 0) ∷ (code Const 0 2 0 6 0 0 255) ∷ (code Store 0 0 2 0 6 0 1) ∷ (code Input 0 1 0 2 0 0 0) ∷ (code Const 0 2 0 6 0 0 8) ∷ (code Const 0 2 0 8 0 0 65535) ∷ (code Xor 0 1 1 2 2 2 0) ∷ (code Sub 0 1 1 2 2 2 0) ∷ (code Load 0 2 0 7 0 0 1) ∷ (code Narrow 0 1 2 2 7 0 0) ∷ (code Load 0 2 0 7 0 0 0) ∷ (code Sub 0 2 2 6 6 7 0) ∷ (code Narrow 0 1 2 2 8 0 0) ∷ (code Sub 0 1 1 2 2 2 0) ∷ (code And 0 2 2 8 8 8 0) ∷ (code Load 0 2 0 6 0 0 0) ∷ (code Output 0 0 2 0 6 0 0) ∷ (code Output 0 0 2 0 8 0 0) ∷ (code Output 0 0 1 0 2 0 0) ∷ (code Output 0 0 2 0 8 0 0) ∷ (code End 0 0 0 0 0 0 0) ∷ [])
  pub file_9 : tells (compile paired_file (5 ∷ 19 ∷ 168 ∷ 0 ∷ 16 ∷ 32 ∷ 7 ∷ 240 ∷ 144 ∷ 48 ∷ 0 ∷ 0 ∷ 16 ∷ 15 ∷ 255 ∷ 240 ∷ 16 ∷ 16 ∷ 15 ∷ 240 ∷ 16 ∷ 64 ∷ 16 ∷ 0 ∷ 192 ∷ 0 ∷ 66 ∷ 2 ∷ 112 ∷ 33 ∷ 0 ∷ 0 ∷ 112 ∷ 16 ∷ 192 ∷ 0 ∷ 192 ∷ 0 ∷ 2 ∷ 0 ∷ 192 ∷ 0 ∷ 196 ∷ 7 ∷ 192 ∷ 1 ∷ 4 ∷ 14 ∷ 96 ∷ 16 ∷ 130 ∷ 0 ∷ 112 ∷ 33 ∷ 0 ∷ 0 ∷ 96 ∷ 16 ∷ 1 ∷ 0 ∷ 32 ∷ 0 ∷ 0 ∷ 0 ∷ 160 ∷ 0 ∷ 64 ∷ 0 ∷ 160 ∷ 1 ∷ 0 ∷ 0 ∷ 160 ∷ 0 ∷ 0 ∷ 0 ∷ 176 ∷ 0 ∷ 0 ∷ 4 ∷ [])) ≡ Coded 3 3 ((in_slot 2 2 true) ∷ (in_register 8 3 false) ∷ (in_register 7 3 false) ∷ (in_slot 0 1 true) ∷ (in_slot 1 1 true) ∷ []) ((code Const 0 2 0 7 0 0 127) ∷ (code Input 0 0 0 0 0 0 0) ∷ (code Store 0 0 0 0 0 0 0) ∷ (code Const 0 2 0 6 0 0 65535) ∷ (code Store 0 0 2 0 6 0 2) ∷ (code Const 0 2 0 8 0 0 255) ∷ (code Const 0 0 0 0 0 0 256) ∷ (code Store 0 0 0 0 0 0 1) ∷ (code Less 0 0 2 0 8 7 3) ∷ (code Load 0 0 0 0 0 0 1) ∷ (code Widen 0 2 0 7 0 0 0) ∷ (code Load 0 0 0 0 0 0 0) ∷ (code Widen 0 2 0 8 0 0 0) ∷ (code Load 0 2 0 6 0 0 2) ∷ (code Less 0 0 2 0 6 7 0) ∷ (code Load 0 0 0 1 0 0 0) ∷ (code Load 0 0 0 0 0 0 1) ∷ (code Less 0 0 0 0 1 0 11) ∷ (code Load 0 0 0 1 0 0 1) ∷ (code Load 0 0 0 0 0 0 1) ∷ (code Less 0 0 0 0 1 0 26) ∷ (code Xor 0 2 2 8 7 7 0) ∷ (code Load 0 0 0 0 0 0 1) ∷ (code Widen 0 2 0 7 0 0 0) ∷ (code Load 0 2 0 6 0 0 2) ∷ (code Xor 0 2 2 8 6 8 0) ∷ (code Output 0 0 2 0 8 0 0) ∷ (code Load 0 0 0 0 0 0 1) ∷ (code Output 0 0 0 0 0 0 0) ∷ (code Load 0 2 0 6 0 0 2) ∷ (code Output 0 0 2 0 6 0 0) ∷ (code Jump 0 0 0 0 0 0 6) ∷ [])
  pub file_10 : tells (compile paired_file (6 ∷ 16 ∷ 42 ∷ 160 ∷ 148 ∷ 80 ∷ 0 ∷ 0 ∷ 148 ∷ 48 ∷ 0 ∷ 0 ∷ 72 ∷ 65 ∷ 67 ∷ 0 ∷ 44 ∷ 16 ∷ 192 ∷ 0 ∷ 60 ∷ 65 ∷ 5 ∷ 0 ∷ 60 ∷ 16 ∷ 69 ∷ 0 ∷ 32 ∷ 17 ∷ 64 ∷ 0 ∷ 56 ∷ 17 ∷ 67 ∷ 0 ∷ 44 ∷ 65 ∷ 64 ∷ 0 ∷ 104 ∷ 48 ∷ 193 ∷ 0 ∷ 40 ∷ 80 ∷ 64 ∷ 0 ∷ 80 ∷ 17 ∷ 5 ∷ 0 ∷ 56 ∷ 16 ∷ 195 ∷ 0 ∷ 104 ∷ 80 ∷ 195 ∷ 0 ∷ 164 ∷ 1 ∷ 64 ∷ 0 ∷ 4 ∷ 0 ∷ 0 ∷ 0 ∷ [])) ≡ Coded 2 1 ((in_register 0 2 false) ∷ (in_register 8 2 false) ∷ (in_register 6 2 false) ∷ (in_slot 0 1 true) ∷ (in_register 7 2 false) ∷ (in_register 6 2 false) ∷ []) ((code Input 1 2 0 6 0 0 0) ∷ (code Input 1 2 0 7 0 0 0) ∷ (code Store 1 0 2 0 7 0 0) ∷ (code Load 2 2 0 7 0 0 0) ∷ (code Sub 2 2 2 7 6 7 0) ∷ (code Load 3 2 0 8 0 0 0) ∷ (code Add 3 2 2 7 7 6 0) ∷ (code Add 3 2 2 8 8 6 0) ∷ (code Copy 0 2 2 8 6 0 0) ∷ (code Load 2 2 0 7 0 0 0) ∷ (code Add 2 2 2 8 6 7 0) ∷ (code Copy 3 2 2 7 6 0 0) ∷ (code Load 2 2 0 6 0 0 0) ∷ (code Xor 2 2 2 6 6 8 0) ∷ (code Store 2 0 2 0 6 0 0) ∷ (code Copy 2 2 2 6 8 0 0) ∷ (code And 0 2 2 8 7 6 0) ∷ (code Load 2 2 0 7 0 0 0) ∷ (code Load 2 2 0 6 0 0 0) ∷ (code Add 2 2 2 8 7 6 0) ∷ (code Load 2 2 0 7 0 0 0) ∷ (code Load 2 2 0 6 0 0 0) ∷ (code Xor 2 2 2 6 7 6 0) ∷ (code Output 1 0 2 0 6 0 0) ∷ (code End 1 0 0 0 0 0 0) ∷ [])
  pub file_11 : tells (compile nested_file (10 ∷ 20 ∷ 153 ∷ 150 ∷ 96 ∷ 16 ∷ 0 ∷ 15 ∷ 240 ∷ 16 ∷ 16 ∷ 15 ∷ 240 ∷ 96 ∷ 144 ∷ 0 ∷ 0 ∷ 80 ∷ 146 ∷ 64 ∷ 0 ∷ 96 ∷ 64 ∷ 0 ∷ 0 ∷ 96 ∷ 2 ∷ 64 ∷ 0 ∷ 64 ∷ 64 ∷ 9 ∷ 0 ∷ 96 ∷ 112 ∷ 0 ∷ 0 ∷ 64 ∷ 1 ∷ 201 ∷ 0 ∷ 64 ∷ 65 ∷ 192 ∷ 0 ∷ 48 ∷ 96 ∷ 65 ∷ 0 ∷ 96 ∷ 96 ∷ 65 ∷ 0 ∷ 48 ∷ 113 ∷ 7 ∷ 0 ∷ 96 ∷ 2 ∷ 68 ∷ 0 ∷ 80 ∷ 0 ∷ 4 ∷ 0 ∷ 80 ∷ 65 ∷ 201 ∷ 0 ∷ 64 ∷ 113 ∷ 0 ∷ 0 ∷ 160 ∷ 1 ∷ 0 ∷ 0 ∷ 160 ∷ 1 ∷ 128 ∷ 0 ∷ 0 ∷ 0 ∷ 0 ∷ 0 ∷ [])) ≡ Coded 3 3 ((in_register 3 3 false) ∷ (in_slot 0 1 true) ∷ (in_register 0 3 false) ∷ (in_register 4 3 false) ∷ (in_register 2 3 false) ∷ (in_register 4 3 false) ∷ (in_slot 1 1 true) ∷ (in_slot 2 2 true) ∷ (in_register 4 3 false) ∷ (in_register 1 3 false) ∷ []) ((code Const 0 2 0 3 0 0 255) ∷ (code Const 0 1 0 4 0 0 255) ∷ (code Store 0 0 1 0 4 0 0) ∷ (code Xor 0 2 2 1 3 3 0) ∷ (code And 0 2 2 1 1 3 0) ∷ (code Xor 0 2 2 2 3 3 0) ∷ (code Xor 0 2 2 3 1 3 0) ∷ (code Sub 0 2 2 2 3 1 0) ∷ (code Xor 0 2 2 0 3 3 0) ∷ (code Store 0 0 2 0 0 0 2) ∷ (code Load 0 2 0 0 0 0 2) ∷ (code Sub 0 2 2 3 0 1 0) ∷ (code Load 0 2 0 0 0 0 2) ∷ (code Sub 0 2 2 2 0 3 0) ∷ (code Load 0 1 0 7 0 0 0) ∷ (code Load 0 1 0 4 0 0 0) ∷ (code Add 0 1 1 4 7 4 0) ∷ (code Store 0 0 1 0 4 0 1) ∷ (code Load 0 1 0 7 0 0 0) ∷ (code Load 0 1 0 4 0 0 0) ∷ (code Xor 0 1 1 4 7 4 0) ∷ (code Store 0 0 1 0 4 0 1) ∷ (code Load 0 2 0 0 0 0 2) ∷ (code Add 0 2 2 0 2 0 0) ∷ (code Store 0 0 2 0 0 0 2) ∷ (code Xor 0 2 2 3 1 2 0) ∷ (code And 0 2 2 3 3 2 0) ∷ (code Load 0 2 0 0 0 0 2) ∷ (code And 0 2 2 2 0 1 0) ∷ (code Sub 0 2 2 0 2 3 0) ∷ (code Store 0 0 2 0 0 0 2) ∷ (code Output 0 0 2 0 2 0 0) ∷ (code Load 0 1 0 4 0 0 1) ∷ (code Output 0 0 1 0 4 0 0) ∷ (code End 0 0 0 0 0 0 0) ∷ [])
  pub file_12 : tells (compile paired_file (8 ∷ 14 ∷ 170 ∷ 150 ∷ 16 ∷ 48 ∷ 15 ∷ 240 ∷ 16 ∷ 0 ∷ 0 ∷ 64 ∷ 16 ∷ 64 ∷ 0 ∷ 16 ∷ 144 ∷ 80 ∷ 0 ∷ 0 ∷ 16 ∷ 32 ∷ 0 ∷ 16 ∷ 16 ∷ 112 ∷ 0 ∷ 48 ∷ 16 ∷ 96 ∷ 7 ∷ 240 ∷ 64 ∷ 48 ∷ 196 ∷ 0 ∷ 192 ∷ 0 ∷ 4 ∷ 8 ∷ 64 ∷ 64 ∷ 7 ∷ 0 ∷ 32 ∷ 97 ∷ 64 ∷ 0 ∷ 96 ∷ 49 ∷ 2 ∷ 0 ∷ 192 ∷ 1 ∷ 195 ∷ 9 ∷ 0 ∷ 0 ∷ 0 ∷ 0 ∷ [])) ≡ Coded 3 5 ((in_slot 0 1 true) ∷ (in_register 6 3 false) ∷ (in_slot 1 1 true) ∷ (in_register 7 3 false) ∷ (in_register 8 3 false) ∷ (in_slot 2 1 true) ∷ (in_slot 3 1 true) ∷ (in_slot 4 2 true) ∷ []) ((code Const 0 2 0 7 0 0 255) ∷ (code Const 0 2 0 6 0 0 4) ∷ (code Store 0 0 2 0 6 0 0) ∷ (code Const 0 2 0 8 0 0 1) ∷ (code Input 0 1 0 0 0 0 0) ∷ (code Store 0 0 1 0 0 0 2) ∷ (code Const 0 2 0 6 0 0 1) ∷ (code Store 0 0 2 0 6 0 1) ∷ (code Const 0 2 0 6 0 0 3) ∷ (code Store 0 0 2 0 6 0 4) ∷ (code Const 0 1 0 0 0 0 127) ∷ (code Store 0 0 1 0 0 0 3) ∷ (code Sub 0 2 2 7 7 8 0) ∷ (code Load 0 2 0 6 0 0 0) ∷ (code Less 0 0 2 0 6 8 13) ∷ (code Load 0 2 0 7 0 0 0) ∷ (code Load 0 2 0 6 0 0 4) ∷ (code Sub 0 2 2 8 7 6 0) ∷ (code Load 0 1 0 0 0 0 2) ∷ (code Store 0 0 1 0 0 0 3) ∷ (code Load 0 2 0 6 0 0 1) ∷ (code Xor 0 2 2 7 8 6 0) ∷ (code Load 0 2 0 6 0 0 4) ∷ (code Less 0 0 2 0 6 7 15) ∷ (code End 0 0 0 0 0 0 0) ∷ [])
  pub file_13 : tells (compile nested_file (7 ∷ 23 ∷ 170 ∷ 168 ∷ 16 ∷ 48 ∷ 16 ∷ 0 ∷ 16 ∷ 32 ∷ 16 ∷ 0 ∷ 144 ∷ 64 ∷ 0 ∷ 0 ∷ 16 ∷ 95 ∷ 255 ∷ 240 ∷ 144 ∷ 0 ∷ 0 ∷ 0 ∷ 144 ∷ 96 ∷ 0 ∷ 0 ∷ 144 ∷ 16 ∷ 0 ∷ 0 ∷ 32 ∷ 65 ∷ 128 ∷ 0 ∷ 48 ∷ 17 ∷ 133 ∷ 0 ∷ 80 ∷ 49 ∷ 4 ∷ 0 ∷ 144 ∷ 48 ∷ 0 ∷ 0 ∷ 80 ∷ 97 ∷ 68 ∷ 0 ∷ 64 ∷ 48 ∷ 196 ∷ 0 ∷ 16 ∷ 16 ∷ 0 ∷ 32 ∷ 32 ∷ 1 ∷ 64 ∷ 0 ∷ 64 ∷ 32 ∷ 128 ∷ 0 ∷ 192 ∷ 0 ∷ 133 ∷ 21 ∷ 32 ∷ 16 ∷ 0 ∷ 0 ∷ 48 ∷ 97 ∷ 69 ∷ 0 ∷ 96 ∷ 64 ∷ 198 ∷ 0 ∷ 0 ∷ 0 ∷ 0 ∷ 0 ∷ 160 ∷ 1 ∷ 0 ∷ 0 ∷ 0 ∷ 0 ∷ 0 ∷ 0 ∷ [])) ≡ Coded 4 4 ((in_slot 2 2 true) ∷ (in_slot 0 1 true) ∷ (in_slot 1 1 true) ∷ (in_slot 3 3 true) ∷ (in_register 2 4 false) ∷ (in_register 1 4 false) ∷ (in_register 3 4 false) ∷ []) ((code Const 0 2 0 0 0 0 256) ∷ (code Store 0 0 2 0 0 0 3) ∷ (code Const 0 2 0 0 0 0 256) ∷ (code Store 0 0 2 0 0 0 1) ∷ (code Input 0 2 0 2 0 0 0) ∷ (code Const 0 2 0 1 0 0 65535) ∷ (code Input 0 2 0 0 0 0 0) ∷ (code Store 0 0 2 0 0 0 2) ∷ (code Input 0 2 0 3 0 0 0) ∷ (code Input 0 2 0 0 0 0 0) ∷ (code Store 0 0 2 0 0 0 0) ∷ (code Copy 0 2 2 2 3 0 0) ∷ (code Add 0 2 2 0 3 1 0) ∷ (code Store 0 0 2 0 0 0 0) ∷ (code And 0 2 2 0 2 2 0) ∷ (code Store 0 0 2 0 0 0 3) ∷ (code Input 0 2 0 0 0 0 0) ∷ (code Store 0 0 2 0 0 0 3) ∷ (code And 0 2 2 3 1 2 0) ∷ (code Load 0 2 0 0 0 0 3) ∷ (code Sub 0 2 2 0 0 2 0) ∷ (code Store 0 0 2 0 0 0 3) ∷ (code Const 0 2 0 0 0 0 2) ∷ (code Store 0 0 2 0 0 0 0) ∷ (code Copy 0 2 2 0 1 0 0) ∷ (code Store 0 0 2 0 0 0 2) ∷ (code Load 0 2 0 3 0 0 1) ∷ (code Load 0 2 0 0 0 0 2) ∷ (code Sub 0 2 2 0 3 0 0) ∷ (code Store 0 0 2 0 0 0 1) ∷ (code Load 0 2 0 0 0 0 1) ∷ (code Less 0 0 2 0 0 1 38) ∷ (code Load 0 2 0 0 0 0 2) ∷ (code Store 0 0 2 0 0 0 0) ∷ (code Add 0 2 2 3 1 1 0) ∷ (code Load 0 2 0 0 0 0 3) ∷ (code Xor 0 2 2 2 0 3 0) ∷ (code End 0 0 0 0 0 0 0) ∷ (code Output 0 0 2 0 2 0 0) ∷ (code End 0 0 0 0 0 0 0) ∷ [])
  pub file_14 : tells (compile paired_file (6 ∷ 17 ∷ 1 ∷ 160 ∷ 16 ∷ 80 ∷ 15 ∷ 240 ∷ 144 ∷ 0 ∷ 0 ∷ 0 ∷ 16 ∷ 16 ∷ 15 ∷ 240 ∷ 16 ∷ 56 ∷ 0 ∷ 0 ∷ 144 ∷ 32 ∷ 0 ∷ 0 ∷ 16 ∷ 72 ∷ 0 ∷ 0 ∷ 64 ∷ 16 ∷ 128 ∷ 0 ∷ 80 ∷ 16 ∷ 2 ∷ 0 ∷ 192 ∷ 0 ∷ 66 ∷ 11 ∷ 96 ∷ 48 ∷ 195 ∷ 0 ∷ 176 ∷ 0 ∷ 0 ∷ 10 ∷ 48 ∷ 48 ∷ 195 ∷ 0 ∷ 64 ∷ 16 ∷ 64 ∷ 0 ∷ 48 ∷ 81 ∷ 4 ∷ 0 ∷ 160 ∷ 0 ∷ 192 ∷ 0 ∷ 160 ∷ 0 ∷ 0 ∷ 0 ∷ 176 ∷ 0 ∷ 0 ∷ 12 ∷ [])) ≡ Coded 4 3 ((in_slot 2 3 true) ∷ (in_register 5 4 false) ∷ (in_register 1 4 false) ∷ (in_register 4 4 false) ∷ (in_slot 1 2 true) ∷ (in_slot 0 1 true) ∷ []) ((code Const 0 2 0 6 0 0 255) ∷ (code Store 0 0 2 0 6 0 0) ∷ (code Input 0 0 0 0 0 0 0) ∷ (code Store 0 0 0 0 0 0 2) ∷ (code Const 0 0 0 5 0 0 255) ∷ (code Const 0 1 0 4 0 0 32768) ∷ (code Input 0 0 0 1 0 0 0) ∷ (code Const 0 2 0 7 0 0 32768) ∷ (code Store 0 0 2 0 7 0 1) ∷ (code Load 0 0 0 0 0 0 2) ∷ (code Sub 0 0 0 5 1 0 0) ∷ (code Load 0 0 0 0 0 0 2) ∷ (code And 0 0 0 5 0 1 0) ∷ (code Less 0 0 0 0 5 1 16) ∷ (code Xor 0 1 1 4 4 4 0) ∷ (code Jump 0 0 0 0 0 0 15) ∷ (code Add 0 1 1 4 4 4 0) ∷ (code Load 0 0 0 0 0 0 2) ∷ (code Sub 0 0 0 5 5 0 0) ∷ (code Load 0 2 0 7 0 0 1) ∷ (code Load 0 2 0 6 0 0 1) ∷ (code Add 0 2 2 6 7 6 0) ∷ (code Store 0 0 2 0 6 0 0) ∷ (code Output 0 0 1 0 4 0 0) ∷ (code Load 0 0 0 0 0 0 2) ∷ (code Output 0 0 0 0 0 0 0) ∷ (code Jump 0 0 0 0 0 0 17) ∷ [])
  pub file_15 : tells (compile paired_file (9 ∷ 16 ∷ 74 ∷ 42 ∷ 128 ∷ 16 ∷ 80 ∷ 0 ∷ 80 ∷ 28 ∷ 0 ∷ 15 ∷ 240 ∷ 88 ∷ 113 ∷ 69 ∷ 0 ∷ 92 ∷ 129 ∷ 69 ∷ 0 ∷ 56 ∷ 49 ∷ 199 ∷ 0 ∷ 56 ∷ 81 ∷ 195 ∷ 0 ∷ 84 ∷ 113 ∷ 195 ∷ 0 ∷ 172 ∷ 1 ∷ 192 ∷ 0 ∷ 192 ∷ 1 ∷ 200 ∷ 0 ∷ 172 ∷ 2 ∷ 0 ∷ 0 ∷ 92 ∷ 0 ∷ 0 ∷ 0 ∷ 84 ∷ 98 ∷ 5 ∷ 0 ∷ 164 ∷ 1 ∷ 128 ∷ 0 ∷ 164 ∷ 1 ∷ 192 ∷ 0 ∷ 168 ∷ 0 ∷ 0 ∷ 0 ∷ 0 ∷ 0 ∷ 0 ∷ 0 ∷ [])) ≡ Coded 3 4 ((in_slot 2 2 true) ∷ (in_register 0 3 false) ∷ (in_register 6 3 false) ∷ (in_slot 0 1 true) ∷ (in_register 0 3 false) ∷ (in_register 7 3 false) ∷ (in_register 6 3 false) ∷ (in_slot 1 1 true) ∷ (in_slot 3 2 true) ∷ []) ((code Const 0 2 0 7 0 0 5) ∷ (code Const 3 1 0 0 0 0 255) ∷ (code Store 3 0 1 0 0 0 2) ∷ (code And 2 2 2 6 7 7 0) ∷ (code Store 2 0 2 0 6 0 1) ∷ (code And 3 2 2 6 7 7 0) ∷ (code Store 3 0 2 0 6 0 3) ∷ (code Load 2 2 0 7 0 0 1) ∷ (code Load 2 2 0 6 0 0 1) ∷ (code Add 2 2 2 6 7 6 0) ∷ (code Store 2 0 2 0 6 0 0) ∷ (code Load 2 2 0 7 0 0 1) ∷ (code Load 2 2 0 6 0 0 0) ∷ (code Add 2 2 2 7 7 6 0) ∷ (code Load 1 2 0 8 0 0 1) ∷ (code Load 1 2 0 6 0 0 0) ∷ (code And 1 2 2 6 8 6 0) ∷ (code Store 1 0 2 0 6 0 1) ∷ (code Load 3 2 0 6 0 0 1) ∷ (code Output 3 0 2 0 6 0 0) ∷ (code Load 0 2 0 8 0 0 1) ∷ (code Load 0 2 0 6 0 0 3) ∷ (code Less 0 0 2 0 8 6 0) ∷ (code Load 3 2 0 6 0 0 3) ∷ (code Output 3 0 2 0 6 0 0) ∷ (code Load 3 1 0 1 0 0 2) ∷ (code Load 3 1 0 0 0 0 2) ∷ (code And 3 1 1 0 1 0 0) ∷ (code Store 3 0 1 0 0 0 2) ∷ (code Load 1 2 0 6 0 0 3) ∷ (code And 1 2 2 6 6 7 0) ∷ (code Output 1 0 2 0 6 0 0) ∷ (code Load 1 2 0 6 0 0 1) ∷ (code Output 1 0 2 0 6 0 0) ∷ (code Load 2 1 0 0 0 0 2) ∷ (code Output 2 0 1 0 0 0 0) ∷ (code End 0 0 0 0 0 0 0) ∷ [])
  pub file_16 : tells (compile nested_file (5 ∷ 12 ∷ 20 ∷ 0 ∷ 156 ∷ 48 ∷ 0 ∷ 0 ∷ 28 ∷ 64 ∷ 16 ∷ 0 ∷ 24 ∷ 0 ∷ 7 ∷ 240 ∷ 24 ∷ 32 ∷ 15 ∷ 240 ∷ 24 ∷ 16 ∷ 15 ∷ 240 ∷ 32 ∷ 32 ∷ 128 ∷ 0 ∷ 44 ∷ 32 ∷ 128 ∷ 0 ∷ 116 ∷ 17 ∷ 0 ∷ 0 ∷ 36 ∷ 65 ∷ 0 ∷ 0 ∷ 192 ∷ 1 ∷ 4 ∷ 5 ∷ 172 ∷ 0 ∷ 128 ∷ 0 ∷ 12 ∷ 0 ∷ 0 ∷ 0 ∷ [])) ≡ Coded 1 0 ((in_register 9 1 false) ∷ (in_register 6 1 false) ∷ (in_register 5 1 false) ∷ (in_register 8 1 false) ∷ (in_register 8 1 false) ∷ []) ((code Input 3 0 0 8 0 0 0) ∷ (code Const 3 0 0 8 0 0 256) ∷ (code Const 2 0 0 9 0 0 127) ∷ (code Const 2 1 0 5 0 0 255) ∷ (code Const 2 1 0 6 0 0 255) ∷ (code Widen 1 1 0 6 8 0 0) ∷ (code Less 0 0 0 0 8 8 5) ∷ (code Output 3 0 1 0 5 0 0) ∷ (code End 3 0 0 0 0 0 0) ∷ [])
  pub file_17 : tells (compile paired_file (3 ∷ 12 ∷ 40 ∷ 24 ∷ 32 ∷ 0 ∷ 64 ∷ 156 ∷ 16 ∷ 0 ∷ 0 ∷ 60 ∷ 32 ∷ 66 ∷ 0 ∷ 68 ∷ 32 ∷ 130 ∷ 0 ∷ 40 ∷ 32 ∷ 128 ∷ 0 ∷ 104 ∷ 32 ∷ 130 ∷ 0 ∷ 56 ∷ 16 ∷ 130 ∷ 0 ∷ 52 ∷ 32 ∷ 130 ∷ 0 ∷ 88 ∷ 32 ∷ 66 ∷ 0 ∷ 60 ∷ 16 ∷ 130 ∷ 0 ∷ 172 ∷ 0 ∷ 64 ∷ 0 ∷ 0 ∷ 0 ∷ 0 ∷ 0 ∷ [])) ≡ Coded 1 0 ((in_register 0 1 false) ∷ (in_register 7 1 false) ∷ (in_register 6 1 false) ∷ []) ((code Const 2 2 0 6 0 0 4) ∷ (code Input 3 2 0 7 0 0 0) ∷ (code Add 3 2 2 6 7 6 0) ∷ (code Sub 1 2 2 6 6 6 0) ∷ (code Xor 2 2 2 6 6 6 0) ∷ (code Add 2 2 2 7 6 6 0) ∷ (code Add 1 2 2 6 6 6 0) ∷ (code And 2 2 2 6 7 6 0) ∷ (code Add 3 2 2 7 6 6 0) ∷ (code Output 3 0 2 0 7 0 0) ∷ (code End 0 0 0 0 0 0 0) ∷ [])
  pub file_18 : tells (compile nested_file (1 ∷ 22 ∷ 64 ∷ 144 ∷ 0 ∷ 0 ∷ 0 ∷ 88 ∷ 0 ∷ 0 ∷ 0 ∷ 28 ∷ 8 ∷ 0 ∷ 0 ∷ 56 ∷ 0 ∷ 0 ∷ 0 ∷ 16 ∷ 0 ∷ 0 ∷ 0 ∷ 108 ∷ 0 ∷ 0 ∷ 0 ∷ 68 ∷ 0 ∷ 0 ∷ 0 ∷ 196 ∷ 0 ∷ 0 ∷ 6 ∷ 44 ∷ 0 ∷ 0 ∷ 0 ∷ 152 ∷ 0 ∷ 0 ∷ 0 ∷ 60 ∷ 0 ∷ 0 ∷ 0 ∷ 84 ∷ 0 ∷ 0 ∷ 0 ∷ 76 ∷ 0 ∷ 0 ∷ 0 ∷ 80 ∷ 0 ∷ 0 ∷ 0 ∷ 32 ∷ 0 ∷ 0 ∷ 0 ∷ 164 ∷ 0 ∷ 0 ∷ 0 ∷ 172 ∷ 0 ∷ 0 ∷ 0 ∷ 160 ∷ 0 ∷ 0 ∷ 0 ∷ 164 ∷ 0 ∷ 0 ∷ 0 ∷ 160 ∷ 0 ∷ 0 ∷ 0 ∷ 160 ∷ 0 ∷ 0 ∷ 0 ∷ 0 ∷ 0 ∷ 0 ∷ 0 ∷ [])) ≡ Coded 1 0 ((in_register 4 1 false) ∷ []) ((code Input 0 1 0 4 0 0 0) ∷ (code And 2 1 1 4 4 4 0) ∷ (code Const 3 1 0 4 0 0 32768) ∷ (code Add 2 1 1 4 4 4 0) ∷ (code Const 0 1 0 4 0 0 0) ∷ (code Xor 3 1 1 4 4 4 0) ∷ (code Sub 1 1 1 4 4 4 0) ∷ (code Less 1 0 1 0 4 4 6) ∷ (code Input 2 1 0 4 0 0 0) ∷ (code Add 3 1 1 4 4 4 0) ∷ (code And 1 1 1 4 4 4 0) ∷ (code Sub 3 1 1 4 4 4 0) ∷ (code And 0 1 1 4 4 4 0) ∷ (code Output 1 0 1 0 4 0 0) ∷ (code Output 3 0 1 0 4 0 0) ∷ (code Output 0 0 1 0 4 0 0) ∷ (code Output 1 0 1 0 4 0 0) ∷ (code Output 0 0 1 0 4 0 0) ∷ (code Output 0 0 1 0 4 0 0) ∷ (code End 0 0 0 0 0 0 0) ∷ [])
  pub file_19 : tells (compile nested_file (3 ∷ 11 ∷ 164 ∷ 24 ∷ 16 ∷ 0 ∷ 128 ∷ 148 ∷ 0 ∷ 0 ∷ 0 ∷ 152 ∷ 32 ∷ 0 ∷ 0 ∷ 104 ∷ 32 ∷ 130 ∷ 0 ∷ 32 ∷ 16 ∷ 0 ∷ 0 ∷ 80 ∷ 32 ∷ 130 ∷ 0 ∷ 60 ∷ 0 ∷ 65 ∷ 0 ∷ 32 ∷ 32 ∷ 128 ∷ 0 ∷ 32 ∷ 32 ∷ 128 ∷ 0 ∷ 56 ∷ 0 ∷ 64 ∷ 0 ∷ 4 ∷ 0 ∷ 0 ∷ 0 ∷ [])) ≡ Coded 1 0 ((in_register 2 1 false) ∷ (in_register 1 1 false) ∷ (in_register 4 1 false) ∷ []) ((code Const 2 2 0 1 0 0 8) ∷ (code Input 1 2 0 2 0 0 0) ∷ (code Input 2 1 0 4 0 0 0) ∷ (code Xor 2 1 1 4 4 4 0) ∷ (code Copy 0 2 2 1 2 0 0) ∷ (code And 0 1 1 4 4 4 0) ∷ (code Add 3 2 2 2 1 1 0) ∷ (code Add 2 2 2 2 1 2 0) ∷ (code End 1 0 0 0 0 0 0) ∷ [])
  pub file_20 : tells (compile paired_file (1 ∷ 19 ∷ 0 ∷ 16 ∷ 0 ∷ 0 ∷ 48 ∷ 16 ∷ 15 ∷ 255 ∷ 240 ∷ 32 ∷ 0 ∷ 0 ∷ 0 ∷ 32 ∷ 0 ∷ 0 ∷ 0 ∷ 32 ∷ 0 ∷ 0 ∷ 0 ∷ 192 ∷ 0 ∷ 0 ∷ 6 ∷ 32 ∷ 0 ∷ 0 ∷ 0 ∷ 32 ∷ 0 ∷ 0 ∷ 0 ∷ 32 ∷ 0 ∷ 0 ∷ 0 ∷ 32 ∷ 0 ∷ 0 ∷ 0 ∷ 192 ∷ 0 ∷ 0 ∷ 18 ∷ 32 ∷ 0 ∷ 0 ∷ 0 ∷ 32 ∷ 0 ∷ 0 ∷ 0 ∷ 32 ∷ 0 ∷ 0 ∷ 0 ∷ 160 ∷ 0 ∷ 0 ∷ 0 ∷ 32 ∷ 0 ∷ 0 ∷ 0 ∷ 32 ∷ 0 ∷ 0 ∷ 0 ∷ 32 ∷ 0 ∷ 0 ∷ 0 ∷ 0 ∷ 0 ∷ 0 ∷ 0 ∷ [])) ≡ Coded 1 0 ((in_register 0 1 false) ∷ []) ((code Const 0 0 0 0 0 0 3) ∷ (code Const 0 0 0 0 0 0 65535) ∷ (code Less 0 0 0 0 0 0 3) ∷ (code Less 0 0 0 0 0 0 5) ∷ (code Output 0 0 0 0 0 0 0) ∷ (code End 0 0 0 0 0 0 0) ∷ [])
  pub file_21 : tells (compile nested_file (5 ∷ 5 ∷ 89 ∷ 64 ∷ 20 ∷ 16 ∷ 0 ∷ 16 ∷ 28 ∷ 0 ∷ 16 ∷ 0 ∷ 40 ∷ 64 ∷ 64 ∷ 0 ∷ 88 ∷ 16 ∷ 68 ∷ 0 ∷ 12 ∷ 0 ∷ 0 ∷ 0 ∷ [])) ≡ Coded 1 0 ((in_register 5 1 false) ∷ (in_register 4 1 false) ∷ (in_register 0 1 false) ∷ (in_register 4 1 false) ∷ (in_register 4 1 false) ∷ []) ((code Const 1 1 0 4 0 0 1) ∷ (code Const 3 1 0 5 0 0 256) ∷ (code And 2 1 1 4 4 4 0) ∷ (code End 3 0 0 0 0 0 0) ∷ [])
  pub file_22 : tells (compile paired_file (10 ∷ 10 ∷ 25 ∷ 128 ∷ 144 ∷ 16 ∷ 48 ∷ 7 ∷ 240 ∷ 16 ∷ 47 ∷ 255 ∷ 240 ∷ 96 ∷ 48 ∷ 195 ∷ 0 ∷ 160 ∷ 0 ∷ 192 ∷ 0 ∷ 128 ∷ 112 ∷ 128 ∷ 0 ∷ 32 ∷ 64 ∷ 128 ∷ 0 ∷ 32 ∷ 64 ∷ 128 ∷ 0 ∷ 160 ∷ 1 ∷ 192 ∷ 0 ∷ 160 ∷ 0 ∷ 128 ∷ 0 ∷ 0 ∷ 0 ∷ 0 ∷ 0 ∷ [])) ≡ Coded 1 0 ((in_register 0 1 false) ∷ (in_register 0 1 false) ∷ (in_register 7 1 false) ∷ (in_register 0 1 false) ∷ (in_register 7 1 false) ∷ (in_register 0 1 false) ∷ (in_register 0 1 false) ∷ (in_register 0 1 false) ∷ (in_register 6 1 false) ∷ (in_register 0 1 false) ∷ []) ((code Const 0 1 0 0 0 0 127) ∷ (code Const 0 2 0 7 0 0 65535) ∷ (code Xor 0 1 1 0 0 0 0) ∷ (code Output 0 0 1 0 0 0 0) ∷ (code Narrow 0 0 2 0 7 0 0) ∷ (code Output 0 0 0 0 0 0 0) ∷ (code Output 0 0 2 0 7 0 0) ∷ (code End 0 0 0 0 0 0 0) ∷ [])
  pub file_23 : tells (compile nested_file (1 ∷ 12 ∷ 64 ∷ 144 ∷ 0 ∷ 0 ∷ 0 ∷ 36 ∷ 0 ∷ 0 ∷ 0 ∷ 20 ∷ 0 ∷ 15 ∷ 240 ∷ 36 ∷ 0 ∷ 0 ∷ 0 ∷ 44 ∷ 0 ∷ 0 ∷ 0 ∷ 40 ∷ 0 ∷ 0 ∷ 0 ∷ 204 ∷ 0 ∷ 0 ∷ 1 ∷ 172 ∷ 0 ∷ 0 ∷ 0 ∷ 164 ∷ 0 ∷ 0 ∷ 0 ∷ 164 ∷ 0 ∷ 0 ∷ 0 ∷ 164 ∷ 0 ∷ 0 ∷ 0 ∷ 8 ∷ 0 ∷ 0 ∷ 0 ∷ [])) ≡ Coded 1 0 ((in_register 4 1 false) ∷ []) ((code Input 0 1 0 4 0 0 0) ∷ (code Const 1 1 0 4 0 0 255) ∷ (code Less 3 0 1 0 4 4 1) ∷ (code Output 3 0 1 0 4 0 0) ∷ (code Output 1 0 1 0 4 0 0) ∷ (code Output 1 0 1 0 4 0 0) ∷ (code Output 1 0 1 0 4 0 0) ∷ (code End 2 0 0 0 0 0 0) ∷ [])
  pub file_24 : tells (compile paired_file (3 ∷ 15 ∷ 0 ∷ 144 ∷ 0 ∷ 0 ∷ 0 ∷ 144 ∷ 32 ∷ 0 ∷ 0 ∷ 148 ∷ 16 ∷ 0 ∷ 0 ∷ 204 ∷ 0 ∷ 128 ∷ 7 ∷ 36 ∷ 32 ∷ 0 ∷ 0 ∷ 160 ∷ 0 ∷ 0 ∷ 0 ∷ 188 ∷ 0 ∷ 0 ∷ 14 ∷ 36 ∷ 16 ∷ 128 ∷ 0 ∷ 160 ∷ 0 ∷ 64 ∷ 0 ∷ 36 ∷ 16 ∷ 64 ∷ 0 ∷ 40 ∷ 32 ∷ 128 ∷ 0 ∷ 40 ∷ 32 ∷ 128 ∷ 0 ∷ 32 ∷ 16 ∷ 0 ∷ 0 ∷ 164 ∷ 0 ∷ 128 ∷ 0 ∷ 8 ∷ 0 ∷ 0 ∷ 0 ∷ [])) ≡ Coded 1 0 ((in_register 2 1 false) ∷ (in_register 1 1 false) ∷ (in_register 0 1 false) ∷ []) ((code Input 0 0 0 2 0 0 0) ∷ (code Input 0 0 0 0 0 0 0) ∷ (code Input 1 0 0 1 0 0 0) ∷ (code Less 3 0 0 0 0 2 7) ∷ (code Copy 1 0 0 0 2 0 0) ∷ (code Output 0 0 0 0 2 0 0) ∷ (code Jump 3 0 0 0 0 0 11) ∷ (code Copy 1 0 0 1 0 0 0) ∷ (code Output 0 0 0 0 1 0 0) ∷ (code Copy 0 0 0 1 2 0 0) ∷ (code Output 1 0 0 0 0 0 0) ∷ (code End 2 0 0 0 0 0 0) ∷ [])
  pub file_25 : tells (compile paired_file (2 ∷ 11 ∷ 96 ∷ 20 ∷ 16 ∷ 7 ∷ 240 ∷ 144 ∷ 0 ∷ 0 ∷ 0 ∷ 84 ∷ 0 ∷ 0 ∷ 0 ∷ 192 ∷ 0 ∷ 0 ∷ 7 ∷ 44 ∷ 0 ∷ 0 ∷ 0 ∷ 196 ∷ 0 ∷ 65 ∷ 9 ∷ 184 ∷ 0 ∷ 0 ∷ 8 ∷ 8 ∷ 0 ∷ 0 ∷ 0 ∷ 76 ∷ 16 ∷ 65 ∷ 0 ∷ 48 ∷ 16 ∷ 65 ∷ 0 ∷ 0 ∷ 0 ∷ 0 ∷ 0 ∷ [])) ≡ Coded 1 0 ((in_register 2 1 false) ∷ (in_register 6 1 false) ∷ []) ((code Const 1 2 0 6 0 0 127) ∷ (code Input 0 1 0 2 0 0 0) ∷ (code And 1 1 1 2 2 2 0) ∷ (code Less 0 0 1 0 2 2 6) ∷ (code Less 1 0 2 0 6 6 8) ∷ (code Jump 2 0 0 0 0 0 7) ∷ (code End 2 0 0 0 0 0 0) ∷ (code Sub 3 2 2 6 6 6 0) ∷ (code Add 0 2 2 6 6 6 0) ∷ (code End 0 0 0 0 0 0 0) ∷ [])
  pub file_26 : tells (compile paired_file (2 ∷ 24 ∷ 96 ∷ 144 ∷ 0 ∷ 0 ∷ 0 ∷ 156 ∷ 16 ∷ 0 ∷ 0 ∷ 72 ∷ 0 ∷ 0 ∷ 0 ∷ 96 ∷ 16 ∷ 65 ∷ 0 ∷ 156 ∷ 16 ∷ 0 ∷ 0 ∷ 96 ∷ 16 ∷ 65 ∷ 0 ∷ 64 ∷ 0 ∷ 0 ∷ 0 ∷ 56 ∷ 16 ∷ 65 ∷ 0 ∷ 68 ∷ 16 ∷ 65 ∷ 0 ∷ 76 ∷ 0 ∷ 0 ∷ 0 ∷ 48 ∷ 0 ∷ 0 ∷ 0 ∷ 72 ∷ 16 ∷ 65 ∷ 0 ∷ 156 ∷ 0 ∷ 0 ∷ 0 ∷ 84 ∷ 16 ∷ 65 ∷ 0 ∷ 96 ∷ 16 ∷ 65 ∷ 0 ∷ 72 ∷ 16 ∷ 65 ∷ 0 ∷ 84 ∷ 0 ∷ 0 ∷ 0 ∷ 68 ∷ 16 ∷ 65 ∷ 0 ∷ 136 ∷ 0 ∷ 64 ∷ 0 ∷ 48 ∷ 16 ∷ 65 ∷ 0 ∷ 168 ∷ 0 ∷ 0 ∷ 0 ∷ 172 ∷ 0 ∷ 0 ∷ 0 ∷ 168 ∷ 0 ∷ 0 ∷ 0 ∷ 188 ∷ 0 ∷ 0 ∷ 8 ∷ [])) ≡ Coded 1 0 ((in_register 2 1 false) ∷ (in_register 6 1 false) ∷ []) ((code Input 0 1 0 2 0 0 0) ∷ (code Input 3 2 0 6 0 0 0) ∷ (code Sub 2 1 1 2 2 2 0) ∷ (code Xor 0 2 2 6 6 6 0) ∷ (code Input 3 2 0 6 0 0 0) ∷ (code Xor 0 2 2 6 6 6 0) ∷ (code Sub 0 1 1 2 2 2 0) ∷ (code Add 2 2 2 6 6 6 0) ∷ (code Sub 1 2 2 6 6 6 0) ∷ (code Sub 3 1 1 2 2 2 0) ∷ (code Add 0 1 1 2 2 2 0) ∷ (code Sub 2 2 2 6 6 6 0) ∷ (code Input 3 1 0 2 0 0 0) ∷ (code And 1 2 2 6 6 6 0) ∷ (code Xor 0 2 2 6 6 6 0) ∷ (code Sub 2 2 2 6 6 6 0) ∷ (code And 1 1 1 2 2 2 0) ∷ (code Sub 1 2 2 6 6 6 0) ∷ (code Narrow 2 1 2 2 6 0 0) ∷ (code Add 0 2 2 6 6 6 0) ∷ (code Output 2 0 1 0 2 0 0) ∷ (code Output 3 0 1 0 2 0 0) ∷ (code Output 2 0 1 0 2 0 0) ∷ (code Jump 3 0 0 0 0 0 8) ∷ [])
  pub file_27 : tells (compile nested_file (10 ∷ 2 ∷ 34 ∷ 164 ∷ 32 ∷ 152 ∷ 144 ∷ 0 ∷ 0 ∷ 180 ∷ 0 ∷ 0 ∷ 0 ∷ [])) ≡ Coded 1 0 ((in_register 8 1 false) ∷ (in_register 0 1 false) ∷ (in_register 8 1 false) ∷ (in_register 0 1 false) ∷ (in_register 0 1 false) ∷ (in_register 0 1 false) ∷ (in_register 4 1 false) ∷ (in_register 8 1 false) ∷ (in_register 8 1 false) ∷ (in_register 0 1 false) ∷ []) ((code Input 2 2 0 0 0 0 0) ∷ (code Jump 1 0 0 0 0 0 0) ∷ [])
  pub file_28 : tells (compile nested_file (6 ∷ 4 ∷ 85 ∷ 80 ∷ 24 ∷ 95 ∷ 255 ∷ 240 ∷ 16 ∷ 0 ∷ 16 ∷ 0 ∷ 28 ∷ 48 ∷ 0 ∷ 0 ∷ 180 ∷ 0 ∷ 0 ∷ 0 ∷ [])) ≡ Coded 1 0 ((in_register 4 1 false) ∷ (in_register 4 1 false) ∷ (in_register 4 1 false) ∷ (in_register 4 1 false) ∷ (in_register 4 1 false) ∷ (in_register 4 1 false) ∷ []) ((code Const 2 1 0 4 0 0 65535) ∷ (code Const 0 1 0 4 0 0 256) ∷ (code Const 3 1 0 4 0 0 0) ∷ (code Jump 1 0 0 0 0 0 0) ∷ [])
  pub file_29 : tells (compile paired_file (0 ∷ 7 ∷ 184 ∷ 0 ∷ 0 ∷ 1 ∷ 188 ∷ 0 ∷ 0 ∷ 2 ∷ 176 ∷ 0 ∷ 0 ∷ 3 ∷ 180 ∷ 0 ∷ 0 ∷ 4 ∷ 188 ∷ 0 ∷ 0 ∷ 5 ∷ 180 ∷ 0 ∷ 0 ∷ 6 ∷ 176 ∷ 0 ∷ 0 ∷ 5 ∷ [])) ≡ Coded 1 0 ([]) ((code Jump 2 0 0 0 0 0 1) ∷ (code Jump 3 0 0 0 0 0 2) ∷ (code Jump 0 0 0 0 0 0 3) ∷ (code Jump 1 0 0 0 0 0 4) ∷ (code Jump 3 0 0 0 0 0 5) ∷ (code Jump 1 0 0 0 0 0 6) ∷ (code Jump 0 0 0 0 0 0 5) ∷ [])
  pub file_30 : tells (compile nested_file (1 ∷ 6 ∷ 0 ∷ 28 ∷ 0 ∷ 0 ∷ 112 ∷ 16 ∷ 0 ∷ 15 ∷ 240 ∷ 168 ∷ 0 ∷ 0 ∷ 0 ∷ 200 ∷ 0 ∷ 0 ∷ 3 ∷ 172 ∷ 0 ∷ 0 ∷ 0 ∷ 4 ∷ 0 ∷ 0 ∷ 0 ∷ [])) ≡ Coded 1 0 ((in_register 8 1 false) ∷ []) ((code Const 3 0 0 8 0 0 7) ∷ (code Const 0 0 0 8 0 0 255) ∷ (code Output 2 0 0 0 8 0 0) ∷ (code Less 2 0 0 0 8 8 3) ∷ (code Output 3 0 0 0 8 0 0) ∷ (code End 1 0 0 0 0 0 0) ∷ [])
  pub file_31 : tells (compile nested_file (4 ∷ 6 ∷ 0 ∷ 96 ∷ 32 ∷ 0 ∷ 0 ∷ 192 ∷ 0 ∷ 129 ∷ 0 ∷ 152 ∷ 0 ∷ 0 ∷ 0 ∷ 176 ∷ 0 ∷ 0 ∷ 5 ∷ 192 ∷ 0 ∷ 129 ∷ 0 ∷ 176 ∷ 0 ∷ 0 ∷ 0 ∷ [])) ≡ Refused (told ProgramLayer 13 4)
  pub file_32 : tells (compile paired_file (5 ∷ 4 ∷ 170 ∷ 128 ∷ 192 ∷ 0 ∷ 196 ∷ 3 ∷ 96 ∷ 48 ∷ 193 ∷ 0 ∷ 36 ∷ 0 ∷ 0 ∷ 0 ∷ 0 ∷ 0 ∷ 0 ∷ 0 ∷ [])) ≡ Refused (told ProgramLayer 14 0)
  pub file_33 : tells (compile paired_file (10 ∷ 6 ∷ 170 ∷ 169 ∷ 160 ∷ 144 ∷ 112 ∷ 0 ∷ 0 ∷ 16 ∷ 48 ∷ 0 ∷ 112 ∷ 192 ∷ 0 ∷ 195 ∷ 3 ∷ 80 ∷ 112 ∷ 199 ∷ 0 ∷ 48 ∷ 48 ∷ 199 ∷ 0 ∷ 0 ∷ 0 ∷ 0 ∷ 0 ∷ [])) ≡ Refused (told RowLayer 10 3)
  pub file_34 : tells (compile paired_file (4 ∷ 11 ∷ 86 ∷ 28 ∷ 8 ∷ 0 ∷ 0 ∷ 28 ∷ 16 ∷ 0 ∷ 0 ∷ 144 ∷ 48 ∷ 0 ∷ 0 ∷ 144 ∷ 32 ∷ 0 ∷ 0 ∷ 180 ∷ 0 ∷ 0 ∷ 0 ∷ 192 ∷ 0 ∷ 129 ∷ 2 ∷ 68 ∷ 0 ∷ 64 ∷ 0 ∷ 172 ∷ 0 ∷ 192 ∷ 0 ∷ 172 ∷ 0 ∷ 0 ∷ 0 ∷ 168 ∷ 0 ∷ 0 ∷ 0 ∷ 52 ∷ 0 ∷ 64 ∷ 0 ∷ [])) ≡ Refused (told RowLayer 12 10)
  pub file_35 : tells (compile paired_file (7 ∷ 6 ∷ 4 ∷ 36 ∷ 16 ∷ 0 ∷ 7 ∷ 240 ∷ 144 ∷ 80 ∷ 0 ∷ 0 ∷ 144 ∷ 16 ∷ 0 ∷ 0 ∷ 64 ∷ 16 ∷ 0 ∷ 0 ∷ 96 ∷ 24 ∷ 0 ∷ 0 ∷ 0 ∷ 0 ∷ 0 ∷ 0 ∷ [])) ≡ Refused (told RowLayer 9 4)
  pub file_36 : tells (compile paired_file (8 ∷ 12 ∷ 2 ∷ 1 ∷ 16 ∷ 8 ∷ 0 ∷ 0 ∷ 16 ∷ 48 ∷ 0 ∷ 48 ∷ 16 ∷ 120 ∷ 0 ∷ 0 ∷ 144 ∷ 32 ∷ 0 ∷ 0 ∷ 144 ∷ 80 ∷ 0 ∷ 0 ∷ 16 ∷ 64 ∷ 0 ∷ 48 ∷ 48 ∷ 48 ∷ 195 ∷ 0 ∷ 48 ∷ 48 ∷ 195 ∷ 0 ∷ 160 ∷ 0 ∷ 128 ∷ 0 ∷ 32 ∷ 113 ∷ 192 ∷ 0 ∷ 48 ∷ 96 ∷ 130 ∷ 0 ∷ 0 ∷ 0 ∷ 0 ∷ 0 ∷ 204 ∷ [])) ≡ Refused (told BitLayer 2 0)
  pub file_37 : tells (compile paired_file (35 ∷ 5 ∷ 184 ∷ 0 ∷ 0 ∷ 1 ∷ 176 ∷ 0 ∷ 0 ∷ 2 ∷ 180 ∷ 0 ∷ 0 ∷ 3 ∷ 176 ∷ 0 ∷ 0 ∷ 4 ∷ 8 ∷ 0 ∷ 0 ∷ 0 ∷ [])) ≡ Refused (told BitLayer 1 0)
  pub file_38 : tells (compile paired_file (0 ∷ 1 ∷ 12 ∷ 0 ∷ 0 ∷ 64 ∷ [])) ≡ Refused (told RowLayer 8 0)
  pub file_39 : tells (compile paired_file (2 ∷ 4 ∷ 160 ∷ 16 ∷ 31 ∷ 255 ∷ 240 ∷ 16 ∷ 15 ∷ 255 ∷ 240 ∷ 96 ∷ 16 ∷ 0 ∷ 0 ∷ 176 ∷ 0 ∷ 0 ∷ 4 ∷ [])) ≡ Refused (told RowLayer 11 3)
  pub file_40 : tells (compile nested_file (4 ∷ 13 ∷ 29 ∷ 28 ∷ 0 ∷ 0 ∷ 128 ∷ 144 ∷ 48 ∷ 0 ∷ 0 ∷ 160 ∷ 0 ∷ 192 ∷ 0 ∷ 68 ∷ 0 ∷ 0 ∷ 0 ∷ 72 ∷ 48 ∷ 195 ∷ 0 ∷ 100 ∷ 16 ∷ 195 ∷ 0 ∷ 76 ∷ 16 ∷ 193 ∷ 0 ∷ 160 ∷ 0 ∷ 64 ∷ 0 ∷ 140 ∷ 0 ∷ 192 ∷ 0 ∷ 172 ∷ 0 ∷ 192 ∷ 0 ∷ 164 ∷ 0 ∷ 192 ∷ 0 ∷ 160 ∷ 0 ∷ 0 ∷ 0 ∷ 184 ∷ 0 ∷ 0 ∷ 7 ∷ [])) ≡ Refused (told BitLayer 5 2)

-- a rehearsal shows what the reference shows
pub record Rehearsals : Type 0 where
  pub rehearsal_0 : rehearse nested (17 ∷ 28 ∷ 85 ∷ 85 ∷ 85 ∷ 85 ∷ 64 ∷ 20 ∷ 127 ∷ 255 ∷ 240 ∷ 20 ∷ 48 ∷ 0 ∷ 144 ∷ 204 ∷ 1 ∷ 199 ∷ 0 ∷ 164 ∷ 1 ∷ 192 ∷ 0 ∷ 16 ∷ 136 ∷ 0 ∷ 0 ∷ 196 ∷ 1 ∷ 199 ∷ 1 ∷ 196 ∷ 1 ∷ 200 ∷ 6 ∷ 156 ∷ 64 ∷ 0 ∷ 0 ∷ 204 ∷ 1 ∷ 200 ∷ 7 ∷ 88 ∷ 177 ∷ 4 ∷ 0 ∷ 16 ∷ 192 ∷ 7 ∷ 240 ∷ 100 ∷ 193 ∷ 204 ∷ 0 ∷ 64 ∷ 49 ∷ 195 ∷ 0 ∷ 108 ∷ 241 ∷ 199 ∷ 0 ∷ 16 ∷ 184 ∷ 0 ∷ 0 ∷ 88 ∷ 18 ∷ 8 ∷ 0 ∷ 104 ∷ 227 ∷ 8 ∷ 0 ∷ 60 ∷ 97 ∷ 3 ∷ 0 ∷ 20 ∷ 128 ∷ 7 ∷ 240 ∷ 196 ∷ 0 ∷ 72 ∷ 9 ∷ 80 ∷ 146 ∷ 8 ∷ 0 ∷ 156 ∷ 208 ∷ 0 ∷ 0 ∷ 168 ∷ 3 ∷ 64 ∷ 0 ∷ 164 ∷ 3 ∷ 64 ∷ 0 ∷ 160 ∷ 3 ∷ 64 ∷ 0 ∷ 160 ∷ 0 ∷ 192 ∷ 0 ∷ 168 ∷ 1 ∷ 0 ∷ 0 ∷ 12 ∷ 0 ∷ 0 ∷ 0 ∷ []) (Restart (1 ∷ []) ∷ PlayCode 0 ∷ Restart (4294967295 ∷ 0 ∷ 1 ∷ 4294967295 ∷ 255 ∷ 0 ∷ 256 ∷ 256 ∷ 256 ∷ 65536 ∷ 1 ∷ 65536 ∷ 1 ∷ 0 ∷ 256 ∷ 0 ∷ 1 ∷ 256 ∷ 1 ∷ []) ∷ PlayCode 65536 ∷ PlayCode 4294967295 ∷ PlaySource 2 ∷ PlaySource 17 ∷ []) ≡ Shows (served 0 0 ∷ served 0 0 ∷ served 0 0 ∷ many_rows ∷ many_rows ∷ served 2 0 ∷ served 17 0 ∷ []) (65535 ∷ []) ([]) (34241 ∷ 2654418546 ∷ 1013966627 ∷ 3668351188 ∷ 34241 ∷ 13938 ∷ 59171 ∷ 39124 ∷ 193 ∷ 114 ∷ 35 ∷ 212 ∷ 133 ∷ 54 ∷ 231 ∷ 152 ∷ []) (7 ∷ 40510 ∷ 81013 ∷ 121516 ∷ 162019 ∷ 202522 ∷ 243025 ∷ 283528 ∷ 324031 ∷ 364534 ∷ 405037 ∷ 445540 ∷ 486043 ∷ 526546 ∷ 567049 ∷ 607552 ∷ 648055 ∷ 688558 ∷ 729061 ∷ 769564 ∷ 810067 ∷ 850570 ∷ 891073 ∷ 931576 ∷ 972079 ∷ 1012582 ∷ 1053085 ∷ 1093588 ∷ 1134091 ∷ 1174594 ∷ 1215097 ∷ 1255600 ∷ 1296103 ∷ 1336606 ∷ 1377109 ∷ 1417612 ∷ 1458115 ∷ 1498618 ∷ 1539121 ∷ 1579624 ∷ 1620127 ∷ 1660630 ∷ 1701133 ∷ 1741636 ∷ 1782139 ∷ 1822642 ∷ 1863145 ∷ 1903648 ∷ 1944151 ∷ 1984654 ∷ 2025157 ∷ 2065660 ∷ 2106163 ∷ 2146666 ∷ 2187169 ∷ 2227672 ∷ 2268175 ∷ 2308678 ∷ 2349181 ∷ 2389684 ∷ 2430187 ∷ 2470690 ∷ 2511193 ∷ 2551696 ∷ [])
  pub rehearsal_1 : rehearse paired (6 ∷ 19 ∷ 150 ∷ 160 ∷ 144 ∷ 48 ∷ 0 ∷ 0 ∷ 16 ∷ 32 ∷ 0 ∷ 80 ∷ 144 ∷ 64 ∷ 0 ∷ 0 ∷ 144 ∷ 0 ∷ 0 ∷ 0 ∷ 16 ∷ 80 ∷ 7 ∷ 240 ∷ 16 ∷ 16 ∷ 0 ∷ 128 ∷ 96 ∷ 81 ∷ 3 ∷ 0 ∷ 64 ∷ 1 ∷ 4 ∷ 0 ∷ 32 ∷ 80 ∷ 0 ∷ 0 ∷ 96 ∷ 48 ∷ 196 ∷ 0 ∷ 144 ∷ 80 ∷ 0 ∷ 0 ∷ 48 ∷ 1 ∷ 5 ∷ 0 ∷ 32 ∷ 0 ∷ 192 ∷ 0 ∷ 32 ∷ 0 ∷ 192 ∷ 0 ∷ 160 ∷ 1 ∷ 64 ∷ 0 ∷ 160 ∷ 0 ∷ 0 ∷ 0 ∷ 160 ∷ 0 ∷ 128 ∷ 0 ∷ 160 ∷ 0 ∷ 192 ∷ 0 ∷ 0 ∷ 0 ∷ 0 ∷ 0 ∷ []) (PlaySource 70000 ∷ Restart (0 ∷ 3 ∷ 3 ∷ 1 ∷ 2 ∷ 3 ∷ 2 ∷ 1 ∷ 1 ∷ 2 ∷ []) ∷ PlaySource 34 ∷ Restart (range 65536 0) ∷ PlayCode 3 ∷ PlaySource 1 ∷ PlaySource 65535 ∷ PlaySource 4000 ∷ []) ≡ Shows (many_rows ∷ served 0 0 ∷ served 19 1 ∷ long_input ∷ served 3 0 ∷ served 0 1 ∷ served 0 1 ∷ served 0 1 ∷ []) (1 ∷ 3 ∷ 5 ∷ 3 ∷ []) ([]) (5 ∷ 2655 ∷ 0 ∷ 0 ∷ 61883 ∷ 64961 ∷ 330335 ∷ 0 ∷ 4055629249 ∷ []) (5 ∷ 40510 ∷ 81013 ∷ 121516 ∷ 162019 ∷ 202522 ∷ 243025 ∷ 283528 ∷ 324031 ∷ 364534 ∷ 405037 ∷ 445540 ∷ 486043 ∷ 526546 ∷ 567049 ∷ 607552 ∷ 648055 ∷ 688558 ∷ 729061 ∷ 769564 ∷ 810067 ∷ 850570 ∷ 891073 ∷ 931576 ∷ 972079 ∷ 1012582 ∷ 1053085 ∷ 1093588 ∷ 1134091 ∷ 1174594 ∷ 1215097 ∷ 1255600 ∷ 1296103 ∷ 1336606 ∷ 1377109 ∷ 1417612 ∷ 1458115 ∷ 1498618 ∷ 1539121 ∷ 1579624 ∷ 1620127 ∷ 1660630 ∷ 1701133 ∷ 1741636 ∷ 1782139 ∷ 1822642 ∷ 1863145 ∷ 1903648 ∷ 1944151 ∷ 1984654 ∷ 2025157 ∷ 2065660 ∷ 2106163 ∷ 2146666 ∷ 2187169 ∷ 2227672 ∷ 2268175 ∷ 2308678 ∷ 2349181 ∷ 2389684 ∷ 2430187 ∷ 2470690 ∷ 2511193 ∷ 2551696 ∷ [])
  pub rehearsal_2 : rehearse nested (6 ∷ 16 ∷ 106 ∷ 160 ∷ 16 ∷ 0 ∷ 15 ∷ 240 ∷ 144 ∷ 32 ∷ 0 ∷ 0 ∷ 16 ∷ 16 ∷ 16 ∷ 0 ∷ 144 ∷ 64 ∷ 0 ∷ 0 ∷ 16 ∷ 80 ∷ 0 ∷ 80 ∷ 144 ∷ 48 ∷ 0 ∷ 0 ∷ 160 ∷ 0 ∷ 0 ∷ 0 ∷ 80 ∷ 33 ∷ 4 ∷ 0 ∷ 80 ∷ 0 ∷ 0 ∷ 0 ∷ 160 ∷ 0 ∷ 192 ∷ 0 ∷ 160 ∷ 1 ∷ 0 ∷ 0 ∷ 160 ∷ 0 ∷ 192 ∷ 0 ∷ 160 ∷ 1 ∷ 64 ∷ 0 ∷ 160 ∷ 0 ∷ 192 ∷ 0 ∷ 160 ∷ 0 ∷ 192 ∷ 0 ∷ 0 ∷ 0 ∷ 0 ∷ 0 ∷ []) (PlaySource 65536 ∷ Restart (0 ∷ 2 ∷ 4 ∷ 3 ∷ 0 ∷ 4 ∷ 4 ∷ 0 ∷ 3 ∷ 0 ∷ 4 ∷ 0 ∷ 0 ∷ 0 ∷ 3 ∷ 1 ∷ 4 ∷ 3 ∷ []) ∷ PlaySource 65535 ∷ PlayCode 65535 ∷ []) ≡ Shows (many_rows ∷ served 0 0 ∷ served 16 1 ∷ served 20 1 ∷ []) (255 ∷ 4 ∷ 2 ∷ 4 ∷ 5 ∷ 4 ∷ 4 ∷ []) (255 ∷ 4 ∷ 2 ∷ 4 ∷ 5 ∷ 4 ∷ 4 ∷ []) (5 ∷ 2 ∷ 4 ∷ 3668312319 ∷ 5 ∷ 2 ∷ 4 ∷ 255 ∷ 5 ∷ 2 ∷ 4 ∷ 255 ∷ 0 ∷ 0 ∷ 0 ∷ 0 ∷ []) (2 ∷ 5 ∷ 81013 ∷ 121516 ∷ 162019 ∷ 202522 ∷ 243025 ∷ 283528 ∷ 324031 ∷ 364534 ∷ 405037 ∷ 445540 ∷ 486043 ∷ 526546 ∷ 567049 ∷ 607552 ∷ 648055 ∷ 688558 ∷ 729061 ∷ 769564 ∷ 810067 ∷ 850570 ∷ 891073 ∷ 931576 ∷ 972079 ∷ 1012582 ∷ 1053085 ∷ 1093588 ∷ 1134091 ∷ 1174594 ∷ 1215097 ∷ 1255600 ∷ 1296103 ∷ 1336606 ∷ 1377109 ∷ 1417612 ∷ 1458115 ∷ 1498618 ∷ 1539121 ∷ 1579624 ∷ 1620127 ∷ 1660630 ∷ 1701133 ∷ 1741636 ∷ 1782139 ∷ 1822642 ∷ 1863145 ∷ 1903648 ∷ 1944151 ∷ 1984654 ∷ 2025157 ∷ 2065660 ∷ 2106163 ∷ 2146666 ∷ 2187169 ∷ 2227672 ∷ 2268175 ∷ 2308678 ∷ 2349181 ∷ 2389684 ∷ 2430187 ∷ 2470690 ∷ 2511193 ∷ 2551696 ∷ [])
  pub rehearsal_3 : rehearse paired (7 ∷ 17 ∷ 66 ∷ 136 ∷ 16 ∷ 47 ∷ 255 ∷ 240 ∷ 24 ∷ 16 ∷ 0 ∷ 80 ∷ 152 ∷ 96 ∷ 0 ∷ 0 ∷ 24 ∷ 48 ∷ 0 ∷ 32 ∷ 28 ∷ 80 ∷ 0 ∷ 96 ∷ 152 ∷ 64 ∷ 0 ∷ 0 ∷ 24 ∷ 0 ∷ 7 ∷ 240 ∷ 64 ∷ 16 ∷ 69 ∷ 0 ∷ 76 ∷ 96 ∷ 196 ∷ 0 ∷ 88 ∷ 16 ∷ 69 ∷ 0 ∷ 88 ∷ 97 ∷ 134 ∷ 0 ∷ 164 ∷ 1 ∷ 64 ∷ 0 ∷ 164 ∷ 0 ∷ 64 ∷ 0 ∷ 160 ∷ 1 ∷ 0 ∷ 0 ∷ 172 ∷ 1 ∷ 128 ∷ 0 ∷ 164 ∷ 0 ∷ 128 ∷ 0 ∷ 4 ∷ 0 ∷ 0 ∷ 0 ∷ []) (PlaySource 70000 ∷ Restart (range 257 0) ∷ PlayCode 500 ∷ PlayCode 500 ∷ Restart (3 ∷ 4 ∷ 1 ∷ 1 ∷ 4 ∷ 4 ∷ 3 ∷ 0 ∷ 4 ∷ 0 ∷ 2 ∷ 1 ∷ 3 ∷ 3 ∷ 2 ∷ 3 ∷ 1 ∷ 3 ∷ 1 ∷ 3 ∷ 2 ∷ 3 ∷ 4 ∷ 3 ∷ 2 ∷ 1 ∷ 3 ∷ 3 ∷ 2 ∷ 2 ∷ 4 ∷ 3 ∷ 4 ∷ 1 ∷ 0 ∷ 2 ∷ 2 ∷ 4 ∷ 4 ∷ 3 ∷ 2 ∷ 2 ∷ 3 ∷ 3 ∷ 1 ∷ 0 ∷ 1 ∷ 3 ∷ 0 ∷ 1 ∷ 3 ∷ 2 ∷ 0 ∷ 1 ∷ 1 ∷ 3 ∷ 3 ∷ 1 ∷ 3 ∷ 2 ∷ 0 ∷ 0 ∷ 2 ∷ 2 ∷ 0 ∷ 4 ∷ 2 ∷ 2 ∷ 2 ∷ 2 ∷ 1 ∷ 0 ∷ 3 ∷ 0 ∷ 1 ∷ 3 ∷ 1 ∷ 1 ∷ 0 ∷ 1 ∷ 1 ∷ 1 ∷ 3 ∷ 4 ∷ 1 ∷ 2 ∷ 1 ∷ 3 ∷ 1 ∷ 3 ∷ 2 ∷ 0 ∷ 2 ∷ 4 ∷ 2 ∷ 4 ∷ 3 ∷ 1 ∷ 3 ∷ 0 ∷ 0 ∷ 2 ∷ 0 ∷ 3 ∷ 3 ∷ 2 ∷ 3 ∷ 4 ∷ 4 ∷ 4 ∷ 0 ∷ 1 ∷ 4 ∷ 1 ∷ 4 ∷ 3 ∷ 0 ∷ 1 ∷ 2 ∷ 0 ∷ 4 ∷ 3 ∷ 4 ∷ 2 ∷ 3 ∷ 4 ∷ 4 ∷ 1 ∷ 1 ∷ 2 ∷ 4 ∷ 0 ∷ 4 ∷ 0 ∷ 4 ∷ 1 ∷ 3 ∷ 0 ∷ 2 ∷ 3 ∷ 0 ∷ 2 ∷ 4 ∷ 3 ∷ 0 ∷ 0 ∷ 2 ∷ 4 ∷ 4 ∷ 4 ∷ 2 ∷ 2 ∷ 4 ∷ 1 ∷ 1 ∷ 2 ∷ 2 ∷ 2 ∷ 3 ∷ 4 ∷ 1 ∷ 2 ∷ 4 ∷ 1 ∷ 1 ∷ 2 ∷ 2 ∷ 4 ∷ 1 ∷ 1 ∷ 1 ∷ 3 ∷ 1 ∷ 0 ∷ 2 ∷ 2 ∷ 0 ∷ 3 ∷ 2 ∷ 3 ∷ 2 ∷ 4 ∷ 4 ∷ 3 ∷ 2 ∷ 1 ∷ 4 ∷ 4 ∷ 1 ∷ 0 ∷ 4 ∷ 3 ∷ 2 ∷ 0 ∷ 3 ∷ 0 ∷ 2 ∷ 1 ∷ 3 ∷ 0 ∷ 1 ∷ 4 ∷ 1 ∷ 3 ∷ 2 ∷ 1 ∷ 1 ∷ 2 ∷ 4 ∷ 2 ∷ 3 ∷ 1 ∷ 1 ∷ 0 ∷ 2 ∷ 3 ∷ 2 ∷ 3 ∷ 3 ∷ 4 ∷ 0 ∷ 2 ∷ 3 ∷ 2 ∷ 0 ∷ 1 ∷ 0 ∷ 3 ∷ 0 ∷ 1 ∷ 3 ∷ 1 ∷ 1 ∷ 3 ∷ 1 ∷ 2 ∷ 0 ∷ 4 ∷ 1 ∷ 1 ∷ 3 ∷ 1 ∷ 1 ∷ 1 ∷ 2 ∷ 3 ∷ 1 ∷ 0 ∷ 0 ∷ 2 ∷ 0 ∷ 1 ∷ 1 ∷ 0 ∷ 2 ∷ 3 ∷ []) ∷ PlaySource 65535 ∷ PlaySource 1 ∷ PlayCode 1 ∷ PlayCode 36 ∷ Restart (152627867 ∷ 2223607362 ∷ 1631803176 ∷ 3482478570 ∷ 2498345936 ∷ 199054836 ∷ 253741182 ∷ 1079491098 ∷ 2665718366 ∷ 902203337 ∷ 3955267281 ∷ 3857304069 ∷ 3055713719 ∷ 3124464276 ∷ 2138707646 ∷ 2789924082 ∷ 3863971853 ∷ 757177852 ∷ 4169667997 ∷ 3674246495 ∷ 4083750592 ∷ 3462670515 ∷ 847667771 ∷ 1599083758 ∷ 99091385 ∷ 1070444950 ∷ 1392792489 ∷ 2046145471 ∷ 3973101540 ∷ 3937625557 ∷ 942745943 ∷ 3665419396 ∷ 2240850195 ∷ 3228332084 ∷ 836568948 ∷ 825039006 ∷ 1751820059 ∷ 411743067 ∷ 2246228777 ∷ 3963737941 ∷ 364995008 ∷ 1031548552 ∷ 1661820370 ∷ 443191016 ∷ 2742335192 ∷ 2748769000 ∷ 1569408291 ∷ 688699768 ∷ 3684009009 ∷ 2225154406 ∷ 3520472147 ∷ 3145305792 ∷ 349860512 ∷ 544987422 ∷ 3528074585 ∷ 2646637260 ∷ 3188712714 ∷ 3511320720 ∷ 3821167917 ∷ 2795622053 ∷ 3263758578 ∷ 4185259534 ∷ 2110301380 ∷ 612218050 ∷ 4195914501 ∷ 3193849534 ∷ 1945706496 ∷ 2761868677 ∷ 3790689844 ∷ 2607038616 ∷ 1588641329 ∷ 2269653581 ∷ 1896256857 ∷ 3870891639 ∷ 563595587 ∷ 4163906372 ∷ 1031608444 ∷ 285891 ∷ 4068698067 ∷ 2803379713 ∷ 550118013 ∷ 877183391 ∷ 4277486157 ∷ 1729497575 ∷ 2852435754 ∷ 2306085217 ∷ 457890953 ∷ 2389041230 ∷ 787589146 ∷ 4152077294 ∷ 4024117454 ∷ 3218451182 ∷ 1308580042 ∷ 1903638459 ∷ 952812242 ∷ 2103812434 ∷ 4034553422 ∷ 3339491267 ∷ 3743851072 ∷ 2571994979 ∷ 3994693184 ∷ 3266315491 ∷ 984440929 ∷ 2036181473 ∷ 2009603302 ∷ 1699092897 ∷ 3224441562 ∷ 2364329415 ∷ 2651991544 ∷ 3353266954 ∷ 1235579066 ∷ 650807308 ∷ 4068003836 ∷ 1253545783 ∷ 1067585804 ∷ 764146790 ∷ 98788541 ∷ 944116990 ∷ 478985823 ∷ 2671931405 ∷ 1028329100 ∷ 4149795384 ∷ 1352054188 ∷ 758302274 ∷ 1117363379 ∷ 1013518662 ∷ 2964946258 ∷ 4252215461 ∷ 636742358 ∷ 425312520 ∷ 1826064513 ∷ 1455290099 ∷ 3302440494 ∷ 697518669 ∷ 1277519508 ∷ 842448322 ∷ 2354965453 ∷ 3236123311 ∷ 882602587 ∷ 2191458490 ∷ 1259420139 ∷ 757207320 ∷ 700063851 ∷ 2013136827 ∷ 3971427820 ∷ 4054499114 ∷ 2092510769 ∷ 77250512 ∷ 3944674218 ∷ 1904003398 ∷ 1709302847 ∷ 2489718890 ∷ 2042548553 ∷ 1279574105 ∷ 2552185324 ∷ 1745301223 ∷ 1550150426 ∷ 2924441783 ∷ 3746314067 ∷ 1505055376 ∷ 2494647243 ∷ 1985832205 ∷ 3504934481 ∷ 1850418528 ∷ 3172977078 ∷ 838085352 ∷ 458988872 ∷ 3945114587 ∷ 3928719569 ∷ 269591416 ∷ 4053166156 ∷ 2641680029 ∷ 1760256089 ∷ 3498223306 ∷ 259153869 ∷ 4002482024 ∷ 1647326590 ∷ 3150076747 ∷ 3989967091 ∷ 3174722707 ∷ 3332275172 ∷ 394969513 ∷ 2270286056 ∷ 225839101 ∷ 3947239404 ∷ 1544171203 ∷ 1845958465 ∷ 1277867661 ∷ 2768450758 ∷ 318358117 ∷ 1731822506 ∷ 2122327087 ∷ 2585585349 ∷ 3777626786 ∷ 3295105716 ∷ 385738429 ∷ 4048216649 ∷ 2986586107 ∷ 136816916 ∷ 2882297457 ∷ 3567104074 ∷ 3110640023 ∷ 2770519762 ∷ 2969039574 ∷ 2063854860 ∷ 3050338524 ∷ 1702691417 ∷ 1062461330 ∷ 2252029117 ∷ 1587288296 ∷ 2961387597 ∷ 3943873125 ∷ 3630710585 ∷ 1318983520 ∷ 2775324 ∷ 2338983045 ∷ 830255846 ∷ 492946660 ∷ 1973811895 ∷ 2896627845 ∷ 617882837 ∷ 468025385 ∷ 3594163447 ∷ 1584461159 ∷ 433571783 ∷ 3719804117 ∷ 1632587905 ∷ 1514638154 ∷ 3931941815 ∷ 3460416834 ∷ 2785197010 ∷ 3763468370 ∷ 3817897 ∷ 3107728390 ∷ 2869416772 ∷ 4097361353 ∷ 1085874502 ∷ 3426012517 ∷ 910154657 ∷ 2704812566 ∷ 420901881 ∷ 4109336489 ∷ 3140170890 ∷ 1232852440 ∷ 499837439 ∷ 3666320217 ∷ 733300628 ∷ 4052890089 ∷ 3486155567 ∷ 1864454029 ∷ 400318670 ∷ 3179902448 ∷ 1509981917 ∷ 3666172155 ∷ 831796457 ∷ 69799836 ∷ []) ∷ PlaySource 4294967295 ∷ PlaySource 65535 ∷ []) ≡ Shows (many_rows ∷ long_input ∷ served 5 2 ∷ served 0 2 ∷ served 0 0 ∷ served 17 1 ∷ served 0 1 ∷ served 1 0 ∷ served 25 1 ∷ served 0 0 ∷ many_rows ∷ served 17 1 ∷ []) (6 ∷ 6 ∷ 2223607362 ∷ 2071359936 ∷ 255 ∷ []) ([]) (255 ∷ 6 ∷ 65535 ∷ 65534 ∷ 0 ∷ 4 ∷ 16711686 ∷ 4294967294 ∷ 4 ∷ []) (127 ∷ 255 ∷ 6 ∷ 121516 ∷ 162019 ∷ 202522 ∷ 243025 ∷ 283528 ∷ 324031 ∷ 364534 ∷ 405037 ∷ 445540 ∷ 486043 ∷ 526546 ∷ 567049 ∷ 607552 ∷ 648055 ∷ 688558 ∷ 729061 ∷ 769564 ∷ 810067 ∷ 850570 ∷ 891073 ∷ 931576 ∷ 972079 ∷ 1012582 ∷ 1053085 ∷ 1093588 ∷ 1134091 ∷ 1174594 ∷ 1215097 ∷ 1255600 ∷ 1296103 ∷ 1336606 ∷ 1377109 ∷ 1417612 ∷ 1458115 ∷ 1498618 ∷ 1539121 ∷ 1579624 ∷ 1620127 ∷ 1660630 ∷ 1701133 ∷ 1741636 ∷ 1782139 ∷ 1822642 ∷ 1863145 ∷ 1903648 ∷ 1944151 ∷ 1984654 ∷ 2025157 ∷ 2065660 ∷ 2106163 ∷ 2146666 ∷ 2187169 ∷ 2227672 ∷ 2268175 ∷ 2308678 ∷ 2349181 ∷ 2389684 ∷ 2430187 ∷ 2470690 ∷ 2511193 ∷ 2551696 ∷ [])
  pub rehearsal_4 : rehearse nested (6 ∷ 19 ∷ 85 ∷ 80 ∷ 24 ∷ 0 ∷ 15 ∷ 240 ∷ 16 ∷ 64 ∷ 0 ∷ 112 ∷ 144 ∷ 16 ∷ 0 ∷ 0 ∷ 20 ∷ 63 ∷ 255 ∷ 240 ∷ 28 ∷ 80 ∷ 0 ∷ 32 ∷ 24 ∷ 32 ∷ 7 ∷ 240 ∷ 164 ∷ 1 ∷ 0 ∷ 0 ∷ 48 ∷ 65 ∷ 1 ∷ 0 ∷ 172 ∷ 1 ∷ 0 ∷ 0 ∷ 40 ∷ 48 ∷ 64 ∷ 0 ∷ 60 ∷ 80 ∷ 68 ∷ 0 ∷ 80 ∷ 0 ∷ 130 ∷ 0 ∷ 56 ∷ 48 ∷ 196 ∷ 0 ∷ 172 ∷ 0 ∷ 64 ∷ 0 ∷ 204 ∷ 1 ∷ 0 ∷ 0 ∷ 56 ∷ 16 ∷ 65 ∷ 0 ∷ 172 ∷ 1 ∷ 0 ∷ 0 ∷ 172 ∷ 0 ∷ 128 ∷ 0 ∷ 12 ∷ 0 ∷ 0 ∷ 0 ∷ []) (Restart (0 ∷ 65535 ∷ 0 ∷ 65535 ∷ 256 ∷ 256 ∷ 0 ∷ 255 ∷ 65535 ∷ 65535 ∷ 256 ∷ 4294967295 ∷ 4294967295 ∷ 0 ∷ 256 ∷ 0 ∷ 65536 ∷ 65536 ∷ 65535 ∷ 65536 ∷ 4294967295 ∷ 255 ∷ 65535 ∷ 255 ∷ 4294967295 ∷ 255 ∷ 255 ∷ 1 ∷ 1 ∷ 4294967295 ∷ 65536 ∷ 256 ∷ 0 ∷ 1 ∷ 0 ∷ 255 ∷ 65535 ∷ 65536 ∷ 4294967295 ∷ 256 ∷ 255 ∷ 256 ∷ 255 ∷ 1 ∷ 1 ∷ 256 ∷ 65535 ∷ 4294967295 ∷ 256 ∷ 256 ∷ 0 ∷ 65535 ∷ 256 ∷ 0 ∷ 256 ∷ 0 ∷ 255 ∷ 256 ∷ 255 ∷ 255 ∷ 256 ∷ 0 ∷ 1 ∷ 65536 ∷ 1 ∷ 0 ∷ 1 ∷ 65536 ∷ 256 ∷ 65536 ∷ 255 ∷ 65535 ∷ 0 ∷ 1 ∷ 0 ∷ 255 ∷ 4294967295 ∷ 4294967295 ∷ 65535 ∷ 65535 ∷ 65536 ∷ 1 ∷ 65536 ∷ 4294967295 ∷ 65535 ∷ 0 ∷ 256 ∷ 65535 ∷ 256 ∷ 65535 ∷ 0 ∷ 65536 ∷ 65535 ∷ 65536 ∷ 1 ∷ 256 ∷ 256 ∷ 1 ∷ 0 ∷ 65535 ∷ 0 ∷ 4294967295 ∷ 65536 ∷ 255 ∷ 65535 ∷ 4294967295 ∷ 4294967295 ∷ 4294967295 ∷ 255 ∷ 4294967295 ∷ 255 ∷ 4294967295 ∷ 65535 ∷ 255 ∷ 4294967295 ∷ 65535 ∷ 256 ∷ 256 ∷ 65535 ∷ 1 ∷ 4294967295 ∷ 65536 ∷ 65535 ∷ 255 ∷ 4294967295 ∷ 1 ∷ 65536 ∷ 0 ∷ 65535 ∷ 1 ∷ 1 ∷ 0 ∷ 0 ∷ 256 ∷ 1 ∷ 1 ∷ 0 ∷ 4294967295 ∷ 255 ∷ 255 ∷ 65535 ∷ 65536 ∷ 4294967295 ∷ 65535 ∷ 65536 ∷ 65535 ∷ 1 ∷ 255 ∷ 0 ∷ 0 ∷ 255 ∷ 256 ∷ 256 ∷ 256 ∷ 255 ∷ 4294967295 ∷ 65536 ∷ 0 ∷ 0 ∷ 65536 ∷ 1 ∷ 255 ∷ 1 ∷ 65535 ∷ 65536 ∷ 256 ∷ 0 ∷ 1 ∷ 65535 ∷ 255 ∷ 65535 ∷ 65535 ∷ 65535 ∷ 65536 ∷ 65536 ∷ 0 ∷ 65536 ∷ 255 ∷ 256 ∷ 255 ∷ 1 ∷ 1 ∷ 65535 ∷ 65536 ∷ 0 ∷ 0 ∷ 256 ∷ 65535 ∷ 1 ∷ 65535 ∷ 65536 ∷ 0 ∷ 4294967295 ∷ 0 ∷ 255 ∷ 255 ∷ 255 ∷ 4294967295 ∷ 256 ∷ 255 ∷ 255 ∷ 4294967295 ∷ 1 ∷ 256 ∷ 65535 ∷ 0 ∷ 65536 ∷ 4294967295 ∷ 1 ∷ 1 ∷ 4294967295 ∷ 4294967295 ∷ 0 ∷ 256 ∷ 255 ∷ 255 ∷ 256 ∷ 255 ∷ 255 ∷ 65535 ∷ 65536 ∷ 1 ∷ 65536 ∷ 1 ∷ 256 ∷ 4294967295 ∷ 0 ∷ 0 ∷ 1 ∷ 65535 ∷ 4294967295 ∷ 4294967295 ∷ 256 ∷ 256 ∷ 65536 ∷ 1 ∷ 65536 ∷ 1 ∷ 1 ∷ 256 ∷ 4294967295 ∷ 0 ∷ 255 ∷ 1 ∷ 4294967295 ∷ 4294967295 ∷ 65535 ∷ 0 ∷ 65535 ∷ 0 ∷ 1 ∷ 256 ∷ 0 ∷ 1 ∷ 65536 ∷ 0 ∷ []) ∷ PlaySource 7 ∷ Restart (65536 ∷ 1 ∷ 256 ∷ 65536 ∷ 0 ∷ 65536 ∷ 4294967295 ∷ 4294967295 ∷ 1 ∷ 65536 ∷ 65535 ∷ 255 ∷ 4294967295 ∷ 255 ∷ 1 ∷ []) ∷ PlayCode 3 ∷ PlaySource 4000 ∷ PlaySource 3 ∷ PlayCode 70000 ∷ PlaySource 25 ∷ []) ≡ Shows (served 0 0 ∷ served 7 0 ∷ served 0 0 ∷ served 3 0 ∷ served 49 1 ∷ served 0 1 ∷ many_rows ∷ served 0 1 ∷ []) (7 ∷ 7 ∷ 0 ∷ 7 ∷ 8 ∷ 1 ∷ 7 ∷ 263 ∷ 256 ∷ 263 ∷ 127 ∷ []) ([]) (255 ∷ 2654404615 ∷ 1013966627 ∷ 3668351188 ∷ 255 ∷ 7 ∷ 59171 ∷ 39124 ∷ 255 ∷ 7 ∷ 35 ∷ 212 ∷ 0 ∷ 0 ∷ 231 ∷ 152 ∷ []) (7 ∷ 255 ∷ 81013 ∷ 121516 ∷ 162019 ∷ 202522 ∷ 243025 ∷ 283528 ∷ 324031 ∷ 364534 ∷ 405037 ∷ 445540 ∷ 486043 ∷ 526546 ∷ 567049 ∷ 607552 ∷ 648055 ∷ 688558 ∷ 729061 ∷ 769564 ∷ 810067 ∷ 850570 ∷ 891073 ∷ 931576 ∷ 972079 ∷ 1012582 ∷ 1053085 ∷ 1093588 ∷ 1134091 ∷ 1174594 ∷ 1215097 ∷ 1255600 ∷ 1296103 ∷ 1336606 ∷ 1377109 ∷ 1417612 ∷ 1458115 ∷ 1498618 ∷ 1539121 ∷ 1579624 ∷ 1620127 ∷ 1660630 ∷ 1701133 ∷ 1741636 ∷ 1782139 ∷ 1822642 ∷ 1863145 ∷ 1903648 ∷ 1944151 ∷ 1984654 ∷ 2025157 ∷ 2065660 ∷ 2106163 ∷ 2146666 ∷ 2187169 ∷ 2227672 ∷ 2268175 ∷ 2308678 ∷ 2349181 ∷ 2389684 ∷ 2430187 ∷ 2470690 ∷ 2511193 ∷ 2551696 ∷ [])
  pub rehearsal_5 : rehearse paired (5 ∷ 12 ∷ 38 ∷ 128 ∷ 16 ∷ 64 ∷ 0 ∷ 48 ∷ 16 ∷ 48 ∷ 7 ∷ 240 ∷ 16 ∷ 47 ∷ 255 ∷ 240 ∷ 16 ∷ 0 ∷ 0 ∷ 96 ∷ 16 ∷ 31 ∷ 255 ∷ 240 ∷ 80 ∷ 16 ∷ 195 ∷ 0 ∷ 64 ∷ 64 ∷ 193 ∷ 0 ∷ 64 ∷ 17 ∷ 1 ∷ 0 ∷ 48 ∷ 48 ∷ 67 ∷ 0 ∷ 160 ∷ 0 ∷ 0 ∷ 0 ∷ 160 ∷ 0 ∷ 128 ∷ 0 ∷ 0 ∷ 0 ∷ 0 ∷ 0 ∷ []) (Restart (0 ∷ 2 ∷ 2 ∷ 0 ∷ 3 ∷ []) ∷ PlayCode 70000 ∷ PlaySource 37 ∷ PlaySource 26 ∷ Restart (2 ∷ 4 ∷ 0 ∷ 4 ∷ 4 ∷ 3 ∷ 4 ∷ 0 ∷ 3 ∷ 2 ∷ []) ∷ PlayCode 65536 ∷ PlaySource 29 ∷ PlayCode 4000 ∷ PlaySource 65535 ∷ []) ≡ Shows (served 0 0 ∷ many_rows ∷ served 12 1 ∷ served 0 1 ∷ served 0 0 ∷ many_rows ∷ served 12 1 ∷ served 16 1 ∷ served 0 1 ∷ []) (6 ∷ 65535 ∷ []) (6 ∷ 65535 ∷ []) (65535 ∷ 0 ∷ 0 ∷ 0 ∷ 65535 ∷ 65409 ∷ 4294901760 ∷ 0 ∷ 4294967169 ∷ []) (6 ∷ 65535 ∷ 81013 ∷ 121516 ∷ 162019 ∷ 202522 ∷ 243025 ∷ 283528 ∷ 324031 ∷ 364534 ∷ 405037 ∷ 445540 ∷ 486043 ∷ 526546 ∷ 567049 ∷ 607552 ∷ 648055 ∷ 688558 ∷ 729061 ∷ 769564 ∷ 810067 ∷ 850570 ∷ 891073 ∷ 931576 ∷ 972079 ∷ 1012582 ∷ 1053085 ∷ 1093588 ∷ 1134091 ∷ 1174594 ∷ 1215097 ∷ 1255600 ∷ 1296103 ∷ 1336606 ∷ 1377109 ∷ 1417612 ∷ 1458115 ∷ 1498618 ∷ 1539121 ∷ 1579624 ∷ 1620127 ∷ 1660630 ∷ 1701133 ∷ 1741636 ∷ 1782139 ∷ 1822642 ∷ 1863145 ∷ 1903648 ∷ 1944151 ∷ 1984654 ∷ 2025157 ∷ 2065660 ∷ 2106163 ∷ 2146666 ∷ 2187169 ∷ 2227672 ∷ 2268175 ∷ 2308678 ∷ 2349181 ∷ 2389684 ∷ 2430187 ∷ 2470690 ∷ 2511193 ∷ 2551696 ∷ [])
  pub rehearsal_6 : rehearse nested (5 ∷ 10 ∷ 154 ∷ 64 ∷ 152 ∷ 48 ∷ 0 ∷ 0 ∷ 28 ∷ 32 ∷ 0 ∷ 0 ∷ 24 ∷ 0 ∷ 0 ∷ 64 ∷ 20 ∷ 64 ∷ 16 ∷ 0 ∷ 152 ∷ 16 ∷ 0 ∷ 0 ∷ 60 ∷ 0 ∷ 3 ∷ 0 ∷ 192 ∷ 0 ∷ 2 ∷ 7 ∷ 160 ∷ 0 ∷ 0 ∷ 0 ∷ 160 ∷ 1 ∷ 0 ∷ 0 ∷ 8 ∷ 0 ∷ 0 ∷ 0 ∷ []) (Restart (2 ∷ []) ∷ PlaySource 4000 ∷ PlayCode 26 ∷ PlaySource 3 ∷ PlaySource 65535 ∷ Restart (4294967295 ∷ 65535 ∷ 255 ∷ 255 ∷ 1 ∷ 256 ∷ 65536 ∷ 65536 ∷ 256 ∷ 1 ∷ 255 ∷ 65535 ∷ 255 ∷ 65535 ∷ 4294967295 ∷ 255 ∷ 256 ∷ 1 ∷ 65536 ∷ 255 ∷ 255 ∷ 255 ∷ 65536 ∷ 256 ∷ 4294967295 ∷ 256 ∷ 0 ∷ 255 ∷ 1 ∷ []) ∷ PlayCode 65535 ∷ PlayCode 3 ∷ PlayCode 2 ∷ PlayCode 1 ∷ Restart (range 257 0) ∷ PlayCode 3 ∷ PlaySource 4000 ∷ PlayCode 4294967295 ∷ PlaySource 4294967295 ∷ []) ≡ Shows (served 0 0 ∷ served 5 2 ∷ served 6 2 ∷ served 0 2 ∷ served 0 2 ∷ served 0 0 ∷ served 12 1 ∷ served 0 1 ∷ served 0 1 ∷ served 0 1 ∷ long_input ∷ served 0 1 ∷ served 10 1 ∷ many_rows ∷ many_rows ∷ []) (3 ∷ 256 ∷ []) (3 ∷ 256 ∷ []) (256 ∷ 4294967295 ∷ 0 ∷ 3 ∷ 256 ∷ 65535 ∷ 0 ∷ 3 ∷ 0 ∷ 255 ∷ 0 ∷ 3 ∷ 1 ∷ 255 ∷ 0 ∷ 0 ∷ []) (256 ∷ 40510 ∷ 81013 ∷ 121516 ∷ 162019 ∷ 202522 ∷ 243025 ∷ 283528 ∷ 324031 ∷ 364534 ∷ 405037 ∷ 445540 ∷ 486043 ∷ 526546 ∷ 567049 ∷ 607552 ∷ 648055 ∷ 688558 ∷ 729061 ∷ 769564 ∷ 810067 ∷ 850570 ∷ 891073 ∷ 931576 ∷ 972079 ∷ 1012582 ∷ 1053085 ∷ 1093588 ∷ 1134091 ∷ 1174594 ∷ 1215097 ∷ 1255600 ∷ 1296103 ∷ 1336606 ∷ 1377109 ∷ 1417612 ∷ 1458115 ∷ 1498618 ∷ 1539121 ∷ 1579624 ∷ 1620127 ∷ 1660630 ∷ 1701133 ∷ 1741636 ∷ 1782139 ∷ 1822642 ∷ 1863145 ∷ 1903648 ∷ 1944151 ∷ 1984654 ∷ 2025157 ∷ 2065660 ∷ 2106163 ∷ 2146666 ∷ 2187169 ∷ 2227672 ∷ 2268175 ∷ 2308678 ∷ 2349181 ∷ 2389684 ∷ 2430187 ∷ 2470690 ∷ 2511193 ∷ 2551696 ∷ [])
  pub rehearsal_7 : rehearse paired (8 ∷ 20 ∷ 152 ∷ 6 ∷ 28 ∷ 112 ∷ 16 ∷ 0 ∷ 152 ∷ 80 ∷ 0 ∷ 0 ∷ 100 ∷ 33 ∷ 199 ∷ 0 ∷ 64 ∷ 112 ∷ 135 ∷ 0 ∷ 92 ∷ 113 ∷ 194 ∷ 0 ∷ 172 ∷ 1 ∷ 192 ∷ 0 ∷ 28 ∷ 0 ∷ 0 ∷ 16 ∷ 28 ∷ 32 ∷ 7 ∷ 240 ∷ 100 ∷ 1 ∷ 199 ∷ 0 ∷ 56 ∷ 113 ∷ 199 ∷ 0 ∷ 160 ∷ 1 ∷ 64 ∷ 0 ∷ 72 ∷ 112 ∷ 128 ∷ 0 ∷ 96 ∷ 33 ∷ 199 ∷ 0 ∷ 32 ∷ 113 ∷ 192 ∷ 0 ∷ 92 ∷ 65 ∷ 69 ∷ 0 ∷ 160 ∷ 1 ∷ 0 ∷ 0 ∷ 164 ∷ 0 ∷ 0 ∷ 0 ∷ 164 ∷ 0 ∷ 128 ∷ 0 ∷ 172 ∷ 1 ∷ 64 ∷ 0 ∷ 4 ∷ 0 ∷ 0 ∷ 0 ∷ []) (PlayCode 65535 ∷ Restart (65535 ∷ 0 ∷ []) ∷ PlaySource 0 ∷ PlayCode 65535 ∷ PlaySource 65536 ∷ PlaySource 25 ∷ PlaySource 11 ∷ []) ≡ Shows (served 2 2 ∷ served 0 0 ∷ served 0 0 ∷ served 28 1 ∷ many_rows ∷ served 20 1 ∷ served 0 1 ∷ []) (0 ∷ 255 ∷ 255 ∷ 0 ∷ 0 ∷ 255 ∷ []) (0 ∷ 255 ∷ 255 ∷ 0 ∷ 0 ∷ 255 ∷ []) (255 ∷ 0 ∷ 0 ∷ 0 ∷ 0 ∷ 127 ∷ 16711680 ∷ 0 ∷ 127 ∷ []) (0 ∷ 255 ∷ 81013 ∷ 121516 ∷ 162019 ∷ 202522 ∷ 243025 ∷ 283528 ∷ 324031 ∷ 364534 ∷ 405037 ∷ 445540 ∷ 486043 ∷ 526546 ∷ 567049 ∷ 607552 ∷ 648055 ∷ 688558 ∷ 729061 ∷ 769564 ∷ 810067 ∷ 850570 ∷ 891073 ∷ 931576 ∷ 972079 ∷ 1012582 ∷ 1053085 ∷ 1093588 ∷ 1134091 ∷ 1174594 ∷ 1215097 ∷ 1255600 ∷ 1296103 ∷ 1336606 ∷ 1377109 ∷ 1417612 ∷ 1458115 ∷ 1498618 ∷ 1539121 ∷ 1579624 ∷ 1620127 ∷ 1660630 ∷ 1701133 ∷ 1741636 ∷ 1782139 ∷ 1822642 ∷ 1863145 ∷ 1903648 ∷ 1944151 ∷ 1984654 ∷ 2025157 ∷ 2065660 ∷ 2106163 ∷ 2146666 ∷ 2187169 ∷ 2227672 ∷ 2268175 ∷ 2308678 ∷ 2349181 ∷ 2389684 ∷ 2430187 ∷ 2470690 ∷ 2511193 ∷ 2551696 ∷ [])
  pub rehearsal_8 : rehearse paired (2 ∷ 12 ∷ 96 ∷ 144 ∷ 16 ∷ 0 ∷ 0 ∷ 16 ∷ 15 ∷ 255 ∷ 240 ∷ 80 ∷ 16 ∷ 65 ∷ 0 ∷ 128 ∷ 0 ∷ 64 ∷ 0 ∷ 192 ∷ 0 ∷ 0 ∷ 6 ∷ 192 ∷ 0 ∷ 65 ∷ 7 ∷ 176 ∷ 0 ∷ 0 ∷ 8 ∷ 160 ∷ 0 ∷ 64 ∷ 0 ∷ 160 ∷ 0 ∷ 64 ∷ 0 ∷ 160 ∷ 0 ∷ 0 ∷ 0 ∷ 160 ∷ 0 ∷ 0 ∷ 0 ∷ 0 ∷ 0 ∷ 0 ∷ 0 ∷ []) (Restart (172117298 ∷ 4103336849 ∷ 2847809747 ∷ 2187138136 ∷ 3922659020 ∷ 408481101 ∷ 3357559214 ∷ 2780519282 ∷ 3665208084 ∷ 3793031801 ∷ 3447606024 ∷ []) ∷ PlaySource 2 ∷ PlaySource 70000 ∷ PlayCode 2 ∷ PlaySource 4000 ∷ []) ≡ Shows (served 0 0 ∷ served 2 0 ∷ many_rows ∷ served 2 0 ∷ served 9 1 ∷ []) (172117298 ∷ 19762 ∷ 19762 ∷ []) ([]) (2626 ∷ 19762 ∷ 65535 ∷ 33808 ∷ 61883 ∷ 64961 ∷ 172117298 ∷ 4294935568 ∷ 4055629249 ∷ []) (7 ∷ 40510 ∷ 81013 ∷ 121516 ∷ 162019 ∷ 202522 ∷ 243025 ∷ 283528 ∷ 324031 ∷ 364534 ∷ 405037 ∷ 445540 ∷ 486043 ∷ 526546 ∷ 567049 ∷ 607552 ∷ 648055 ∷ 688558 ∷ 729061 ∷ 769564 ∷ 810067 ∷ 850570 ∷ 891073 ∷ 931576 ∷ 972079 ∷ 1012582 ∷ 1053085 ∷ 1093588 ∷ 1134091 ∷ 1174594 ∷ 1215097 ∷ 1255600 ∷ 1296103 ∷ 1336606 ∷ 1377109 ∷ 1417612 ∷ 1458115 ∷ 1498618 ∷ 1539121 ∷ 1579624 ∷ 1620127 ∷ 1660630 ∷ 1701133 ∷ 1741636 ∷ 1782139 ∷ 1822642 ∷ 1863145 ∷ 1903648 ∷ 1944151 ∷ 1984654 ∷ 2025157 ∷ 2065660 ∷ 2106163 ∷ 2146666 ∷ 2187169 ∷ 2227672 ∷ 2268175 ∷ 2308678 ∷ 2349181 ∷ 2389684 ∷ 2430187 ∷ 2470690 ∷ 2511193 ∷ 2551696 ∷ [])
  pub rehearsal_9 : rehearse nested (1 ∷ 16 ∷ 128 ∷ 156 ∷ 0 ∷ 0 ∷ 0 ∷ 16 ∷ 8 ∷ 0 ∷ 0 ∷ 160 ∷ 0 ∷ 0 ∷ 0 ∷ 16 ∷ 15 ∷ 255 ∷ 240 ∷ 32 ∷ 0 ∷ 0 ∷ 0 ∷ 36 ∷ 0 ∷ 0 ∷ 0 ∷ 44 ∷ 0 ∷ 0 ∷ 0 ∷ 44 ∷ 0 ∷ 0 ∷ 0 ∷ 32 ∷ 0 ∷ 0 ∷ 0 ∷ 32 ∷ 0 ∷ 0 ∷ 0 ∷ 32 ∷ 0 ∷ 0 ∷ 0 ∷ 40 ∷ 0 ∷ 0 ∷ 0 ∷ 172 ∷ 0 ∷ 0 ∷ 0 ∷ 172 ∷ 0 ∷ 0 ∷ 0 ∷ 164 ∷ 0 ∷ 0 ∷ 0 ∷ 4 ∷ 0 ∷ 0 ∷ 0 ∷ []) (Restart (range 257 0) ∷ PlayCode 500 ∷ PlaySource 2 ∷ PlaySource 1 ∷ PlayCode 65536 ∷ PlaySource 35 ∷ PlaySource 5 ∷ Restart (293012547 ∷ 2436774337 ∷ 4177275568 ∷ 3809212606 ∷ 801386119 ∷ 1209603369 ∷ 1068803780 ∷ 1747516439 ∷ 2996454605 ∷ 3227692233 ∷ []) ∷ PlaySource 70000 ∷ PlaySource 2 ∷ PlayCode 32 ∷ PlaySource 1 ∷ Restart (1 ∷ 0 ∷ 2 ∷ []) ∷ PlaySource 65535 ∷ PlaySource 21 ∷ PlaySource 65536 ∷ []) ≡ Shows (long_input ∷ served 1 2 ∷ served 1 2 ∷ served 0 2 ∷ many_rows ∷ served 0 2 ∷ served 0 2 ∷ served 0 0 ∷ many_rows ∷ served 2 0 ∷ served 8 1 ∷ served 1 0 ∷ served 0 0 ∷ served 16 1 ∷ served 0 1 ∷ many_rows ∷ []) (32768 ∷ 65535 ∷ 65535 ∷ 65535 ∷ []) ([]) (65535 ∷ 2654418546 ∷ 1013966627 ∷ 3668351188 ∷ 65535 ∷ 13938 ∷ 59171 ∷ 39124 ∷ 255 ∷ 114 ∷ 35 ∷ 212 ∷ 255 ∷ 54 ∷ 231 ∷ 152 ∷ []) (7 ∷ 40510 ∷ 81013 ∷ 121516 ∷ 162019 ∷ 202522 ∷ 243025 ∷ 283528 ∷ 324031 ∷ 364534 ∷ 405037 ∷ 445540 ∷ 486043 ∷ 526546 ∷ 567049 ∷ 607552 ∷ 648055 ∷ 688558 ∷ 729061 ∷ 769564 ∷ 810067 ∷ 850570 ∷ 891073 ∷ 931576 ∷ 972079 ∷ 1012582 ∷ 1053085 ∷ 1093588 ∷ 1134091 ∷ 1174594 ∷ 1215097 ∷ 1255600 ∷ 1296103 ∷ 1336606 ∷ 1377109 ∷ 1417612 ∷ 1458115 ∷ 1498618 ∷ 1539121 ∷ 1579624 ∷ 1620127 ∷ 1660630 ∷ 1701133 ∷ 1741636 ∷ 1782139 ∷ 1822642 ∷ 1863145 ∷ 1903648 ∷ 1944151 ∷ 1984654 ∷ 2025157 ∷ 2065660 ∷ 2106163 ∷ 2146666 ∷ 2187169 ∷ 2227672 ∷ 2268175 ∷ 2308678 ∷ 2349181 ∷ 2389684 ∷ 2430187 ∷ 2470690 ∷ 2511193 ∷ 2551696 ∷ [])
  pub rehearsal_10 : rehearse paired (7 ∷ 11 ∷ 170 ∷ 168 ∷ 144 ∷ 64 ∷ 0 ∷ 0 ∷ 144 ∷ 32 ∷ 0 ∷ 0 ∷ 16 ∷ 80 ∷ 16 ∷ 0 ∷ 80 ∷ 81 ∷ 4 ∷ 0 ∷ 96 ∷ 81 ∷ 5 ∷ 0 ∷ 96 ∷ 49 ∷ 66 ∷ 0 ∷ 80 ∷ 97 ∷ 2 ∷ 0 ∷ 160 ∷ 0 ∷ 192 ∷ 0 ∷ 160 ∷ 1 ∷ 128 ∷ 0 ∷ 160 ∷ 1 ∷ 128 ∷ 0 ∷ 0 ∷ 0 ∷ 0 ∷ 0 ∷ []) (PlaySource 65535 ∷ Restart (range 257 0) ∷ PlayCode 65535 ∷ PlayCode 3 ∷ PlayCode 14 ∷ PlayCode 500 ∷ Restart (range 300 0) ∷ PlayCode 26 ∷ Restart (3 ∷ 2 ∷ 4 ∷ 3 ∷ 1 ∷ 4 ∷ 2 ∷ 2 ∷ 4 ∷ 3 ∷ 0 ∷ 1 ∷ 0 ∷ []) ∷ PlaySource 65535 ∷ PlaySource 4294967295 ∷ []) ≡ Shows (served 1 2 ∷ long_input ∷ served 1 2 ∷ served 0 2 ∷ served 0 2 ∷ served 0 2 ∷ long_input ∷ served 0 2 ∷ served 0 0 ∷ served 11 1 ∷ many_rows ∷ []) (2 ∷ 2 ∷ 2 ∷ []) ([]) (46413 ∷ 2655 ∷ 21380 ∷ 33808 ∷ 61883 ∷ 64961 ∷ 3041725023 ∷ 1401193488 ∷ 4055629249 ∷ []) (7 ∷ 40510 ∷ 81013 ∷ 121516 ∷ 162019 ∷ 202522 ∷ 243025 ∷ 283528 ∷ 324031 ∷ 364534 ∷ 405037 ∷ 445540 ∷ 486043 ∷ 526546 ∷ 567049 ∷ 607552 ∷ 648055 ∷ 688558 ∷ 729061 ∷ 769564 ∷ 810067 ∷ 850570 ∷ 891073 ∷ 931576 ∷ 972079 ∷ 1012582 ∷ 1053085 ∷ 1093588 ∷ 1134091 ∷ 1174594 ∷ 1215097 ∷ 1255600 ∷ 1296103 ∷ 1336606 ∷ 1377109 ∷ 1417612 ∷ 1458115 ∷ 1498618 ∷ 1539121 ∷ 1579624 ∷ 1620127 ∷ 1660630 ∷ 1701133 ∷ 1741636 ∷ 1782139 ∷ 1822642 ∷ 1863145 ∷ 1903648 ∷ 1944151 ∷ 1984654 ∷ 2025157 ∷ 2065660 ∷ 2106163 ∷ 2146666 ∷ 2187169 ∷ 2227672 ∷ 2268175 ∷ 2308678 ∷ 2349181 ∷ 2389684 ∷ 2430187 ∷ 2470690 ∷ 2511193 ∷ 2551696 ∷ [])
  pub rehearsal_11 : rehearse nested (1 ∷ 8 ∷ 64 ∷ 20 ∷ 0 ∷ 16 ∷ 0 ∷ 96 ∷ 0 ∷ 0 ∷ 0 ∷ 72 ∷ 0 ∷ 0 ∷ 0 ∷ 92 ∷ 0 ∷ 0 ∷ 0 ∷ 76 ∷ 0 ∷ 0 ∷ 0 ∷ 168 ∷ 0 ∷ 0 ∷ 0 ∷ 164 ∷ 0 ∷ 0 ∷ 0 ∷ 12 ∷ 0 ∷ 0 ∷ 0 ∷ []) (Restart (range 257 0) ∷ PlaySource 4000 ∷ PlayCode 12 ∷ PlayCode 65536 ∷ PlaySource 2 ∷ PlaySource 6 ∷ PlayCode 4000 ∷ PlayCode 65535 ∷ Restart (1 ∷ 65536 ∷ 255 ∷ 1 ∷ 256 ∷ 0 ∷ 255 ∷ 65536 ∷ 65536 ∷ 1 ∷ 65535 ∷ 255 ∷ 1 ∷ 1 ∷ 1 ∷ 4294967295 ∷ 4294967295 ∷ 0 ∷ 255 ∷ 65535 ∷ 255 ∷ 4294967295 ∷ 65535 ∷ []) ∷ PlayCode 65535 ∷ PlayCode 20 ∷ PlaySource 4294967295 ∷ PlaySource 24 ∷ PlaySource 2 ∷ PlaySource 65535 ∷ []) ≡ Shows (long_input ∷ served 8 1 ∷ served 8 1 ∷ many_rows ∷ served 0 1 ∷ served 0 1 ∷ served 0 1 ∷ served 0 1 ∷ served 0 0 ∷ served 8 1 ∷ served 0 1 ∷ many_rows ∷ served 8 1 ∷ served 0 1 ∷ served 0 1 ∷ []) (0 ∷ 0 ∷ []) (0 ∷ 0 ∷ []) (0 ∷ 2654418546 ∷ 1013966627 ∷ 3668351188 ∷ 0 ∷ 13938 ∷ 59171 ∷ 39124 ∷ 0 ∷ 114 ∷ 35 ∷ 212 ∷ 0 ∷ 54 ∷ 231 ∷ 152 ∷ []) (7 ∷ 40510 ∷ 81013 ∷ 121516 ∷ 162019 ∷ 202522 ∷ 243025 ∷ 283528 ∷ 324031 ∷ 364534 ∷ 405037 ∷ 445540 ∷ 486043 ∷ 526546 ∷ 567049 ∷ 607552 ∷ 648055 ∷ 688558 ∷ 729061 ∷ 769564 ∷ 810067 ∷ 850570 ∷ 891073 ∷ 931576 ∷ 972079 ∷ 1012582 ∷ 1053085 ∷ 1093588 ∷ 1134091 ∷ 1174594 ∷ 1215097 ∷ 1255600 ∷ 1296103 ∷ 1336606 ∷ 1377109 ∷ 1417612 ∷ 1458115 ∷ 1498618 ∷ 1539121 ∷ 1579624 ∷ 1620127 ∷ 1660630 ∷ 1701133 ∷ 1741636 ∷ 1782139 ∷ 1822642 ∷ 1863145 ∷ 1903648 ∷ 1944151 ∷ 1984654 ∷ 2025157 ∷ 2065660 ∷ 2106163 ∷ 2146666 ∷ 2187169 ∷ 2227672 ∷ 2268175 ∷ 2308678 ∷ 2349181 ∷ 2389684 ∷ 2430187 ∷ 2470690 ∷ 2511193 ∷ 2551696 ∷ [])
  pub rehearsal_12 : rehearse nested (2 ∷ 16 ∷ 144 ∷ 28 ∷ 16 ∷ 0 ∷ 144 ∷ 156 ∷ 0 ∷ 0 ∷ 0 ∷ 108 ∷ 16 ∷ 65 ∷ 0 ∷ 96 ∷ 16 ∷ 65 ∷ 0 ∷ 64 ∷ 0 ∷ 0 ∷ 0 ∷ 160 ∷ 0 ∷ 64 ∷ 0 ∷ 40 ∷ 0 ∷ 0 ∷ 0 ∷ 44 ∷ 16 ∷ 64 ∷ 0 ∷ 104 ∷ 0 ∷ 0 ∷ 0 ∷ 172 ∷ 0 ∷ 0 ∷ 0 ∷ 88 ∷ 16 ∷ 65 ∷ 0 ∷ 160 ∷ 0 ∷ 64 ∷ 0 ∷ 40 ∷ 0 ∷ 0 ∷ 0 ∷ 56 ∷ 0 ∷ 0 ∷ 0 ∷ 160 ∷ 0 ∷ 64 ∷ 0 ∷ 4 ∷ 0 ∷ 0 ∷ 0 ∷ []) (Restart (range 257 0) ∷ PlaySource 3 ∷ PlayCode 4294967295 ∷ PlayCode 65535 ∷ PlaySource 9 ∷ Restart (range 300 0) ∷ PlayCode 0 ∷ PlayCode 65536 ∷ PlaySource 2 ∷ Restart (256 ∷ 1 ∷ 65535 ∷ 1 ∷ 256 ∷ 1 ∷ 65536 ∷ 1 ∷ 1 ∷ 1 ∷ 65536 ∷ 256 ∷ []) ∷ PlaySource 65535 ∷ PlaySource 70000 ∷ PlaySource 500 ∷ PlaySource 65535 ∷ []) ≡ Shows (long_input ∷ served 2 2 ∷ many_rows ∷ served 2 2 ∷ served 0 2 ∷ long_input ∷ served 0 2 ∷ many_rows ∷ served 0 2 ∷ served 0 0 ∷ served 16 1 ∷ many_rows ∷ served 0 1 ∷ served 0 1 ∷ []) (0 ∷ 0 ∷ 0 ∷ 0 ∷ []) ([]) (9 ∷ 2654418546 ∷ 1013966627 ∷ 3668351188 ∷ 9 ∷ 13938 ∷ 59171 ∷ 39124 ∷ 9 ∷ 114 ∷ 35 ∷ 212 ∷ 0 ∷ 54 ∷ 231 ∷ 152 ∷ []) (7 ∷ 40510 ∷ 81013 ∷ 121516 ∷ 162019 ∷ 202522 ∷ 243025 ∷ 283528 ∷ 324031 ∷ 364534 ∷ 405037 ∷ 445540 ∷ 486043 ∷ 526546 ∷ 567049 ∷ 607552 ∷ 648055 ∷ 688558 ∷ 729061 ∷ 769564 ∷ 810067 ∷ 850570 ∷ 891073 ∷ 931576 ∷ 972079 ∷ 1012582 ∷ 1053085 ∷ 1093588 ∷ 1134091 ∷ 1174594 ∷ 1215097 ∷ 1255600 ∷ 1296103 ∷ 1336606 ∷ 1377109 ∷ 1417612 ∷ 1458115 ∷ 1498618 ∷ 1539121 ∷ 1579624 ∷ 1620127 ∷ 1660630 ∷ 1701133 ∷ 1741636 ∷ 1782139 ∷ 1822642 ∷ 1863145 ∷ 1903648 ∷ 1944151 ∷ 1984654 ∷ 2025157 ∷ 2065660 ∷ 2106163 ∷ 2146666 ∷ 2187169 ∷ 2227672 ∷ 2268175 ∷ 2308678 ∷ 2349181 ∷ 2389684 ∷ 2430187 ∷ 2470690 ∷ 2511193 ∷ 2551696 ∷ [])
  pub rehearsal_13 : rehearse paired (1 ∷ 17 ∷ 64 ∷ 24 ∷ 0 ∷ 16 ∷ 0 ∷ 60 ∷ 0 ∷ 0 ∷ 0 ∷ 196 ∷ 0 ∷ 0 ∷ 2 ∷ 60 ∷ 0 ∷ 0 ∷ 0 ∷ 52 ∷ 0 ∷ 0 ∷ 0 ∷ 100 ∷ 0 ∷ 0 ∷ 0 ∷ 48 ∷ 0 ∷ 0 ∷ 0 ∷ 72 ∷ 0 ∷ 0 ∷ 0 ∷ 68 ∷ 0 ∷ 0 ∷ 0 ∷ 88 ∷ 0 ∷ 0 ∷ 0 ∷ 204 ∷ 0 ∷ 0 ∷ 11 ∷ 104 ∷ 0 ∷ 0 ∷ 0 ∷ 60 ∷ 0 ∷ 0 ∷ 0 ∷ 48 ∷ 0 ∷ 0 ∷ 0 ∷ 88 ∷ 0 ∷ 0 ∷ 0 ∷ 164 ∷ 0 ∷ 0 ∷ 0 ∷ 4 ∷ 0 ∷ 0 ∷ 0 ∷ []) (Restart (0 ∷ 1 ∷ []) ∷ PlaySource 2 ∷ PlayCode 0 ∷ Restart (1815519243 ∷ 923957231 ∷ 2276777564 ∷ 3966192905 ∷ 1632662384 ∷ 2467256471 ∷ 188480753 ∷ 1670529379 ∷ 171972893 ∷ 4182425533 ∷ 695635020 ∷ 736355357 ∷ 3707804908 ∷ 1546803210 ∷ 2626639706 ∷ 4017961226 ∷ 928614830 ∷ 4038611289 ∷ 3524539799 ∷ 681616341 ∷ 2406995918 ∷ 2722192837 ∷ 490175665 ∷ 3779458843 ∷ 2062436228 ∷ 3502166009 ∷ 1525300676 ∷ 2571817248 ∷ 3324213546 ∷ 802090311 ∷ 2795629738 ∷ 1585499490 ∷ 996571933 ∷ 3143907147 ∷ 720766074 ∷ 953587502 ∷ 2774884126 ∷ 1368037302 ∷ 3575251112 ∷ 2064947902 ∷ 1370568122 ∷ 3240364370 ∷ 1537362261 ∷ 1266800692 ∷ 2314375860 ∷ 2597421190 ∷ 2126546309 ∷ 272377819 ∷ 508412106 ∷ 1046778969 ∷ 3449501330 ∷ 3971557437 ∷ 184539326 ∷ 1783373308 ∷ 1071359763 ∷ 1609080061 ∷ 1855805501 ∷ 1818969129 ∷ 3725626221 ∷ 67270919 ∷ 1362118739 ∷ 2465371093 ∷ 821292163 ∷ 497414889 ∷ 2821880099 ∷ 2184649295 ∷ 3793138318 ∷ 3056364020 ∷ 295891116 ∷ 4266878126 ∷ 292760137 ∷ 2995475742 ∷ 4017963891 ∷ 502056688 ∷ 4048535403 ∷ 1255629973 ∷ 2768503368 ∷ 922373583 ∷ 3565608405 ∷ 1771415468 ∷ 1811368868 ∷ 2956343542 ∷ 2975156015 ∷ 4173961254 ∷ 1743479737 ∷ 2380315558 ∷ 1509083956 ∷ 3315261233 ∷ 1587774096 ∷ 706077784 ∷ 2805186450 ∷ 1728901097 ∷ 4060727155 ∷ 2563416922 ∷ 3514015301 ∷ 3826606101 ∷ 2271197119 ∷ 4125728319 ∷ 411707096 ∷ 3705260157 ∷ 3684433645 ∷ 3375829195 ∷ 4169985764 ∷ 2810404478 ∷ 2988393576 ∷ 4040352245 ∷ 225306848 ∷ 68516568 ∷ 2857479456 ∷ 518658217 ∷ 4284197519 ∷ 3786082605 ∷ 1990718521 ∷ 698238818 ∷ 2569607660 ∷ 2725235405 ∷ 3480501526 ∷ 748501661 ∷ 1506123585 ∷ 3178530537 ∷ 173840890 ∷ 802285401 ∷ 3426258676 ∷ 1441114309 ∷ 4148540774 ∷ 1967388948 ∷ 2367991884 ∷ 276840152 ∷ 3558572796 ∷ 3459222858 ∷ 732834882 ∷ 2485105905 ∷ 3944632097 ∷ 3411894964 ∷ 737393555 ∷ 1871158565 ∷ 2941883345 ∷ 2076832595 ∷ 325276528 ∷ 483738042 ∷ 257525333 ∷ 1942770546 ∷ 902356758 ∷ 3716527882 ∷ 880832450 ∷ 668819243 ∷ 3665025826 ∷ 375939915 ∷ 3914671812 ∷ 1298639309 ∷ 2318238083 ∷ 3056082818 ∷ 3900356004 ∷ 1106221938 ∷ 3108665833 ∷ 2494873172 ∷ 4023130942 ∷ 2047791506 ∷ 3722190735 ∷ 2108914751 ∷ 4274150489 ∷ 3500009382 ∷ 2701595403 ∷ 1608144980 ∷ 1551426828 ∷ 1197991608 ∷ 3330484555 ∷ 3512034302 ∷ 305243782 ∷ 3413284003 ∷ 1669356745 ∷ 2315634243 ∷ 523289014 ∷ 4182422218 ∷ 3195923690 ∷ 4263001583 ∷ 848738150 ∷ 3813443720 ∷ 3586292250 ∷ 1131675854 ∷ 458004865 ∷ 145432966 ∷ 1876918746 ∷ 3427696868 ∷ 3279021839 ∷ 2126804732 ∷ 229179619 ∷ 3343868548 ∷ 1968082733 ∷ 1623107715 ∷ 2464053891 ∷ 449888597 ∷ 2475768840 ∷ 505625704 ∷ 1808493917 ∷ 3472658857 ∷ 3840470412 ∷ 1443394357 ∷ 3091054671 ∷ 2574391301 ∷ 952909632 ∷ 3304511954 ∷ 2322062328 ∷ 1936529488 ∷ 2500388084 ∷ 2905142573 ∷ 1197678950 ∷ 3391685827 ∷ 1296482348 ∷ 3133652599 ∷ 2283109964 ∷ 620932508 ∷ 548463715 ∷ 2927463143 ∷ 3590094555 ∷ 2779714637 ∷ 1988908906 ∷ 3097964535 ∷ 3914491923 ∷ 3509241114 ∷ 2222402954 ∷ 556513261 ∷ 2487952589 ∷ 1661984099 ∷ 2330671366 ∷ 912204735 ∷ 2024334553 ∷ 2965937883 ∷ 3589837485 ∷ 1411053355 ∷ 3753752145 ∷ 1976147100 ∷ 1576054725 ∷ 2328875129 ∷ 2000261676 ∷ 2046852442 ∷ 525873760 ∷ 2728095396 ∷ 3435700039 ∷ 419532020 ∷ 4237058789 ∷ 371676183 ∷ 2018710961 ∷ 2701511367 ∷ 3441134455 ∷ 2430207123 ∷ 3347064414 ∷ 2441654548 ∷ 3501654258 ∷ 322515929 ∷ 3299262031 ∷ 2497711667 ∷ 1282617777 ∷ 4017461901 ∷ 4259949887 ∷ 8845747 ∷ []) ∷ PlayCode 4000 ∷ PlaySource 0 ∷ PlaySource 14 ∷ PlaySource 70000 ∷ PlayCode 2 ∷ Restart (range 257 0) ∷ PlaySource 24 ∷ PlayCode 65536 ∷ PlayCode 4000 ∷ []) ≡ Shows (served 0 0 ∷ served 2 0 ∷ served 0 0 ∷ served 0 0 ∷ served 17 1 ∷ served 0 0 ∷ served 14 0 ∷ many_rows ∷ served 0 1 ∷ long_input ∷ served 3 1 ∷ many_rows ∷ served 0 1 ∷ []) (0 ∷ []) (0 ∷ []) (0 ∷ 2655 ∷ 21380 ∷ 33808 ∷ 61883 ∷ 64961 ∷ 2655 ∷ 1401193488 ∷ 4055629249 ∷ []) (7 ∷ 40510 ∷ 81013 ∷ 121516 ∷ 162019 ∷ 202522 ∷ 243025 ∷ 283528 ∷ 324031 ∷ 364534 ∷ 405037 ∷ 445540 ∷ 486043 ∷ 526546 ∷ 567049 ∷ 607552 ∷ 648055 ∷ 688558 ∷ 729061 ∷ 769564 ∷ 810067 ∷ 850570 ∷ 891073 ∷ 931576 ∷ 972079 ∷ 1012582 ∷ 1053085 ∷ 1093588 ∷ 1134091 ∷ 1174594 ∷ 1215097 ∷ 1255600 ∷ 1296103 ∷ 1336606 ∷ 1377109 ∷ 1417612 ∷ 1458115 ∷ 1498618 ∷ 1539121 ∷ 1579624 ∷ 1620127 ∷ 1660630 ∷ 1701133 ∷ 1741636 ∷ 1782139 ∷ 1822642 ∷ 1863145 ∷ 1903648 ∷ 1944151 ∷ 1984654 ∷ 2025157 ∷ 2065660 ∷ 2106163 ∷ 2146666 ∷ 2187169 ∷ 2227672 ∷ 2268175 ∷ 2308678 ∷ 2349181 ∷ 2389684 ∷ 2430187 ∷ 2470690 ∷ 2511193 ∷ 2551696 ∷ [])
  pub rehearsal_14 : rehearse paired (6 ∷ 17 ∷ 21 ∷ 96 ∷ 152 ∷ 48 ∷ 0 ∷ 0 ∷ 152 ∷ 32 ∷ 0 ∷ 0 ∷ 44 ∷ 32 ∷ 192 ∷ 0 ∷ 32 ∷ 16 ∷ 128 ∷ 0 ∷ 120 ∷ 80 ∷ 192 ∷ 0 ∷ 124 ∷ 80 ∷ 192 ∷ 0 ∷ 124 ∷ 80 ∷ 64 ∷ 0 ∷ 128 ∷ 1 ∷ 64 ∷ 0 ∷ 36 ∷ 16 ∷ 128 ∷ 0 ∷ 44 ∷ 0 ∷ 0 ∷ 0 ∷ 36 ∷ 0 ∷ 0 ∷ 0 ∷ 136 ∷ 0 ∷ 192 ∷ 0 ∷ 124 ∷ 80 ∷ 64 ∷ 0 ∷ 152 ∷ 32 ∷ 0 ∷ 0 ∷ 168 ∷ 0 ∷ 128 ∷ 0 ∷ 168 ∷ 0 ∷ 192 ∷ 0 ∷ 4 ∷ 0 ∷ 0 ∷ 0 ∷ []) (Restart (256 ∷ 1 ∷ 4294967295 ∷ 0 ∷ 1 ∷ 1 ∷ 65536 ∷ 4294967295 ∷ 1 ∷ 256 ∷ 0 ∷ 1 ∷ 255 ∷ 255 ∷ 256 ∷ 4294967295 ∷ 255 ∷ 255 ∷ 255 ∷ 0 ∷ []) ∷ PlayCode 3 ∷ PlaySource 500 ∷ PlayCode 0 ∷ PlayCode 1 ∷ PlaySource 1 ∷ PlayCode 4294967295 ∷ Restart (range 300 0) ∷ PlayCode 38 ∷ PlayCode 3 ∷ PlaySource 10 ∷ PlayCode 6 ∷ []) ≡ Shows (served 0 0 ∷ served 3 0 ∷ served 17 1 ∷ served 0 0 ∷ served 1 0 ∷ served 0 1 ∷ many_rows ∷ long_input ∷ served 9 1 ∷ served 0 1 ∷ served 0 1 ∷ served 0 1 ∷ []) (65535 ∷ 256 ∷ []) (65535 ∷ 256 ∷ []) (0 ∷ 256 ∷ 256 ∷ 65535 ∷ 61883 ∷ 64961 ∷ 256 ∷ 16842751 ∷ 4055629249 ∷ []) (7 ∷ 40510 ∷ 81013 ∷ 121516 ∷ 162019 ∷ 202522 ∷ 243025 ∷ 283528 ∷ 324031 ∷ 364534 ∷ 405037 ∷ 445540 ∷ 486043 ∷ 526546 ∷ 567049 ∷ 607552 ∷ 648055 ∷ 688558 ∷ 729061 ∷ 769564 ∷ 810067 ∷ 850570 ∷ 891073 ∷ 931576 ∷ 972079 ∷ 1012582 ∷ 1053085 ∷ 1093588 ∷ 1134091 ∷ 1174594 ∷ 1215097 ∷ 1255600 ∷ 1296103 ∷ 1336606 ∷ 1377109 ∷ 1417612 ∷ 1458115 ∷ 1498618 ∷ 1539121 ∷ 1579624 ∷ 1620127 ∷ 1660630 ∷ 1701133 ∷ 1741636 ∷ 1782139 ∷ 1822642 ∷ 1863145 ∷ 1903648 ∷ 1944151 ∷ 1984654 ∷ 2025157 ∷ 2065660 ∷ 2106163 ∷ 2146666 ∷ 2187169 ∷ 2227672 ∷ 2268175 ∷ 2308678 ∷ 2349181 ∷ 2389684 ∷ 2430187 ∷ 2470690 ∷ 2511193 ∷ 2551696 ∷ [])
  pub rehearsal_15 : rehearse nested (1 ∷ 6 ∷ 128 ∷ 144 ∷ 0 ∷ 0 ∷ 0 ∷ 16 ∷ 15 ∷ 255 ∷ 240 ∷ 40 ∷ 0 ∷ 0 ∷ 0 ∷ 172 ∷ 0 ∷ 0 ∷ 0 ∷ 160 ∷ 0 ∷ 0 ∷ 0 ∷ 184 ∷ 0 ∷ 0 ∷ 0 ∷ []) (Restart (1 ∷ 1 ∷ []) ∷ PlaySource 2 ∷ PlayCode 500 ∷ Restart (1 ∷ 255 ∷ []) ∷ PlayCode 70000 ∷ PlaySource 4000 ∷ PlaySource 2 ∷ PlaySource 65535 ∷ PlaySource 500 ∷ Restart (range 257 0) ∷ PlayCode 2 ∷ PlayCode 2 ∷ PlaySource 2 ∷ []) ≡ Shows (served 0 0 ∷ served 2 0 ∷ served 11 2 ∷ served 0 0 ∷ many_rows ∷ served 13 2 ∷ served 0 2 ∷ served 0 2 ∷ served 0 2 ∷ long_input ∷ served 2 0 ∷ served 2 0 ∷ served 0 2 ∷ []) (65535 ∷ 65535 ∷ 65535 ∷ 65535 ∷ []) (65535 ∷ 65535 ∷ []) (65535 ∷ 2654418546 ∷ 1013966627 ∷ 3668351188 ∷ 65535 ∷ 13938 ∷ 59171 ∷ 39124 ∷ 255 ∷ 114 ∷ 35 ∷ 212 ∷ 255 ∷ 54 ∷ 231 ∷ 152 ∷ []) (7 ∷ 40510 ∷ 81013 ∷ 121516 ∷ 162019 ∷ 202522 ∷ 243025 ∷ 283528 ∷ 324031 ∷ 364534 ∷ 405037 ∷ 445540 ∷ 486043 ∷ 526546 ∷ 567049 ∷ 607552 ∷ 648055 ∷ 688558 ∷ 729061 ∷ 769564 ∷ 810067 ∷ 850570 ∷ 891073 ∷ 931576 ∷ 972079 ∷ 1012582 ∷ 1053085 ∷ 1093588 ∷ 1134091 ∷ 1174594 ∷ 1215097 ∷ 1255600 ∷ 1296103 ∷ 1336606 ∷ 1377109 ∷ 1417612 ∷ 1458115 ∷ 1498618 ∷ 1539121 ∷ 1579624 ∷ 1620127 ∷ 1660630 ∷ 1701133 ∷ 1741636 ∷ 1782139 ∷ 1822642 ∷ 1863145 ∷ 1903648 ∷ 1944151 ∷ 1984654 ∷ 2025157 ∷ 2065660 ∷ 2106163 ∷ 2146666 ∷ 2187169 ∷ 2227672 ∷ 2268175 ∷ 2308678 ∷ 2349181 ∷ 2389684 ∷ 2430187 ∷ 2470690 ∷ 2511193 ∷ 2551696 ∷ [])
