-- The worked cases, from the bytes of the files on.
use Rattle.std.specs.Prelude.{◌≡◌, ℕ, true, false, List, [], ◌∷◌, ◌++◌, map, replicate}
use Rattle.faults.specs.Refusals.{told}
use Rattle.faults.specs.declared.Layer.TheVariants.{Program as ProgramLayer}
use Rattle.rows.specs.declared.Op.TheVariants.{End, Const, Copy, Add, Output, Load, Store}
use Rattle.chips.specs.NestedChip.{nested, nested_file}
use Rattle.chips.specs.PairedChip.{paired, paired_file}
use Rattle.compiling.specs.Compile.{compile}
use Rattle.machine.specs.Machine.{number_of}
use Rattle.machine.specs.Rehearsal.{Call, Restart, PlaySource, PlayCode}
use Rattle.worked.specs.Telling.{Coded, Refused, tells, code, in_register, in_slot}
use Rattle.worked.specs.Showing.{outcome_of, outputs, answered, counts, served, long_input, many_rows}

-- end
abbrev pub end_file : List ℕ
end_file = 0 ∷ 1 ∷ 0 ∷ 0 ∷ 0 ∷ 0 ∷ []

-- const v0 7, copy v1 v0, output v1, end; words
abbrev pub copy_file : List ℕ
copy_file = 2 ∷ 4 ∷ 160 ∷ 16 ∷ 0 ∷ 0 ∷ 112 ∷ 32 ∷ 16 ∷ 0 ∷ 0 ∷ 160 ∷ 0 ∷ 64 ∷ 0 ∷ 0 ∷ 0 ∷ 0 ∷ 0 ∷ []

-- const v0 1 to v4 5, output v0 to v4, end; words
abbrev pub five_file : List ℕ
five_file =
    5 ∷ 11 ∷ 170 ∷ 128 ∷ 16 ∷ 0 ∷ 0 ∷ 16 ∷ 16 ∷ 16 ∷ 0 ∷ 32 ∷ 16 ∷ 32 ∷ 0 ∷ 48 ∷ 16 ∷ 48 ∷ 0 ∷ 64 ∷ 16 ∷ 64 ∷ 0 ∷ 80
    ∷ 160 ∷ 0 ∷ 0 ∷ 0 ∷ 160 ∷ 0 ∷ 64 ∷ 0 ∷ 160 ∷ 0 ∷ 128 ∷ 0 ∷ 160 ∷ 0 ∷ 192 ∷ 0 ∷ 160 ∷ 1 ∷ 0 ∷ 0 ∷ 0 ∷ 0 ∷ 0 ∷ 0 ∷ []

-- const v0 7, copy v1 v0, output v0, output v1, end; words
abbrev pub soft_file : List ℕ
soft_file = 2 ∷ 5 ∷ 160 ∷ 16 ∷ 0 ∷ 0 ∷ 112 ∷ 32 ∷ 16 ∷ 0 ∷ 0 ∷ 160 ∷ 0 ∷ 0 ∷ 0 ∷ 160 ∷ 0 ∷ 64 ∷ 0 ∷ 0 ∷ 0 ∷ 0 ∷ 0 ∷ []

-- const v0 7, copy v1 v0, add v0 v0 v0, output v1, output v0, end; words
abbrev pub hard_file : List ℕ
hard_file = 2 ∷ 6 ∷ 160 ∷ 16 ∷ 0 ∷ 0 ∷ 112 ∷ 32 ∷ 16 ∷ 0 ∷ 0 ∷ 48 ∷ 0 ∷ 0 ∷ 0 ∷ 160 ∷ 0 ∷ 64 ∷ 0 ∷ 160 ∷ 0 ∷ 0 ∷ 0 ∷ 0 ∷ 0 ∷ 0 ∷ 0 ∷ []

-- const v0 1, const v1 2, output v0, end; words
abbrev pub unread_file : List ℕ
unread_file = 2 ∷ 4 ∷ 160 ∷ 16 ∷ 0 ∷ 0 ∷ 16 ∷ 16 ∷ 16 ∷ 0 ∷ 32 ∷ 160 ∷ 0 ∷ 0 ∷ 0 ∷ 0 ∷ 0 ∷ 0 ∷ 0 ∷ []

-- output v0, end; a word
abbrev pub unwritten_file : List ℕ
unwritten_file = 1 ∷ 2 ∷ 128 ∷ 160 ∷ 0 ∷ 0 ∷ 0 ∷ 0 ∷ 0 ∷ 0 ∷ 0 ∷ []

-- jump 2, end, end
abbrev pub unreached_file : List ℕ
unreached_file = 0 ∷ 3 ∷ 176 ∷ 0 ∷ 0 ∷ 2 ∷ 0 ∷ 0 ∷ 0 ∷ 0 ∷ 0 ∷ 0 ∷ 0 ∷ 0 ∷ []

-- const v0 9, then const and output of v2, v3, v4 and v5 in turn, copy v1 v0, output v1, end; words
abbrev pub light_file : List ℕ
light_file =
    6 ∷ 12 ∷ 170 ∷ 160 ∷ 16 ∷ 0 ∷ 0 ∷ 144 ∷ 16 ∷ 32 ∷ 0 ∷ 32 ∷ 160 ∷ 0 ∷ 128 ∷ 0 ∷ 16 ∷ 48 ∷ 0 ∷ 48 ∷ 160 ∷ 0 ∷ 192 ∷ 0 ∷ 16 ∷ 64 ∷ 0 ∷ 64
    ∷ 160 ∷ 1 ∷ 0 ∷ 0 ∷ 16 ∷ 80 ∷ 0 ∷ 80 ∷ 160 ∷ 1 ∷ 64 ∷ 0 ∷ 32 ∷ 16 ∷ 0 ∷ 0 ∷ 160 ∷ 0 ∷ 64 ∷ 0 ∷ 0 ∷ 0 ∷ 0 ∷ 0 ∷ []

-- const v0 5, output v0, jump 1; a word
abbrev pub endless_file : List ℕ
endless_file = 1 ∷ 3 ∷ 128 ∷ 16 ∷ 0 ∷ 0 ∷ 80 ∷ 160 ∷ 0 ∷ 0 ∷ 0 ∷ 176 ∷ 0 ∷ 0 ∷ 1 ∷ []

-- a rehearsal in turns
abbrev pub turns : List Call
turns = PlaySource 3 ∷ PlayCode 4 ∷ PlayCode 65536 ∷ PlayCode 20 ∷ PlayCode 1 ∷ PlaySource 765 ∷ []

-- the numbers of the outcomes; each case with the rounds, the slots, the place of each variable and the code, or with its refusal; and what both sides put out
pub record Cases : Type 0 where
  pub numbers : map number_of (map outcome_of (0 ∷ 1 ∷ 2 ∷ 3 ∷ [])) ≡ 0 ∷ 1 ∷ 2 ∷ 3 ∷ []
  pub ends : tells (compile nested_file end_file) ≡ Coded 1 0 [] (code End 0 0 0 0 0 0 0 ∷ [])
  pub merged_nested : tells (compile nested_file copy_file) ≡ Coded 1 0 (in_register 0 1 false ∷ in_register 0 1 false ∷ [])
      (code Const 0 2 0 0 0 0 7 ∷ code Output 0 0 2 0 0 0 0 ∷ code End 0 0 0 0 0 0 0 ∷ [])
  pub merged_paired : tells (compile paired_file copy_file) ≡ Coded 1 0 (in_register 6 1 false ∷ in_register 6 1 false ∷ [])
      (code Const 0 2 0 6 0 0 7 ∷ code Output 0 0 2 0 6 0 0 ∷ code End 0 0 0 0 0 0 0 ∷ [])
  pub merged_softly : tells (compile nested_file soft_file) ≡ Coded 1 0 (in_register 0 1 false ∷ in_register 0 1 false ∷ [])
      (code Const 0 2 0 0 0 0 7 ∷ code Output 0 0 2 0 0 0 0 ∷ code Output 0 0 2 0 0 0 0 ∷ code End 0 0 0 0 0 0 0 ∷ [])
  pub merged_lightly : tells (compile nested_file light_file)
      ≡ Coded 1 0 (in_register 1 1 false ∷ in_register 1 1 false ∷ in_register 0 1 false ∷ in_register 0 1 false ∷ in_register 0 1 false ∷ in_register 0 1 false ∷ [])
      (code Const 0 2 0 1 0 0 9 ∷ code Const 0 2 0 0 0 0 2 ∷ code Output 0 0 2 0 0 0 0 ∷ code Const 0 2 0 0 0 0 3 ∷ code Output 0 0 2 0 0 0 0
      ∷ code Const 0 2 0 0 0 0 4 ∷ code Output 0 0 2 0 0 0 0 ∷ code Const 0 2 0 0 0 0 5 ∷ code Output 0 0 2 0 0 0 0
      ∷ code Output 0 0 2 0 1 0 0 ∷ code End 0 0 0 0 0 0 0 ∷ [])
  pub five_words : tells (compile nested_file five_file)
      ≡ Coded 3 2 (in_slot 0 1 true ∷ in_slot 1 2 true ∷ in_register 3 3 false ∷ in_register 2 3 false ∷ in_register 1 3 false ∷ [])
      (code Const 0 2 0 0 0 0 1 ∷ code Store 0 0 2 0 0 0 0 ∷ code Const 0 2 0 0 0 0 2 ∷ code Store 0 0 2 0 0 0 1
      ∷ code Const 0 2 0 3 0 0 3 ∷ code Const 0 2 0 2 0 0 4 ∷ code Const 0 2 0 1 0 0 5
      ∷ code Load 0 2 0 0 0 0 0 ∷ code Output 0 0 2 0 0 0 0 ∷ code Load 0 2 0 0 0 0 1 ∷ code Output 0 0 2 0 0 0 0
      ∷ code Output 0 0 2 0 3 0 0 ∷ code Output 0 0 2 0 2 0 0 ∷ code Output 0 0 2 0 1 0 0 ∷ code End 0 0 0 0 0 0 0 ∷ [])
  pub unmerged : tells (compile nested_file hard_file) ≡ Coded 1 0 (in_register 1 1 false ∷ in_register 0 1 false ∷ [])
      (code Const 0 2 0 1 0 0 7 ∷ code Copy 0 2 2 0 1 0 0 ∷ code Add 0 2 2 1 1 1 0
      ∷ code Output 0 0 2 0 0 0 0 ∷ code Output 0 0 2 0 1 0 0 ∷ code End 0 0 0 0 0 0 0 ∷ [])
  pub unmerged_source : outputs nested hard_file (PlaySource 100 ∷ []) ≡ (7 ∷ 14 ∷ [], [])
  pub unmerged_code : outputs nested hard_file (PlayCode 100 ∷ []) ≡ ([], 7 ∷ 14 ∷ [])
  pub unmerged_paired : outputs paired hard_file (PlaySource 6 ∷ PlayCode 6 ∷ []) ≡ (7 ∷ 14 ∷ [], 7 ∷ 14 ∷ [])
  pub five_words_out : outputs nested five_file (PlaySource 11 ∷ PlayCode 15 ∷ []) ≡ (1 ∷ 2 ∷ 3 ∷ 4 ∷ 5 ∷ [], 1 ∷ 2 ∷ 3 ∷ 4 ∷ 5 ∷ [])
  pub unread : tells (compile nested_file unread_file) ≡ Coded 1 0 (in_register 1 1 false ∷ in_register 0 1 false ∷ [])
      (code Const 0 2 0 1 0 0 1 ∷ code Const 0 2 0 0 0 0 2 ∷ code Output 0 0 2 0 1 0 0 ∷ code End 0 0 0 0 0 0 0 ∷ [])
  pub unwritten : tells (compile nested_file unwritten_file) ≡ Refused (told ProgramLayer 14 0)
  pub unreached : tells (compile nested_file unreached_file) ≡ Refused (told ProgramLayer 13 1)
  pub in_turns : answered nested hard_file turns ≡ served 3 0 ∷ served 4 0 ∷ many_rows ∷ served 2 1 ∷ served 0 1 ∷ served 3 1 ∷ []
  pub in_turns_counted : counts nested hard_file turns ≡ record { source_asked = 768; source_played = 6; code_asked = 25; code_played = 6 }
  pub restart_counted : counts nested hard_file (turns ++ Restart [] ∷ []) ≡ record { source_asked = 0; source_played = 0; code_asked = 0; code_played = 0 }
  pub limits : answered nested end_file (Restart (replicate 256 9) ∷ Restart (replicate 257 9) ∷ PlaySource 0 ∷ PlaySource 65535 ∷ PlaySource 65536 ∷ PlayCode 65535 ∷ [])
      ≡ served 0 0 ∷ long_input ∷ served 0 0 ∷ served 1 1 ∷ many_rows ∷ served 1 1 ∷ []
  pub full : answered nested endless_file (PlaySource 600 ∷ PlayCode 600 ∷ PlaySource 1 ∷ []) ≡ served 514 3 ∷ served 514 3 ∷ served 0 3 ∷ []
