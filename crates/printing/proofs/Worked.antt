-- Worked cases of what is printed.
use Rattle.std.proofs.Common.{◌≡◌, true, false, List, [], ◌∷◌, codes, refl}
use Rattle.std.specs.Fmt.{digits}
use Rattle.rows.specs.declared.Op.TheVariants.{Const, Output, Less, Store}
use Rattle.rows.specs.declared.Row.{Row}
use Rattle.rows.specs.Rows.{end_row}
use Rattle.compiling.specs.declared.Home.TheVariants.{Register, Slot}
use Rattle.compiling.specs.declared.Place.{Place}
use Rattle.printing.specs.Texts.{place_text, places_text, row_text, compiled_text}
use Rattle.printing.specs.Calls.{restarted_text, played_text, state_text}

a_slot : places_text (record { home = Slot 0; round = 1; hoped = true } ∷ record { home = Register 3; round = 3; hoped = false } ∷ []) ≡ codes "s0@1h,r3@3t"
unfolding place_text digits
a_slot = refl

a_store : row_text (record { op = Store; weight = 3; dclass = 2; aclass = 1; d = 9; a = 14; b = 8; target = 7; constant = 6; slot = 63 }) ≡ codes "15,3,-,1,-,14,-,63"
unfolding row_text digits
a_store = refl

a_less : row_text (record { op = Less; weight = 0; dclass = 0; aclass = 2; d = 0; a = 12; b = 3; target = 511; constant = 0; slot = 0 }) ≡ codes "12,0,-,2,-,12,3,511"
unfolding row_text digits
a_less = refl

abbrev first_word : Place
first_word = record { home = Register 0; round = 1; hoped = false }

abbrev seven_out : List Row
seven_out =
    record { op = Const; weight = 0; dclass = 2; aclass = 0; d = 0; a = 0; b = 0; target = 0; constant = 7; slot = 0 }
    ∷ record { op = Output; weight = 0; dclass = 0; aclass = 2; d = 0; a = 0; b = 0; target = 0; constant = 0; slot = 0 }
    ∷ end_row
    ∷ []

a_program : compiled_text 1 0 (first_word ∷ first_word ∷ []) seven_out ≡ codes "compiled rounds=1 slots=0 vars=r0@1t,r0@1t code=1,0,2,-,0,-,-,7;10,0,-,2,-,0,-,-;0,0,-,-,-,-,-,-"
unfolding compiled_text place_text row_text digits
a_program = refl

a_restart : restarted_text 2 (7 ∷ 4294967295 ∷ []) ≡ codes "> restart 2 7,4294967295 ok"
unfolding restarted_text digits
a_restart = refl

a_play : played_text (codes "code") 65535 12 2 ≡ codes "> code 65535 12 2"
unfolding played_text digits
a_play = refl

a_state : state_text [] (14 ∷ []) (0 ∷ 1 ∷ []) (7 ∷ []) ≡ codes "> state - 14 0,1 7"
unfolding state_text digits
a_state = refl
