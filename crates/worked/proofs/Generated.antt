use Rattle.std.proofs.Common.{refl}
use Rattle.compiling.specs.Compile.{compile}
use Rattle.worked.specs.Showing.{rehearse}
use Rattle.worked.specs.Generated.{Generated, Rehearsals}

-- by computation
pub generated : Generated
unfolding compile
generated = record { file_0 = refl; file_1 = refl; file_2 = refl; file_3 = refl; file_4 = refl; file_5 = refl; file_6 = refl; file_7 = refl; file_8 = refl; file_9 = refl; file_10 = refl; file_11 = refl; file_12 = refl; file_13 = refl; file_14 = refl; file_15 = refl; file_16 = refl; file_17 = refl; file_18 = refl; file_19 = refl; file_20 = refl; file_21 = refl; file_22 = refl; file_23 = refl; file_24 = refl; file_25 = refl; file_26 = refl; file_27 = refl; file_28 = refl; file_29 = refl; file_30 = refl; file_31 = refl; file_32 = refl; file_33 = refl; file_34 = refl; file_35 = refl; file_36 = refl; file_37 = refl; file_38 = refl; file_39 = refl; file_40 = refl }

pub rehearsals : Rehearsals
unfolding rehearse
rehearsals = record { rehearsal_0 = refl; rehearsal_1 = refl; rehearsal_2 = refl; rehearsal_3 = refl; rehearsal_4 = refl; rehearsal_5 = refl; rehearsal_6 = refl; rehearsal_7 = refl; rehearsal_8 = refl; rehearsal_9 = refl; rehearsal_10 = refl; rehearsal_11 = refl; rehearsal_12 = refl; rehearsal_13 = refl; rehearsal_14 = refl; rehearsal_15 = refl }
