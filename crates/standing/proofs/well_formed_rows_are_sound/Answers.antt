use Rattle.standing.proofs.Sources.{well_formed_sound}
use Rattle.standing.proofs.well_formed_rows_are_sound.Goals as goal

pub returns : goal.returns
returns c = well_formed_sound
