use Rattle.jb_rules.proofs.StaySound.{rows_stay_sound}
use Rattle.jb_rules.proofs.lifecycle.rows_stay_sound.Goals as goal

pub returns : goal.returns
returns c = rows_stay_sound
