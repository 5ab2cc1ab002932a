use Rattle.std.proofs.Common.{rules}
use Rattle.jb_rules.proofs.StaySound.{rows_stay_sound}
use Rattle.jb_rules.proofs.row.Row.committed.Goals as goal

pub returns-clause-row : goal.returns-clause-row
returns-clause-row c = search rules

pub returns-clause-sound : goal.returns-clause-sound
returns-clause-sound c = rw (returns-clause-row c) (rows_stay_sound.committed _ c.args.at c.args.delta.now c.requires.sound c.requires.from c.requires.to c.requires.delta)
