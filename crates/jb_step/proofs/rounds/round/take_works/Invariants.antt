use Rattle.std.proofs.Common.{◌≡◌, ◌++◌, drop, map}
use Rattle.jb_cert.specs.Plans.{slot_pair}
use Rattle.jb_step.specs.inside.table.Places.{emptied, picked}
use Rattle.jb_step.specs.inside.rounds.Round.{tasks_of}
use Rattle.jb_step.proofs.rounds.round.take_works.Given as goal

-- the other slots' tasks are taken after these
abbrev pub invariant-loop-slot : goal.invariant-loop-slot
invariant-loop-slot g l =
    (tasks_of l.works.items ++ picked (map slot_pair (drop l.slot-index l.slots)) l.places.items ≡ tasks_of l.fn.works.items ++ picked (map slot_pair l.slots) l.fn.places.items)
    × (emptied (map slot_pair (drop l.slot-index l.slots)) l.places.items ≡ emptied (map slot_pair l.slots) l.fn.places.items)
