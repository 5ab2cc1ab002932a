use Rattle.std.proofs.Common.{List, map, sym, subst}
use Rattle.jb_cert.specs.declared.plans.Slot.{Slot}
use Rattle.jb_cert.specs.Rising.{Rise}
use Rattle.jb_step.proofs.rounds.round.slots_of.Goals as goal

pub returns-clause-rise : goal.returns-clause-rise
returns-clause-rise c =
    subst (λ (xs : List Slot). Rise (map (λ (slot : Slot). slot.partition) xs)) (sym c.in_ok-slots.ensures) (c.lanes_are_found.ensures.rise c.args.cursor.now.counts c.args.cursor.now.threads c.args.round)
