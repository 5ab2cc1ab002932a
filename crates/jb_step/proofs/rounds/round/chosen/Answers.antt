use Rattle.std.proofs.Common.{rules, ◌≡◌, ◌∙◌, ap, map}
use Rattle.jb_cert.specs.Plans.{slot_pair}
use Rattle.jb_step.specs.rounds.Rounds.{tasks_in}
use Rattle.jb_step.specs.inside.table.Places.{picked, table_in}
use Rattle.jb_step.specs.inside.rounds.Round.{tasks_of}
use Rattle.jb_step.proofs.table.Placing.{in-turn, taken-are}
use Rattle.jb_step.proofs.run.Splitting.{taken-can, taken-rise}
use Rattle.jb_step.proofs.rounds.round.chosen.Goals as goal

are : (g : _) (c : goal.In_ok-take_works g) → map g.T.PartitionTask.task_state (tasks_of c.take_works.new.works.items) ≡ tasks_in (map slot_pair c.args.slots.now) (table_in g.T.PartitionTask.task_state c.args.places.now.items)
are g c =
    let all : tasks_of c.take_works.new.works.items ≡ picked (map slot_pair c.args.slots.now) c.args.places.now.items = search rules in
    ap (map g.T.PartitionTask.task_state) all ∙ taken-are g.T.PartitionTask.task_state (map slot_pair c.args.slots.now) c.args.places.now.items (in-turn c.args.slots.now c.requires.in_turn) c.requires.placed

pub returns-clause-can : goal.returns-clause-can
returns-clause-can g c =
    taken-can g.T.PartitionTask.task_state (map slot_pair c.args.slots.now) (table_in g.T.PartitionTask.task_state c.args.places.now.items) c.take_works.new.works.items (are g c) c.requires.ready c.requires.can_run

pub returns-clause-in_order : goal.returns-clause-in_order
returns-clause-in_order g c =
    taken-rise g.T.PartitionTask.task_state (map slot_pair c.args.slots.now) (table_in g.T.PartitionTask.task_state c.args.places.now.items) c.take_works.new.works.items (are g c) c.requires.placed
