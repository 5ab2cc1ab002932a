use Rattle.std.proofs.Common.{rules, ◌≡◌, ◌++◌, ◌∷◌, []}
use Rattle.std.proofs.lemmas.List.Elements.{All-push}
use Rattle.jb_workers.specs.Works.{CanBegin}
use Rattle.jb_workers.specs.declared.worker.lane_work.Work.{Work}
use Rattle.jb_step_tests.proofs.workers.tasks.with_work.Goals as goal

pub returns : goal.returns
returns g c =
    let work : Work _ = record { lane = c.args.lane; task = c.args.task } in
    let pushed : c.push.new.self.items ≡ c.args.works.items ++ work ∷ [] = search rules in
    let can : CanBegin (g.T.PartitionTask.task_state c.args.task) = record { waiting = search rules; ready = search rules } in
    rw pushed (All-push (λ w. CanBegin (g.T.PartitionTask.task_state w.task)) _ work c.requires.all can)
