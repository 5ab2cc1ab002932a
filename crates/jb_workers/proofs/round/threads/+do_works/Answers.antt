use Rattle.std.proofs.Common.{rules, ◌≡◌, ◌++◌, ◌∷◌, [], refl}
use Rattle.std.proofs.lemmas.List.Elements.{All-pop}
use Rattle.jb_base.proofs.Pairwise.{pairwise-push}
use Rattle.jb_workers.specs.Round.{IsReport}
use Rattle.jb_workers.specs.Turns.{MeetsWork}
use Rattle.jb_workers.specs.Works.{CanBegin}
use Rattle.jb_workers.specs.declared.round.report.Report.{Report}
use Rattle.jb_workers.proofs.round.threads.+do_works.Goals as goal

pub do_works-before-requires-clause-can : goal.do_works-before-requires-clause-can
do_works-before-requires-clause-can g t c κs within = (All-pop (λ w. CanBegin (g.T.PartitionTask.task_state w.task)) _ _ _ c.pop.ensures.items c.requires.can).0

pub returns-clause-reports : goal.returns-clause-reports
returns-clause-reports g t c =
    let report : Report _ = record { lane = c.in-Some.next.lane; done = c.in-Some-answer.done } in
    let pushed : c.in_ok-reports.reports.items ≡ c.in_ok-before.before.items ++ report ∷ [] = search rules in
    let kept : MeetsWork g.T.PartitionTask.task_state c.in-Some.next c.in-Some-answer.done = search rules in
    rw (c.in-Some.ensures.items, pushed) (pairwise-push (IsReport g.T.PartitionTask.task_state) _ _ c.in-Some.next report c.in_ok-before.ensures.reports (record { lane = refl; meets = kept }))
