use Rattle.std.proofs.Common.{rules, ◌≡◌, ◌++◌, ◌∷◌, [], sym, ◌∙◌, Ok, Err}
use Rattle.jb_base.proofs.Pairwise.{pairwise-push}
use Rattle.jb_workers.specs.inside.Gathered.{lower}
use Rattle.jb_workers.proofs.Gathering.{found-done, found-refused, never-none}
use Rattle.jb_workers.proofs.round.report.all_done.Goals as goal

pub loop-lane-preserved-else-is_err : goal.loop-lane-preserved-else-is_err
loop-lane-preserved-else-is_err g c =
    let pushed : c.push.new.self.items ≡ c.loop-lane.dones.items ++ c.in-Ok.done ∷ [] = search rules in
    let is : c.in-Some.field-0.done ≡ Ok c.in-Ok.done = search rules in
    ((λ none. rw pushed (pairwise-push (λ r d. r.done ≡ Ok d) _ _ _ _ (c.loop-lane.invariant.0 none) is)), found-done _ _ _ _ c.loop-lane.invariant.1 is)

pub loop-lane-preserved : goal.loop-lane-preserved
loop-lane-preserved g c =
    let is : c.in-Some.field-0.done ≡ Err c.in-Err.error = search rules in
    let made : c.lower-refused.result ≡ lower c.loop-lane.refused c.in-Some.field-0.lane c.in-Err.error = search rules in
    ((λ none. absurd (never-none c.loop-lane.refused c.in-Some.field-0.lane c.in-Err.error (sym made ∙ none))), rw made (found-refused _ _ _ _ c.loop-lane.invariant.1 is))
