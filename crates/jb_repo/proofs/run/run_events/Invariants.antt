use Rattle.std.proofs.Common.{◌≡◌, ◌≤◌, length, take, vec_len, vec_capacity}
use Rattle.jb_repo.specs.Answers.{AppliesAll}
use Rattle.jb_repo.proofs.run.run_events.Given as goal

abbrev pub invariant-loop-event : goal.invariant-loop-event
invariant-loop-event l =
    AppliesAll l.fn.repo (take l.event-index l.events) l.answers.items l.repo
    × (vec_len l.answers ≡ l.event-index)
    × (length l.events ≤ vec_capacity l.answers)
