use Rattle.std.proofs.Common.{ap, arith}
use Rattle.jb_rules.specs.declared.row.Row.{Row}
use Rattle.jb_chunk.proofs.RunsAlone.{begun, has-room, commit-ends, commit-next, roll-next, fail-ends, breaks-off}
use Rattle.jb_chunk.proofs.PlainRuns.{plain-alone, never-fails}
use Rattle.jb_chunk.proofs.alone.run_alone.Goals as goal

pub loop-task-init : goal.loop-task-init
loop-task-init g c = record {
  waiting = c.requires.waiting;
  room = has-room (g.T.PartitionTask.task_state c.args.task) c.requires.ready c.requires.room c.requires.repeats;
  ready = c.requires.ready;
  reached = begun _;
}

pub returns-then-row-clause-alone : goal.returns-then-row-clause-alone
returns-then-row-clause-alone g c =
    let task_state = g.T.PartitionTask.task_state in
    let loop = c.loop-task.invariant in
    let done = rw c.in-Committed.is at c.attempt-next.ensures.attempt in
    let at = ap (λ (r : Row). r.at) c.row.ensures in
    let hi = ap (λ (r : Row). r.hi) c.row-in-Committed.ensures in
    commit-ends c.chunks_follow_one_another.ensures (task_state c.args.task) (task_state c.loop-task.task) (task_state c.attempt-next.result.task) _ _ _ loop.ready loop.waiting loop.reached done (omega (arith, at, hi, c.if-row.true))

pub returns-then-row-clause-plain : goal.returns-then-row-clause-plain
returns-then-row-clause-plain g c =
    let task_state = g.T.PartitionTask.task_state in
    let loop = c.loop-task.invariant in
    let done = rw c.in-Committed.is at c.attempt-next.ensures.attempt in
    let at = ap (λ (r : Row). r.at) c.row.ensures in
    let hi = ap (λ (r : Row). r.hi) c.row-in-Committed.ensures in
    let ended = commit-ends c.chunks_follow_one_another.ensures (task_state c.args.task) (task_state c.loop-task.task) (task_state c.attempt-next.result.task) _ _ _ loop.ready loop.waiting loop.reached done (omega (arith, at, hi, c.if-row.true)) in
    plain-alone c.chunks_follow_one_another.ensures (task_state c.args.task) (task_state c.attempt-next.result.task) c.requires.ready c.requires.waiting ended.0

pub loop-task-smaller-else-row : goal.loop-task-smaller-else-row
loop-task-smaller-else-row g c =
    let task_state = g.T.PartitionTask.task_state in
    let loop = c.loop-task.invariant in
    let done = rw c.in-Committed.is at c.attempt-next.ensures.attempt in
    let at = ap (λ (r : Row). r.at) c.row.ensures in
    let hi = ap (λ (r : Row). r.hi) c.row-in-Committed.ensures in
    let next = commit-next c.chunks_follow_one_another.ensures (task_state c.args.task) (task_state c.loop-task.task) (task_state c.attempt-next.result.task) _ _ _ loop.ready loop.waiting loop.room loop.reached done (omega (arith, at, hi, c.if-row.false, c.attempt-next.ensures.ready.sound.placed.at_to)) in
    next.fewer

pub loop-task-preserved-else-row : goal.loop-task-preserved-else-row
loop-task-preserved-else-row g c =
    let task_state = g.T.PartitionTask.task_state in
    let loop = c.loop-task.invariant in
    let done = rw c.in-Committed.is at c.attempt-next.ensures.attempt in
    let at = ap (λ (r : Row). r.at) c.row.ensures in
    let hi = ap (λ (r : Row). r.hi) c.row-in-Committed.ensures in
    let next = commit-next c.chunks_follow_one_another.ensures (task_state c.args.task) (task_state c.loop-task.task) (task_state c.attempt-next.result.task) _ _ _ loop.ready loop.waiting loop.room loop.reached done (omega (arith, at, hi, c.if-row.false, c.attempt-next.ensures.ready.sound.placed.at_to)) in
    record { waiting = next.waiting; room = next.room; ready = c.attempt-next.ensures.ready; reached = next.reached }

pub loop-task-smaller : goal.loop-task-smaller
loop-task-smaller g c =
    let task_state = g.T.PartitionTask.task_state in
    let loop = c.loop-task.invariant in
    let done = rw c.in-Rolled.is at c.attempt-next.ensures.attempt in
    let next = roll-next (task_state c.args.task) (task_state c.loop-task.task) (task_state c.attempt-next.result.task) _ _ _ loop.waiting loop.room loop.reached done in
    next.fewer

pub loop-task-preserved : goal.loop-task-preserved
loop-task-preserved g c =
    let task_state = g.T.PartitionTask.task_state in
    let loop = c.loop-task.invariant in
    let done = rw c.in-Rolled.is at c.attempt-next.ensures.attempt in
    let next = roll-next (task_state c.args.task) (task_state c.loop-task.task) (task_state c.attempt-next.result.task) _ _ _ loop.waiting loop.room loop.reached done in
    record { waiting = next.waiting; room = next.room; ready = c.attempt-next.ensures.ready; reached = next.reached }

pub returns-in-Failed-clause-alone : goal.returns-in-Failed-clause-alone
returns-in-Failed-clause-alone g c =
    let task_state = g.T.PartitionTask.task_state in
    let loop = c.loop-task.invariant in
    let done = rw c.in-Failed.is at c.attempt-next.ensures.attempt in
    fail-ends (task_state c.args.task) (task_state c.loop-task.task) (task_state c.attempt-next.result.task) _ _ _ loop.ready loop.waiting loop.reached done

pub returns-in-Failed-clause-plain : goal.returns-in-Failed-clause-plain
returns-in-Failed-clause-plain g c =
    let task_state = g.T.PartitionTask.task_state in
    let loop = c.loop-task.invariant in
    let done = rw c.in-Failed.is at c.attempt-next.ensures.attempt in
    let ended = fail-ends (task_state c.args.task) (task_state c.loop-task.task) (task_state c.attempt-next.result.task) _ _ _ loop.ready loop.waiting loop.reached done in
    never-fails c.chunks_follow_one_another.ensures (task_state c.args.task) (task_state c.attempt-next.result.task) c.requires.ready c.requires.waiting ended.0 ended.1

pub returns-in-NoMemory-clause-alone : goal.returns-in-NoMemory-clause-alone
returns-in-NoMemory-clause-alone g c =
    let task_state = g.T.PartitionTask.task_state in
    let loop = c.loop-task.invariant in
    let unfinished = rw c.in-NoMemory.is at c.attempt-next.ensures.attempt in
    breaks-off (task_state c.args.task) (task_state c.loop-task.task) (task_state c.attempt-next.result.task) loop.ready loop.waiting loop.reached unfinished.2
