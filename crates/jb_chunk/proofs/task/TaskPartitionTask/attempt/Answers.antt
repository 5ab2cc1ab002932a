use Rattle.std.proofs.Common.{◌≤◌, refl, ap, arith}
use Rattle.jb_rules.specs.declared.row.Row.{Row}
use Rattle.jb_base.specs.declared.range.Range.{Range}
use Rattle.jb_chunk.proofs.Attempts.{done-attempt, done-ready, done-few, undone-restored, undone-attempt, undone-ready, can-reopen, repeated-row, counted-row}
use Rattle.jb_chunk.proofs.RunsAlone.{left-waiting}
use Rattle.jb_chunk.proofs.task.TaskPartitionTask.attempt.Goals as goal

pub ended_row-after-requires-clause-from : goal.ended_row-after-requires-clause-from
ended_row-after-requires-clause-from g c =
    let at = ap (λ (x : Row). x.at) (repeated-row _ c.try_block.new.row (c.in-Ok.ensures.ok c.args.self.partition).0) in
    let lt = left-waiting c.args.self.row c.requires.ready.sound c.requires.waiting in
    let some = c.block-block.ensures.some lt in
    omega (arith, at, some)

pub ended_row-after-requires-clause-to : goal.ended_row-after-requires-clause-to
ended_row-after-requires-clause-to g c =
    let hi = ap (λ (x : Row). x.hi) (repeated-row _ c.try_block.new.row (c.in-Ok.ensures.ok c.args.self.partition).0) in
    let within = c.block-block.ensures.within in
    omega (arith, hi, within)

pub ended_row-after-requires-clause-room : goal.ended_row-after-requires-clause-room
ended_row-after-requires-clause-room g c =
    let rollback = ap (λ (x : Row). x.counts.rollback) (repeated-row _ c.try_block.new.row (c.in-Ok.ensures.ok c.args.self.partition).0) in
    let room = c.requires.room in
    omega (arith, rollback, room)

pub ended_row-after-requires-clause-counted : goal.ended_row-after-requires-clause-counted
ended_row-after-requires-clause-counted g c =
    let hi = ap (λ (b : Range). b.hi) c.block-block.ensures.block in
    let lt = left-waiting c.args.self.row c.requires.ready.sound c.requires.waiting in
    let some = c.block-block.ensures.some lt in
    let from : c.args.self.row.at ≤ c.block-block.result.hi = omega (arith, some) in
    counted-row _ _ c.try_block.new.row c.in-Ok.end _ c.requires.ready hi from (c.in-Ok.ensures.ok c.args.self.partition)

pub overflow_sub-result : goal.overflow_sub-result
overflow_sub-result g c =
    let in_place = ap (λ (x : Row). x.in_place) (repeated-row _ c.try_block.new.row (c.in-Ok.ensures.ok c.args.self.partition).0) in
    omega (arith, in_place)

pub returns-in-Ok-values_after-clause-attempt : goal.returns-in-Ok-values_after-clause-attempt
returns-in-Ok-values_after-clause-attempt g c =
    let hi = ap (λ (b : Range). b.hi) c.block-block.ensures.block in
    let lt = left-waiting c.args.self.row c.requires.ready.sound c.requires.waiting in
    let some = c.block-block.ensures.some lt in
    let from : c.args.self.row.at ≤ c.block-block.result.hi = omega (arith, some) in
    done-attempt _ _ c.try_block.new.row c.in-Ok.end _ c.ended_row-after.result _ _ _ c.requires.ready hi from (c.in-Ok.ensures.ok c.args.self.partition) c.ended_row-after.ensures.row c.in-Ok-values_after.ensures refl refl

pub returns-in-Ok-values_after-clause-ready : goal.returns-in-Ok-values_after-clause-ready
returns-in-Ok-values_after-clause-ready g c =
    let hi = ap (λ (b : Range). b.hi) c.block-block.ensures.block in
    done-ready _ _ c.try_block.new.row c.in-Ok.end _ c.ended_row-after.result _ c.requires.ready c.in-Ok.ensures.sound c.ended_row-after.ensures.sound hi (c.in-Ok.ensures.ok c.args.self.partition) c.ended_row-after.ensures.row refl

pub unfinished-requires-in-Err-values_after-clause-from : goal.unfinished-requires-in-Err-values_after-clause-from
unfinished-requires-in-Err-values_after-clause-from g c =
    (can-reopen _ c.try_block.new.row c.in-Ok.end _ c.requires.ready c.in-Ok.ensures.sound (c.in-Ok.ensures.ok c.args.self.partition)).from

pub unfinished-requires-in-Err-values_after-clause-to : goal.unfinished-requires-in-Err-values_after-clause-to
unfinished-requires-in-Err-values_after-clause-to g c =
    (can-reopen _ c.try_block.new.row c.in-Ok.end _ c.requires.ready c.in-Ok.ensures.sound (c.in-Ok.ensures.ok c.args.self.partition)).to

pub unfinished-requires-in-Err-values_after-clause-count : goal.unfinished-requires-in-Err-values_after-clause-count
unfinished-requires-in-Err-values_after-clause-count g c =
    (can-reopen _ c.try_block.new.row c.in-Ok.end _ c.requires.ready c.in-Ok.ensures.sound (c.in-Ok.ensures.ok c.args.self.partition)).count

pub returns-in-Err-values_after-clause-attempt : goal.returns-in-Err-values_after-clause-attempt
returns-in-Err-values_after-clause-attempt g c =
    let left = c.unfinished-in-Err-values_after.ensures in
    let restored = undone-restored _ c.try_block.new.row c.in-Ok.end _ c.requires.ready c.in-Ok.ensures.sound (c.in-Ok.ensures.ok c.args.self.partition) in
    undone-attempt _ _ _ _ _ _ left.outcome left.values left.again
    (λ i. record { partition = left.partition i; row = left.row i; rules = (left.rules i); item_count = left.item_count i; artifacts = left.artifacts i }) restored

pub returns-in-Err-values_after-clause-ready : goal.returns-in-Err-values_after-clause-ready
returns-in-Err-values_after-clause-ready g c =
    let left = c.unfinished-in-Err-values_after.ensures in
    let restored = undone-restored _ c.try_block.new.row c.in-Ok.end _ c.requires.ready c.in-Ok.ensures.sound (c.in-Ok.ensures.ok c.args.self.partition) in
    undone-ready _ _ _ c.requires.ready restored
    (λ i. record { partition = left.partition i; row = left.row i; rules = (left.rules i); item_count = left.item_count i; artifacts = left.artifacts i })

pub returns-in-Ok-values_after-clause-few : goal.returns-in-Ok-values_after-clause-few
returns-in-Ok-values_after-clause-few g c =
    done-few _ c.try_block.new.row _ (c.in-Ok.ensures.ok c.args.self.partition).0 c.requires.ready refl
