use Rattle.std.proofs.Common.{◌*◌, ◌≤◌, length, sum, arith}
use Rattle.jb_job.specs.declared.field.Field.TheVariants as field
use Rattle.jb_base.specs.Limits.{max_chunks}
use Rattle.jb_documents.proofs.Counts.{sum-each}
use Rattle.jb_documents.proofs.plan.counts.counts.Goals as goal

pub are_few-requires : goal.are_few-requires
are_few-requires c =
    let bounded : sum c.in_ok-counts.counts.items ≤ length c.in_ok-items.items.now.items * max_chunks =
    sum-each field.Counts max_chunks c.in_ok-items.items.now.items c.in_ok-counts.counts.items c.in_ok-counts.ensures.value in
    let short = c.in_ok-items.ensures.short in
    rw c.deref.ensures.value (omega arith)
