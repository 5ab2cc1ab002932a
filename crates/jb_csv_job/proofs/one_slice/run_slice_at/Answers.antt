use Rattle.std.{proofs.Common.{List, [], inl, inr, subst, subst₂, sym}, proofs.Math.Logic.{∥∥₁_map}, specs.Arc.{arc_value}, specs.Prelude.{IfOk}}
use Rattle.sqlite.specs.Files.{file_state}
use Rattle.jb_slice_file.{specs.CheckpointBytes.{CheckpointBytes}, specs.Files.{HasRunCheckpoints}, proofs.Clean.{clean_before}}
use Rattle.jb_slice_run.specs.{Jobs.{stamps_in}, SliceBytes.{KeepsSlice}, Step.{AreStampsOf}, durable.Work.{IsResumed, slice_input_of}}
use Rattle.jb_slices.specs.Job.{Job, Limits}
use Rattle.jb_csv_job.specs.{Loop.{job_of}, Slices.{IsSliceEnd}}
use Rattle.jb_csv_job.proofs.one_slice.run_slice_at.Goals as goal

pub returns-clause-resumed : goal.returns-clause-resumed
returns-clause-resumed g c honest functions stamps holds =
    let work = c.args.work.now in
    let of = work.is_of in
    let number = c.args.number in
    let items = c.args.items.now in
    let f = g.F.RowFunction.answer (arc_value c.args.function.now) in
    let clean = c.closed.ensures.clean honest in
    let early = clean_before _ _ c.answered-answer.ensures.clean clean in
    let opened = c.in_ok-conn.ensures in
    let stamps-of : AreStampsOf functions f (stamps_in work.slice) = subst (AreStampsOf functions f) (sym of.stamps) stamps in
    let r : (all : List CheckpointBytes)
    × IsResumed (slice_input_of work.slice functions f number items) (stamps_in work.slice) (file_state c.in_ok-conn.conn) (file_state c.answered-answer.new.conn) all =
    elim holds [
      | inl h ↦ (
        h.1,
        record {
          shown = record { clean = clean; opened = opened.opened early; shows = opened.found early h.0 h.1 h.2 h.3 };
          stamps_are = stamps-of;
          so_far = subst (λ (j : Job). KeepsSlice j functions number items h.1) (sym of.identity) h.4;
        },
      )
      | inr none ↦ (
        [],
        record {
          shown = record { clean = clean; opened = opened.opened early; shows = opened.nothing early none };
          stamps_are = stamps-of;
          so_far = record { checkpoints = []; stored_as = tt; so_far = tt };
        },
      )
    ] in (
      subst₂ (λ (j : Job) (l : Limits). IfOk c.answered-answer.result (IsSliceEnd (record (job_of work f) { job = j; limits = l }) number items))
          of.identity of.limits (c.answered-answer.ensures.ended functions r.0 r.1),
      λ image may. ∥∥₁_map (c.closed.ensures.left honest image may) (λ x. (
        x.0,
        x.1,
        subst (λ (j : Job). HasRunCheckpoints (λ all. KeepsSlice j functions number items all) x.0) of.identity (c.answered-answer.ensures.crash functions r.0 r.1 x.0 x.2),
      )),
    )
