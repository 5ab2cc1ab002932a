use Rattle.std.proofs.Common.{◌≡◌, ◌⊎◌, refl, sym, ap, subst, arith}
use Rattle.std.proofs.Math.Logic.{∥∥₁_map}
use Rattle.sqlite.specs.State.{HasCleanDisk}
use Rattle.sqlite.specs.Files.{file_state, image_of}
use Rattle.sqlite.specs.Effect.{Database}
use Rattle.jb_slice_file.specs.Rows.{Has}
use Rattle.jb_slice_file.specs.TableSchema.{checkpoint_schema, no_schema}
use Rattle.jb_slice_file.proofs.Opens.{found_run}
use Rattle.jb_slice_file.proofs.Stages.{begins, one_process_run}
use Rattle.jb_slice_run.proofs.durable.process_runs.through_crashes.Goals as goal

pub process_runs-init : goal.process_runs-init
process_runs-init g c = record { log = c.requires.log; db = c.requires.db; stands = λ clean begun. begins _ _ begun; counted = refl }

pub process_runs-preserved : goal.process_runs-preserved
process_runs-preserved g c =
    let over = c.in_ok-process_run.ensures in
    record {
      log = over.usable.0;
      db = over.usable.1;
      stands = λ clean begun. rw c.in_ok-is_sure.ensures.sure
          (one_process_run _ _ _ _ c.in_ok-is_sure.ensures.known clean over (c.process_runs.invariant.stands (over.clean clean) begun));
      counted = omega (arith, c.process_runs.invariant.counted);
    }

pub returns-in-Ok-run_over_files-clause-whole : goal.returns-in-Ok-run_over_files-clause-whole
returns-in-Ok-run_over_files-clause-whole g c clean begun done =
    let left = c.process_runs.left in
    let s = file_state c.in-Ok.conn in
    let stays = g.met.D.Disk.seen_may_stay in
    let early : HasCleanDisk s = omega (arith, clean, c.run_over_files.ensures.clean) in
    let opened = c.in-Ok.ensures.opened early in
    let found = c.in-Ok.ensures.found early in
    let at = c.process_runs.invariant.stands found.honest begun in
    let run = found_run _ _ s.committed.trees (at.all (image_of g.D.Disk left) (stays left.log, stays left.db)) found.reads found.holds s.committed.schema
    (opened.1 opened.0.is_open).1 (subst (λ (d : Database). (d.schema ≡ no_schema) ⊎ (d.schema ≡ checkpoint_schema)) opened.0.clean c.in-Ok.ensures.own) in
    ∥∥₁_map run (λ h.
    let has = subst (λ t. Has t h.0) (sym (ap (λ (d : Database). d.trees) opened.0.clean)) h.1 in
    c.in-Ok-run_over_files.ensures.done g.N.Meaning.functions h.0
    (record { shown = record { clean = clean; opened = opened; shows = c.run_over_files.ensures.shown opened h.0 has }; stamps_are = c.requires.stamps; so_far = h.2 }) done)
