use Rattle.std.proofs.Common.{◌∙◌, true, false, sym, arith}
use Rattle.std.proofs.Math.Logic.{∥∥₁_elim}
use Rattle.std.proofs.lemmas.Bool.{and_from}
use Rattle.sqlite_wal.specs.Reads.{AreClean}
use Rattle.sqlite_trees.specs.Tree.{Trees}
use Rattle.sqlite.specs.Files.{file_state}
use Rattle.sqlite.specs.State.{HasCleanDisk}
use Rattle.jb_slice_file.specs.declared.stop.ProcessRun.{ProcessRun}
use Rattle.jb_slice_file.specs.Files.{HoldsRun, HasRunCheckpoints, Leaves, MayGoOn}
use Rattle.jb_slice_file.specs.ProcessRuns.{Leads}
use Rattle.jb_slice_file.proofs.Over.{run_is_left}
use Rattle.jb_slice_file.proofs.Somes.{some_both, some_from}
use Rattle.jb_slice_run.proofs.durable.process_runs.recorded_run.Goals as goal

-- a life that had the files open leaves a run
leaves_run : (g : _) (c : goal.After-stop_recording g) (process_run : ProcessRun g.row.D.Denot) → (AreClean g.D.Disk process_run.files.log process_run.files.db → HasCleanDisk (file_state c.run_over_files.new.conn))
    → (AreClean g.D.Disk process_run.files.log process_run.files.db → ((db : Trees) → (file_state c.run_over_files.new.conn).may_leave db → HasRunCheckpoints g.G.DiskHistory.is_so_far db) → Leaves g.D.Disk (HoldsRun g.G.DiskHistory.is_so_far) process_run.files)
    → Leads g.D.Disk c.args.files process_run (MayGoOn g.G.DiskHistory.is_so_far) (HoldsRun g.G.DiskHistory.is_so_far)
leaves_run g c process_run was run clean leaves image may =
    let late = was clean in
    let early : HasCleanDisk (file_state c.in-Ok.conn) = omega (arith, late, c.run_over_files.ensures.clean) in
    let opened = c.in-Ok.ensures.opened early in
    ∥∥₁_elim (c.in-Ok.ensures.found early leaves) squash₁ (λ h.
    run clean (λ db m.
    let r = c.run_over_files.ensures.crash g.N.Meaning.functions h.0
    (record { shown = record { clean = late; opened = opened; shows = c.run_over_files.ensures.shown opened h.0 h.1 }; stamps_are = c.requires.stamps; so_far = (c.requires.run h.0).0 h.2 }) db m in
    (r.0, r.1, (c.requires.run r.0).1 r.2)) image may)

pub returns-in-Ok : goal.returns-in-Ok
returns-in-Ok g c =
    let left = c.stop_recording.result in
    let e = c.stop_recording.ensures in
    let given = c.requires.given in
    some_from left _ _ (λ process_run is. run_is_left g.G.DiskHistory.is_so_far c.args.files process_run is.0
    (λ clean. and_from _ _ (sym (given.clean true) ∙ is.1.0 clean true) (sym (given.clean false) ∙ is.1.0 clean false)) (leaves_run g c process_run is.1.1.0 is.1.1.1))
    (some_both left _ _ e.usable (some_both left _ _ e.clean (some_both left _ _ e.open e.run)))
