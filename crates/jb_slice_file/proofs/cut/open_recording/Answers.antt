use Rattle.std.proofs.Common.{◌≡◌, ◌⊎◌, sym, subst, subst₂}
use Rattle.sqlite_wal.specs.{Files.outcomes, Recovery.Image}
use Rattle.sqlite.{specs.Effect.Database, specs.Files.file_state}
use Rattle.jb_slice_file.specs.{TableSchema.{checkpoint_schema, no_schema}, Files.HasRunCheckpoints}
use Rattle.jb_slice_file.proofs.Opens.{found_run}
use Rattle.jb_slice_file.proofs.cut.open_recording.Goals as goal

pub returns-in-Ok-clause-found : goal.returns-in-Ok-clause-found
returns-in-Ok-clause-found g c clean leaves =
    let so_far = g.G.DiskHistory.is_so_far in
    let stays = g.met.D.Disk.seen_may_stay in
    let found = c.in-Ok.ensures.found clean in
    let opened = c.in-Ok.ensures.opened clean in
    let s = file_state c.in-Ok.conn in
    let files = c.with_history.result in
    let image : Image = record { log = g.D.Disk.seen files.log.disk; db = g.D.Disk.seen files.db.disk } in
    let seen = subst₂ (λ log db. outcomes g.D.Disk log db image) c.with_history.ensures.log c.with_history.ensures.db
    (stays files.log.disk, stays files.db.disk) in
    let ours = subst (λ (d : Database). (d.schema ≡ no_schema) ⊎ (d.schema ≡ checkpoint_schema)) opened.0.clean c.in-Ok.ensures.own in
    subst (λ (d : Database). ∥ HasRunCheckpoints so_far d.trees ∥₁) (sym opened.0.clean)
    (found_run so_far image s.committed.trees (leaves image seen) found.reads found.holds s.committed.schema (opened.1 opened.0.is_open).1 ours)

pub returns-in-Err-Some-clause-over : goal.returns-in-Err-Some-clause-over
returns-in-Err-Some-clause-over g c = c.cut_short.ensures.over c.args.files c.with_history.result c.requires.given
    (λ image may. subst₂ (λ log db. outcomes g.D.Disk log db image) c.with_history.ensures.log c.with_history.ensures.db may)
    (rw c.in-Err-Some.field-0-is at c.in-Err-Some.ensures.unharmed)
