use Rattle.std.proofs.Common.{◌≡◌, ◌∙◌, arith, true, false, refl, sym, subst}
use Rattle.std.{proofs.Math.Logic.∥∥₁_map, proofs.lemmas.Bool.and_from}
use Rattle.sqlite_disk.specs.declared.Disk.{Ghosts}
use Rattle.sqlite_wal.{specs.Files.outcomes, specs.Reads.AreClean, specs.Recovery.Image}
use Rattle.sqlite_pool.proofs.StateLemmas.{clean_is, may_leave_is}
use Rattle.sqlite.{specs.Closing.files_left, specs.declared.file.Leftover.Leftover, specs.Files.IsCleanLeft}
use Rattle.jb_slice_file.specs.{RecordingDisk.disk_of, Files.LeavesImage}
use Rattle.jb_slice_file.proofs.Over.{cut_is_left}
use Rattle.jb_slice_file.proofs.cut.cut_short.Goals as goal
use Rattle.sqlite.specs.declared.file.Leftover.TheVariants as left

-- what is known of the files that are left over is known of what has them
known_left : {D : Type 0} {g : Ghosts D} (rest : Leftover D g) → AreClean g (files_left rest).0 (files_left rest).1
    → IsCleanLeft rest × ((image : Image) → outcomes g (files_left rest).0 (files_left rest).1 image → LeavesImage rest image)
known_left (left.Files now) clean = (clean, λ image may. may)
known_left (left.Unopened now) clean = (clean_is now.pool ∙ clean, λ image. may_leave_is now.pool image clean)
known_left (left.Store it) clean = (clean_is it.pool ∙ clean, λ image. may_leave_is it.pool image clean)

pub returns-clause-over : goal.returns-clause-over
returns-clause-over g c before files given passed unharmed =
    let e = c.in_ok-files.ensures in
    cut_is_left g.D.Disk g.G.DiskHistory.is_so_far before _ files c.args.left passed
    (λ sure store image may. let unwritten : c.in_ok-files.has_written ≡ false = grind arith in
    ∥∥₁_map (e.same unwritten image may) (λ was. ((given.left true image.log).0 was.0, (given.left false image.db).0 was.1)))
    (λ clean. let known = known_left c.args.left (subst (λ p. AreClean g.D.Disk (disk_of p.0) (disk_of p.1)) c.into_files.ensures (e.sure clean)) in
    (unharmed known.0, λ i may. known.1 i (subst (λ p. outcomes g.D.Disk (disk_of p.0) (disk_of p.1) i) c.into_files.ensures (e.left i may))))
    (λ w. g.met.D.Disk.seen_may_stay w.disk) e.usable
    (λ clean. and_from _ _ (sym (given.clean true) ∙ e.clean clean true) (sym (given.clean false) ∙ e.clean clean false)) refl
