-- What a life leaves, by how it ended.
use Rattle.std.proofs.Common.{◌≡◌, ◌∙◌, List, IsTrue, true, false, inl, inr, rules, sym, true≢false}
use Rattle.std.{proofs.Math.Logic.∥∥₁_elim, proofs.lemmas.Bool.cases_Bool}
use Rattle.sqlite_disk.{specs.declared.Disk.Ghosts, specs.declared.Files.Files}
use Rattle.sqlite_wal.{proofs.LogLemmas.SeenMayStay, specs.Files.outcomes, specs.Reads.AreClean, specs.Recovery.Image}
use Rattle.sqlite.specs.{Files.LeavesFiles, declared.file.Leftover.Leftover}
use Rattle.jb_slice_file.specs.{CheckpointBytes.CheckpointBytes, declared.stop.ProcessRun.ProcessRun, Files.{HoldsRun, Leaves, LeavesImage, MayGoOn, has_store}, ProcessRuns.{IsProcessRunOver, Leads}}
use Rattle.jb_slice_file.proofs.Opens.{cut_goes_on, cut_may_go_on, cut_run, may_go_on, run_goes_on}

-- one that had the files open, and left a run
pub run_is_left : {D : Type 0} {g : Ghosts D} (so_far : List CheckpointBytes → Type 0) (before : Files D) (process_run : ProcessRun D)
    → IsTrue (g.is_usable process_run.files.log) × IsTrue (g.is_usable process_run.files.db)
    → (AreClean g process_run.files.log process_run.files.db → AreClean g before.log before.db)
    → Leads g before process_run (MayGoOn so_far) (HoldsRun so_far) → IsProcessRunOver g so_far before process_run
run_is_left so_far before process_run usable clean ran = search (rules, may_go_on, run_goes_on)

-- One whose open was cut. If it had a store and wrote nothing, the files leave what they could leave before. Else they leave what is left over.
module _ {D E : Type 0} (g : Ghosts D) {h : Ghosts E} (so_far : List CheckpointBytes → Type 0) (before : Files D) (process_run : ProcessRun D)
    (files : Files E) (rest : Leftover E h)
    (passed : (image : Image) → outcomes h files.log files.db image → outcomes g before.log before.db image)
    (same : process_run.is_loose ≡ false → IsTrue (has_store rest) → (image : Image) → outcomes g process_run.files.log process_run.files.db image → ∥ outcomes g before.log before.db image ∥₁)
    (left : AreClean g process_run.files.log process_run.files.db → LeavesFiles files rest × ((image : Image) → outcomes g process_run.files.log process_run.files.db image → LeavesImage rest image)) where
  kept : (Held : Image → Type 0) → (has_store rest ≡ false → LeavesFiles files rest → (image : Image) → LeavesImage rest image
      → Leaves h (λ i. ∥ Held i ∥₁) files → ∥ Held image ∥₁)
      → process_run.is_loose ≡ false → Leads g before process_run (λ i. ∥ Held i ∥₁) (λ i. ∥ Held i ∥₁)
  kept Held cut sure clean leaves image may = elim (cases_Bool (has_store rest)) [
    | inl store ↦ ∥∥₁_elim (same sure store image may) squash₁ (λ was. leaves image was)
    | inr bare ↦ cut bare (left clean).0 image ((left clean).1 image may) (λ i is. leaves i (passed i is))
  ]

  pub cut_is_left : SeenMayStay h → IsTrue (g.is_usable process_run.files.log) × IsTrue (g.is_usable process_run.files.db)
      → (AreClean g process_run.files.log process_run.files.db → AreClean g before.log before.db)
      → process_run.has_run ≡ false → IsProcessRunOver g so_far before process_run
  cut_is_left stays usable clean unrun = record {
    usable = usable;
    clean = clean;
    ran = λ runs. absurd (true≢false (sym runs ∙ unrun));
    cut = kept _ (cut_run so_far stays files rest);
    first = kept _ (cut_goes_on so_far stays files true rest);
    again = kept _ (cut_goes_on so_far stays files false rest);
    loose = λ clean leaves image may. cut_may_go_on so_far stays files rest (left clean).0 image ((left clean).1 image may) (λ i is. leaves i (passed i is));
  }
