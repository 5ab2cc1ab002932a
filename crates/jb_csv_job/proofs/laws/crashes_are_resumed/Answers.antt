use Rattle.std.proofs.{Common.{inl}, Math.Logic.{∥∥₁_map}}
use Rattle.sqlite.specs.Files.{HoldsDatabase}
use Rattle.sqlite_pool.proofs.ResealLemmas.{adopts_of}
use Rattle.sqlite_trees.specs.Tree.{Trees}
use Rattle.sqlite_wal.specs.Recovery.{Image}
use Rattle.jb_slice_file.specs.Files.{HoldsWhole}
use Rattle.jb_csv_job.proofs.laws.crashes_are_resumed.Goals as goal

whole_is_database : (image : Image) (db : Trees) → HoldsWhole image db → HoldsDatabase image db
whole_is_database image db held =
    let it = held.2 in
    (held.0, held.1, record { pages = it.pages; wanted = it.wanted; schema = it.schema; found = adopts_of held.0 image it.pages it.found; ours = it.ours; reads = it.reads; sound = it.sound })

pub returns : goal.returns
returns c job functions number items image left = ∥∥₁_map left (λ x. inl (x.0, x.2.0, whole_is_database image x.0 x.1, x.2.1, x.2.2))
