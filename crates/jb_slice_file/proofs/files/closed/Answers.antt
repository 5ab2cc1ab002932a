use Rattle.std.proofs.Common.{subst, ◌∙◌, arith}
use Rattle.std.proofs.Math.Logic.{∥∥₁_map}
use Rattle.sqlite_wal.{specs.Files.outcomes, specs.Reads.AreClean}
use Rattle.sqlite_pool.proofs.StateLemmas.{clean_is, may_leave_is}
use Rattle.sqlite_trees.{specs.Tree.Trees, specs.View.IsClean, proofs.Doubt.no_doubt}
use Rattle.sqlite_store.specs.FileStore.{view}
use Rattle.sqlite.specs.Files.{file_state}
use Rattle.jb_slice_file.specs.Files.{HoldsWhole}
use Rattle.jb_slice_file.proofs.Pages.{leaves_whole}
use Rattle.jb_slice_file.proofs.files.closed.Goals as goal

pub returns : goal.returns
returns g c =
    let store = c.into_store.result in
    let was = c.into_store.ensures in
    let sure = subst (λ p. AreClean g.D.Disk p.0 p.1) c.close.ensures in record {
      clean = λ clean. let none : IsClean (view store) = no_doubt _ (clean_is store.pool ∙ sure clean) in omega (arith, none, was.quiet.clean);
      left = λ clean image may.
          let none : IsClean (view store) = no_doubt _ (clean_is store.pool ∙ sure clean) in
          let may_be = may_leave_is store.pool image (sure clean) (subst (λ p. outcomes g.D.Disk p.0 p.1 image) c.close.ensures may) in
          ∥∥₁_map (leaves_whole store (was.numbered none) (was.sound none) image may_be)
          (λ x. let r : (db : Trees) × HoldsWhole image db × (file_state c.args.conn).may_leave db = (x.0, x.2, was.quiet.outcomes x.0 x.1) in r);
    }
