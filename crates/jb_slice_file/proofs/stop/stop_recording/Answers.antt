use Rattle.std.proofs.Math.Logic.{∥∥₁_map}
use Rattle.sqlite_trees.specs.Tree.{Trees}
use Rattle.jb_slice_file.specs.Files.{HasRunCheckpoints, HoldsWhole}
use Rattle.jb_slice_file.proofs.stop.stop_recording.Goals as goal

pub returns-clause-run : goal.returns-clause-run
returns-clause-run g c clean each image may =
    ∥∥₁_map (c.closed.ensures.left (c.in_ok-files.ensures.sure clean) image (c.in_ok-files.ensures.left image may))
    (λ x. let run : (db : Trees) × HoldsWhole image db × HasRunCheckpoints g.G.DiskHistory.is_so_far db = (x.0, x.1, each x.0 x.2) in run)
