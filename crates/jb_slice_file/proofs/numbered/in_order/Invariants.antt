use Rattle.std.proofs.Common.{◌≡◌, ◌++◌, map}
use Rattle.std.specs.Vec.Iter.{into_iter_items}
use Rattle.jb_slice_file.specs.{CheckpointBytes.checkpoint_bytes, Chain.{chained, last_link}, Numbered.{numbered, numbered_from}}
use Rattle.jb_slice_file.proofs.numbered.in_order.Given as goal

-- those so far are the first ones, and those to come stand behind them
abbrev pub invariant-found : goal.invariant-found
invariant-found l = record {
  list : map numbered l.fn.found.items ≡ numbered_from 1 (chained (map checkpoint_bytes l.all.items)) ++ map numbered (into_iter_items l.one-iterator);
  last : l.last ≡ last_link (map checkpoint_bytes l.all.items);
}
