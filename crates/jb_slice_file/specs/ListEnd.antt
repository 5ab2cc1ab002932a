-- Where a list ends.
use Rattle.std.specs.Prelude.{ℕ, ◌≡◌, ◌+◌, List, length}
use Rattle.jb_slice_file.specs.declared.list_end.ListEnd as declared
use Rattle.jb_slice_file.specs.CheckpointBytes.{CheckpointBytes}
use Rattle.jb_slice_file.specs.Chain.{last_link, link_of}

-- how many checkpoints the list has
abbrev pub count_of : declared.ListEnd → ℕ
count_of end = end.count

-- IT IS THE END OF THESE CHECKPOINTS: it has their number and their last link
pub record IsEndOf (end : declared.ListEnd) (all : List CheckpointBytes) : Type 0 where
  pub count : end.count ≡ length all
  pub link : end.link ≡ last_link all

-- the end with one checkpoint more
pub record IsAfter (end next : declared.ListEnd) (it : CheckpointBytes) : Type 0 where
  pub count : next.count ≡ end.count + 1
  pub link : next.link ≡ link_of end.link (end.count + 1) it
