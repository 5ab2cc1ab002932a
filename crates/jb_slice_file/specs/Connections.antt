-- What a connection shows, and what a crash at this moment leaves of its files.
use Rattle.std.specs.Prelude.{◌≡◌, false, List, IsTrue}
use Rattle.sqlite.specs.State.{State, Opens, IsLive}
use Rattle.sqlite.specs.Tree.{Trees}
use Rattle.jb_slice_file.specs.CheckpointBytes.{CheckpointBytes}
use Rattle.jb_slice_file.specs.Rows.{HoldsList, StandsFor}

-- nothing was done since the open; the database obeys its schema
abbrev pub IsJustOpened : State → Type 0
IsJustOpened s = Opens s × IsLive s

-- A connection at rest that shows these checkpoints. A crash at this moment leaves them and nothing else.
pub record Keeps (s : State) (all : List CheckpointBytes) : Type 0 where
  pub autocommit : s.in_transaction ≡ false
  pub same : IsTrue s.is_open → s.now ≡ s.committed
  pub shows : HoldsList s.now all
  pub leaves : (db : Trees) → s.may_leave db → StandsFor db all

-- it shows what it showed before; a crash leaves that and nothing else
pub record IsAsItWas (old new : State) : Type 0 where
  pub now : new.now ≡ old.now
  pub leaves : (db : Trees) → new.may_leave db → db ≡ old.now.trees
