use Rattle.sqlite_wal.specs.Files.{image_at}
use Rattle.sqlite.specs.Files.{file_state}
use Rattle.jb_slice_file.proofs.{Opened.shows_found, Opens.shows_none}
use Rattle.jb_slice_file.proofs.files.connect.Goals as goal

pub returns-in-Ok-clause-found : goal.returns-in-Ok-clause-found
returns-in-Ok-clause-found g c clean db all holds has =
    shows_found (file_state c.in-Ok.conn) (c.in-Ok.ensures.opened clean) db ((c.in-Ok.ensures.found clean).holds db holds) all has

pub returns-in-Ok-clause-nothing : goal.returns-in-Ok-clause-nothing
returns-in-Ok-clause-nothing g c clean nothing =
    shows_none (file_state c.in-Ok.conn) (c.in-Ok.ensures.opened clean) (image_at g.S.Start) nothing (c.in-Ok.ensures.found clean).reads
