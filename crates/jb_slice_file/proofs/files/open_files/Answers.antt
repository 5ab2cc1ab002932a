use Rattle.std.proofs.Common.{[]}
use Rattle.sqlite.specs.Files.{file_state, image_of}
use Rattle.jb_slice_file.proofs.{Opened.shows_found, Opens.shows_none}
use Rattle.jb_slice_file.proofs.files.open_files.Goals as goal

pub returns : goal.returns
returns g c =
    let conn = c.in_ok-conn.ensures in
    let taken = c.in_ok-with_list.ensures in
    let s = file_state c.in_ok-conn.conn in record {
      end = taken.end;
      begun = λ clean. taken.begun clean (conn.opened (taken.early clean));
      found = λ clean db all holds has. let early = taken.early clean in
          taken.listed clean (conn.opened early) all (shows_found s (conn.opened early) db ((conn.finds early).holds db holds) all has);
      nothing = λ clean none. let early = taken.early clean in
          taken.listed clean (conn.opened early) [] (shows_none s (conn.opened early) (image_of g.D.Disk c.args.files) none (conn.finds early).reads);
      honest = λ clean. (conn.finds (taken.early clean)).honest;
    }
