use Rattle.std.proofs.Common.{[]}
use Rattle.jb_slice_file.proofs.files.open.Goals as goal

pub returns : goal.returns
returns g c =
    let conn = c.in_ok-conn.ensures in
    let taken = c.in_ok-with_list.ensures in record {
      end = taken.end;
      begun = λ clean. taken.begun clean (conn.opened (taken.early clean));
      found = λ clean db all holds has. taken.listed clean (conn.opened (taken.early clean)) all (conn.found (taken.early clean) db all holds has);
      nothing = λ clean none. taken.listed clean (conn.opened (taken.early clean)) [] (conn.nothing (taken.early clean) none);
    }
