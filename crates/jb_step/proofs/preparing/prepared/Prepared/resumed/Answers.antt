use Rattle.jb_step.proofs.restarts.Beginning.{saved-may-open}
use Rattle.jb_step.proofs.preparing.prepared.Prepared.resumed.Goals as goal

pub with_rows-requires : goal.with_rows-requires
with_rows-requires c =
    let rows = c.in_ok-rows.ensures in
    saved-may-open (record { step = c.held.result.now.step; rows = c.in_ok-rows.rows.items }) rows.kept rows.unfailed
