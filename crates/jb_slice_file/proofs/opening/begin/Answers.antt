use Rattle.std.proofs.Common.{◌≡◌, inl, rules}
use Rattle.std.proofs.lemmas.Result.{IfOk-at_ok}
use Rattle.sqlite.specs.Held.{state}
use Rattle.jb_slice_file.specs.{TableSchema.checkpoint_schema}
use Rattle.jb_slice_file.proofs.{Opened.{is_sound, keeps_found}, Handed.each_ok}
use Rattle.jb_slice_file.proofs.opening.begin.Goals as goal

pub returns-clause-begun : goal.returns-clause-begun
returns-clause-begun g c clean opened = each_ok c.list.result _ (λ found is.
    let old = state g.S.Store c.args.conn.now in
    let settled = g.met.S.Store.settled c.args.conn.now.store in
    let ours : old.now.schema ≡ checkpoint_schema = search rules in
    let rows = IfOk-at_ok _ is (c.list.ensures.found clean ours (is_sound old settled opened ours)) in
    (IfOk-at_ok _ is (c.list.ensures.kept clean _ (keeps_found old settled opened ours _ rows)), inl (record { schema = ours; rows = rows })))
