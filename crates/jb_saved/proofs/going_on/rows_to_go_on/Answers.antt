use Rattle.std.proofs.Common.{ap, ◌∙◌, map}
use Rattle.jb_saved.specs.GoingOn.{restarted}
use Rattle.jb_saved.proofs.GoneOn.{kept-restarted, unfailed-restarted}
use Rattle.jb_saved.proofs.going_on.rows_to_go_on.Goals as goal

pub returns-clause-kept : goal.returns-clause-kept
returns-clause-kept c =
    kept-restarted c.rows_stay_sound.ensures c.unfinished_rows_go_on.ensures c.args.saved.now c.in_ok-rows.rows.items c.rows.ensures.kept
    (c.in_ok-rows.ensures ∙ ap (map restarted) c.rows.ensures.rows)

pub returns-clause-unfailed : goal.returns-clause-unfailed
returns-clause-unfailed c = unfailed-restarted c.args.saved.now c.in_ok-rows.rows.items (c.in_ok-rows.ensures ∙ ap (map restarted) c.rows.ensures.rows)
