use Rattle.std.proofs.Common.{rules, ◌≡◌, sym, subst}
use Rattle.jb_step.specs.preparing.Setup.{fresh_rows}
use Rattle.jb_step.specs.inside.preparing.Preparing.{MayOpen}
use Rattle.jb_step.proofs.restarts.Beginning.{fresh-may-open}
use Rattle.jb_step.proofs.preparing.prepared.Prepared.fresh.Goals as goal

pub with_rows-requires : goal.with_rows-requires
with_rows-requires c =
    let rows_are : c.in_ok-rows.rows.items ≡ fresh_rows c.args.plan.now.ranges = search rules in
    subst MayOpen (sym rows_are) (fresh-may-open c.rows_stay_sound.ensures c.args.plan.now c.ranges-2.ensures.checked)
