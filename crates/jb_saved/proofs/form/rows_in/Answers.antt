use Rattle.std.proofs.Common.{◌≡◌, false, sym, subst, arith}
use Rattle.std.specs.Prelude.{IfSome}
use Rattle.std.proofs.lemmas.Grind.{common_steps}
use Rattle.jb_rules.specs.declared.row.Row.{Row}
use Rattle.jb_rules.specs.States.{is_running}
use Rattle.jb_saved.specs.inside.Forms.{AreStill}
use Rattle.jb_saved.proofs.RowByRow.{still_more}
use Rattle.jb_saved.proofs.form.rows_in.Goals as goal

pub loop-item-preserved : goal.loop-item-preserved
loop-item-preserved c =
    let calm = subst (λ o. IfSome o (λ (r : Row). is_running r.state ≡ false)) c.in_ok-row.ensures.ok_part c.row_of.ensures.still in
    record {
      form = grind (arith, common_steps);
      count = grind (arith, common_steps);
      still = subst AreStill (sym c.in_ok-push.ensures.items) (still_more c.loop-item.rows.items c.in_ok-row.row c.loop-item.invariant.still calm);
    }
