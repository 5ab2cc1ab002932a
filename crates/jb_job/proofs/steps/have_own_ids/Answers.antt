use Rattle.std.proofs.Common.{◌≡◌, get_or, take, true, false, true≢false, rules, arith, sym}
use Rattle.std.specs.Prelude.{bytes_eq}
use Rattle.std.specs.List.{list_any}
use Rattle.jb_job.proofs.Kept.{none-own, more-own, taken-id}
use Rattle.jb_job.proofs.steps.have_own_ids.Goals as goal

pub loop-i-init : goal.loop-i-init
loop-i-init c = none-own

pub returns-then-has_id : goal.returns-then-has_id
returns-then-has_id c =
    let steps = c.args.steps.now in
    let i = c.loop-i.i in
    let taken : list_any (λ e. bytes_eq e.id (get_or steps i c.index-steps-i.result).id) (take i steps) ≡ true = search rules in
    (λ no. absurd (true≢false (sym no)), λ own. absurd (taken-id steps i c.index-steps-i.result (omega arith) taken own))

pub loop-i-preserved : goal.loop-i-preserved
loop-i-preserved c =
    let steps = c.args.steps.now in
    let i = c.loop-i.i in
    let new : list_any (λ e. bytes_eq e.id (get_or steps i c.index-steps-i.result).id) (take i steps) ≡ false = search rules in
    more-own steps i c.index-steps-i.result (omega arith) c.loop-i.invariant new
