use Rattle.std.proofs.Common.{rules, ◌≡◌, ◌∙◌, get_or, Err, arith}
use Rattle.jb_collect.proofs.Delivering.{next_text, stop_text}
use Rattle.jb_collect.proofs.delivery.tell_texts.Goals as goal

pub returns-in_err-collected : goal.returns-in_err-collected
returns-in_err-collected g c =
    let told : c.from_residual.result ≡ Err c.in_err-collected.field-0.0 = search rules in
    let is : c.as_slice.result.now ≡ get_or c.args.texts.now c.loop-text.text-index c.text-item.result = c.as_slice.ensures ∙ c.text-item.is in
    stop_text _ _ _ c.args.partition c.args.texts.now c.loop-text.text-index c.text-item.result c.as_slice.result.now c.in_err-collected.field-0.0 c.from_residual.result
    (omega arith) is c.loop-text.invariant c.in_err-collected.ensures told

pub loop-text-preserved : goal.loop-text-preserved
loop-text-preserved g c =
    let is : c.as_slice.result.now ≡ get_or c.args.texts.now c.loop-text.text-index c.text-item.result = c.as_slice.ensures ∙ c.text-item.is in
    next_text _ _ _ c.args.partition c.args.texts.now c.loop-text.text-index c.text-item.result c.as_slice.result.now c.in_ok-collected.field-0
    (omega arith) is c.loop-text.invariant c.in_ok-collected.ensures
