use Rattle.std.proofs.Common.{◌≤◌, length, arith}
use Rattle.jb_texts.proofs.Fronts.{front-stopped, on-err, passes-none}
use Rattle.jb_texts.proofs.Parts.{nothing-printed, results-cut, results-passed, results-split}
use Rattle.jb_texts.proofs.report.outputs.write_results.Goals as goal

pub loop-from-init : goal.loop-from-init
loop-from-init g c = record { within = omega arith; passed = passes-none _ c.args.block.items _ (nothing-printed c.args.results.now) }

pub returns-in_err-block-clause-front : goal.returns-in_err-block-clause-front
returns-in_err-block-clause-front g c =
    let more = results-split c.args.results.now c.loop-from.from in
    on-err c.from_residual.result (front-stopped _ _ c.args.block.items _ _ more.0 _ c.loop-from.invariant.passed more.1)

pub returns-in_err-pass_on-clause-front : goal.returns-in_err-pass_on-clause-front
returns-in_err-pass_on-clause-front g c =
    let to = c.end_from-to.result in
    let within : to ≤ length c.args.results.now = omega (arith, c.len-in-loop-from.ensures, c.end_from-to.ensures.within) in
    on-err c.from_residual-in_err-pass_on.result
    (results-cut _ _ c.args.block.items _ _ c.args.results.now c.loop-from.from to c.end_from-to.ensures.more within c.loop-from.invariant.passed c.in_ok-block.ensures _ c.in_err-pass_on.ensures.front)

pub loop-from-preserved : goal.loop-from-preserved
loop-from-preserved g c =
    let to = c.end_from-to.result in
    let within : to ≤ length c.args.results.now = omega (arith, c.len-in-loop-from.ensures, c.end_from-to.ensures.within) in
    record {
      within = within;
      passed = results-passed _ _ c.args.block.items _ _ c.args.results.now c.loop-from.from to c.end_from-to.ensures.more within c.loop-from.invariant.passed c.in_ok-block.ensures _ _ c.in_ok-pass_on.ensures.passed;
    }
