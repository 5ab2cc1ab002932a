use Rattle.std.proofs.Common.{◌++◌, ◌+◌, Some, sym, ◌∙◌, ap, append_assoc, arith}
use Rattle.std.proofs.lemmas.Result.{on_err_weaker}
use Rattle.std.proofs.lemmas.Slice.{between_to_end}
use Rattle.std.proofs.KnownBytes.{Appends-trans}
use Rattle.jb_cert.specs.WrapAround.{slots_of_round, wrapped_rounds}
use Rattle.jb_texts.specs.PlanText.{round_line}
use Rattle.jb_texts.proofs.Writing.{appends-text, line-on, lines-split}
use Rattle.jb_texts.proofs.Fronts.{front-passing, front-waiting, on-err, waits-more}
use Rattle.jb_texts.proofs.plan.lines.write_lines.Goals as goal

pub returns-in_err-write_all-clause-front : goal.returns-in_err-write_all-clause-front
returns-in_err-write_all-clause-front g c =
    let load = c.args.cursor.now in
    let before = c.loop-round.invariant in
    let rest = lines-split load.threads 0 c.loop-round.round (wrapped_rounds load.counts load.threads) in
    on-err c.from_residual.result (front-waiting _ _ before.0 _ c.args.block.items _ rest.0 _ before.1 before.2 rest.1)

pub returns-in_err-pass_on-clause-front : goal.returns-in_err-pass_on-clause-front
returns-in_err-pass_on-clause-front g c =
    let load = c.args.cursor.now in
    let k = c.loop-round.round in
    let before = c.loop-round.invariant in
    let next = line-on load.counts load.threads k (rw c.rounds-round-end.ensures.length c.loop-round-test.true) (rw (sym c.rounds-round-end.ensures.bound) c.loop-round-test.true) in
    let rest = lines-split load.threads 0 (k + 1) (wrapped_rounds load.counts load.threads) in
    let line = round_line load.threads k (slots_of_round load.counts load.threads k) in
    let is = between_to_end c.write_round-begin.new.line c.write_round-begin.result 2070 (omega (arith, c.write_round-begin.array_long)) ∙ c.write_round-begin.ensures.line in
    let waits = waits-more before.0 c.loop-round.block.items c.write_all.new.self.items line c.args.block.items _ _ before.2 (appends-text (Some c.loop-round.block.items) (Some c.write_all.new.self.items) _ line is c.in_ok-write_all.ensures.bytes) next in
    on-err c.from_residual-in_err-pass_on.result (front-passing _ _ _ before.0 _ c.args.block.items _ rest.0 _ before.1 c.in_err-pass_on.ensures.front waits rest.1)

pub loop-round-preserved : goal.loop-round-preserved
loop-round-preserved g c =
    let load = c.args.cursor.now in
    let k = c.loop-round.round in
    let before = c.loop-round.invariant in
    let next = line-on load.counts load.threads k (rw c.rounds-round-end.ensures.length c.loop-round-test.true) (rw (sym c.rounds-round-end.ensures.bound) c.loop-round-test.true) in
    let on = c.in_ok-pass_on.ensures.passed in
    let line = round_line load.threads k (slots_of_round load.counts load.threads k) in
    let is = between_to_end c.write_round-begin.new.line c.write_round-begin.result 2070 (omega (arith, c.write_round-begin.array_long)) ∙ c.write_round-begin.ensures.line in
    let waits = waits-more before.0 c.loop-round.block.items c.write_all.new.self.items line c.args.block.items _ _ before.2 (appends-text (Some c.loop-round.block.items) (Some c.write_all.new.self.items) _ line is c.in_ok-write_all.ensures.bytes) next in (
      before.0 ++ on.0,
      Appends-trans _ _ _ before.0 on.0 before.1 on.1,
      append_assoc before.0 on.0 c.pass_on.new.block.items ∙ ap (λ zs. before.0 ++ zs) (sym on.2) ∙ waits,
    )

pub returns-clause-front : goal.returns-clause-front
returns-clause-front g c =
    let load = c.args.cursor.now in
    let before = c.loop-round.invariant in
    let rest = lines-split load.threads 0 c.loop-round.round (wrapped_rounds load.counts load.threads) in
    on_err_weaker c.write_whole.result (λ front. front-passing _ _ _ before.0 _ c.args.block.items _ rest.0 _ before.1 (rw c.deref.ensures.value at front) before.2 rest.1) c.write_whole.ensures.front
