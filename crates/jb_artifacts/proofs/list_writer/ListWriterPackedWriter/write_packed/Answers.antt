use Rattle.std.proofs.Common.{◌≡◌, ◌<◌, ◌≤◌, ◌++◌, length, ap, ◌∙◌, rules}
use Rattle.jb_artifacts.proofs.Writing.{stopped-at, written-at, all-written, at-once}
use Rattle.jb_artifacts.proofs.list_writer.ListWriterPackedWriter.write_packed.Goals as goal

pub returns-then-is_empty-clause-written : goal.returns-then-is_empty-clause-written
returns-then-is_empty-clause-written c =
    let appended : c.append.new.self ≡ c.args.self.now.written ++ c.texts.result.now = c.in_ok-append.ensures.ok in
    at-once c.args.self.now.written _ _ c.args.results.now (c.is_empty.ensures (search rules))
    (appended ∙ ap (λ texts. c.args.self.now.written ++ texts) c.texts.ensures)

pub returns-in_err-write_one-clause-faulted : goal.returns-in_err-write_one-clause-faulted
returns-in_err-write_one-clause-faulted c =
    let below : c.loop-index.index < length c.args.results.now = search rules in
    (stopped-at _ _ _ _ c.loop-index.invariant _ _ _ _ _ (search rules) below c.number.ensures c.text.ensures c.in_err-write_one.ensures).0

pub returns-in_err-write_one-clause-no_memory : goal.returns-in_err-write_one-clause-no_memory
returns-in_err-write_one-clause-no_memory c =
    let below : c.loop-index.index < length c.args.results.now = search rules in
    (stopped-at _ _ _ _ c.loop-index.invariant _ _ _ _ _ (search rules) below c.number.ensures c.text.ensures c.in_err-write_one.ensures).1

pub loop-index-preserved : goal.loop-index-preserved
loop-index-preserved c =
    let below : c.loop-index.index < length c.args.results.now = search rules in
    written-at _ _ _ _ c.loop-index.invariant _ _ _ _ below c.number.ensures c.text.ensures c.in_ok-write_one.ensures

pub returns-clause-written : goal.returns-clause-written
returns-clause-written c =
    let ended : length c.args.results.now ≤ c.loop-index.index = search rules in
    let within : c.loop-index.index ≤ length c.args.results.now = search rules in
    all-written _ _ _ _ c.loop-index.invariant ended within
