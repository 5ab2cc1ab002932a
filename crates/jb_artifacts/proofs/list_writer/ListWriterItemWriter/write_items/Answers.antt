use Rattle.std.proofs.Common.{ℕ, List, [], ap, ◌∙◌, rules}
use Rattle.std.proofs.lemmas.List.{get_or_read}
use Rattle.jb_artifacts.proofs.Writing.{stopped-at, written-at, all-written}
use Rattle.jb_artifacts.proofs.list_writer.ListWriterItemWriter.write_items.Goals as goal

pub returns-in_err-write_one-clause-faulted : goal.returns-in_err-write_one-clause-faulted
returns-in_err-write_one-clause-faulted c =
    let is = get_or_read _ _ _ c.loop-result-test.true c.result-item.is (0, []) in
    (stopped-at _ _ _ _ c.loop-result.invariant _ _ _ _ _ (search rules) c.loop-result-test.true (ap (λ (r : ℕ × List ℕ). r.0) is)
    (c.as_slice.ensures ∙ ap (λ (r : ℕ × List ℕ). r.1) is) c.in_err-write_one.ensures).0

pub returns-in_err-write_one-clause-no_memory : goal.returns-in_err-write_one-clause-no_memory
returns-in_err-write_one-clause-no_memory c =
    let is = get_or_read _ _ _ c.loop-result-test.true c.result-item.is (0, []) in
    (stopped-at _ _ _ _ c.loop-result.invariant _ _ _ _ _ (search rules) c.loop-result-test.true (ap (λ (r : ℕ × List ℕ). r.0) is)
    (c.as_slice.ensures ∙ ap (λ (r : ℕ × List ℕ). r.1) is) c.in_err-write_one.ensures).1

pub loop-result-preserved : goal.loop-result-preserved
loop-result-preserved c =
    let is = get_or_read _ _ _ c.loop-result-test.true c.result-item.is (0, []) in
    written-at _ _ _ _ c.loop-result.invariant _ _ _ _ c.loop-result-test.true (ap (λ (r : ℕ × List ℕ). r.0) is)
    (c.as_slice.ensures ∙ ap (λ (r : ℕ × List ℕ). r.1) is) c.in_ok-write_one.ensures

pub returns-clause-written : goal.returns-clause-written
returns-clause-written c = all-written _ _ _ _ c.loop-result.invariant c.loop-result-test.false c.loop-result.auto.result-index-end
