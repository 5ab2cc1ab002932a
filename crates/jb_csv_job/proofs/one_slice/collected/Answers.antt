use Rattle.jb_csv_job.proofs.one_slice.collected.Goals as goal

pub returns-in-Ok-Some-clause-ended : goal.returns-in-Ok-Some-clause-ended
returns-in-Ok-Some-clause-ended g c functions all resumed =
    let e = rw c.in-Ok-Some.field-0-is at c.in-Ok-Some.ensures in
    let it = (e.ends functions all resumed).1 in
    record {
      results = λ _. e.all functions all resumed;
      skips = λ _. e.skips functions all resumed;
      passes = λ _. e.passes functions all resumed;
      fails = λ failed pass. cc (e.status, failed);
      failures = λ failed. (let no : ⊥ = cc (e.status, failed) in absurd no);
      named = record { functions = functions; checkpoints = it.checkpoints; so_far = it.so_far; stamp_is = it.stamp_is; skips_are = it.skips_are; failures_are = it.failures_are };
    }

pub returns-in-Ok-Some-clause-crash : goal.returns-in-Ok-Some-clause-crash
returns-in-Ok-Some-clause-crash g c functions all resumed db may = (all, c.collect_slice.ensures.crash all resumed.shown db may, resumed.so_far)

pub returns-in-Ok-None-clause-crash : goal.returns-in-Ok-None-clause-crash
returns-in-Ok-None-clause-crash g c functions all resumed db may = (all, c.collect_slice.ensures.crash all resumed.shown db may, resumed.so_far)

pub returns-in-Err-clause-crash : goal.returns-in-Err-clause-crash
returns-in-Err-clause-crash g c functions all resumed db may = (all, c.collect_slice.ensures.crash all resumed.shown db may, resumed.so_far)
