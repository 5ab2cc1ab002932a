use Rattle.jb_csv_job.proofs.one_slice.ran.Goals as goal

pub returns-in-Ok-clause-ended : goal.returns-in-Ok-clause-ended
returns-in-Ok-clause-ended g c functions all resumed =
    let e = c.in-Ok.ensures in
    let it = (e.ends functions all resumed).2 in
    record {
      results = e.all functions all resumed;
      skips = e.skips functions all resumed;
      passes = e.passes functions all resumed;
      fails = e.fails functions all resumed;
      failures = λ failed. (e.failures functions all resumed failed).each;
      named = record { functions = functions; checkpoints = it.checkpoints; so_far = it.so_far; stamp_is = it.stamp_is; skips_are = it.skips_are; failures_are = it.failures_are };
    }
