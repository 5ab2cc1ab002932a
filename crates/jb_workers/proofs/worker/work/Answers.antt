use Rattle.std.proofs.Common.{rules, refl, inr}
use Rattle.jb_workers.proofs.worker.work.Goals as goal

pub returns-in-Err-ended-clause-kept_out : goal.returns-in-Err-ended-clause-kept_out
returns-in-Err-ended-clause-kept_out g c = rw c.kept_out-in-Err-ended.ensures (record {
  refused = c.in-Err-ended.refused;
  is = refl;
  cause = inr (record { begun = search rules; cause = inr (record { done = c.attempt-done.result; attempted = record { attempt = c.attempt-done.ensures.attempt; ready = c.attempt-done.ensures.ready }; refuses = search rules }) });
})
