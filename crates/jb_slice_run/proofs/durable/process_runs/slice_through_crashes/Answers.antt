use Rattle.jb_slice_run.proofs.durable.process_runs.slice_through_crashes.Goals as goal

pub returns-clause-whole : goal.returns-clause-whole
returns-clause-whole g c = rw c.in-Ok.ensures.ok at c.through_crashes.ensures.whole
