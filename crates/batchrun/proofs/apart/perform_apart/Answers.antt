use Rattle.batchrun.proofs.apart.perform_apart.Goals as goal

-- src/apart.rt:99:5
pub run_apart-requires-clause-keeps : goal.run_apart-requires-clause-keeps
run_apart-requires-clause-keeps g c κs within = λ a kept. rw c.of.ensures (rw c.of-2.ensures kept)
