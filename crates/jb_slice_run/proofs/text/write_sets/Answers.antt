use Rattle.jb_slice_run.proofs.text.write_sets.Goals as goal

pub returns-clause-sets : goal.returns-clause-sets
returns-clause-sets c = simp (c.in_ok-write_set-3.ensures.member, c.in_ok-write_set-2.ensures.member, c.in_ok-write_set.ensures.member)
