use Rattle.std.proofs.Common.{◌≡◌, ◌++◌}
use Rattle.std.specs.Vec.Iter.{into_iter_items}
use Rattle.jb_step.specs.Answers.{given_back}
use Rattle.jb_program.specs.inside.Written.{lists_left}
use Rattle.jb_program.proofs.Own.{own_artifacts}
use Rattle.jb_program.proofs.run.report.all_results.Given as goal

-- the lists so far and those to come
abbrev pub invariant-loop-one : goal.invariant-loop-one
invariant-loop-one l = l.lists.items ++ lists_left (given_back own_artifacts (into_iter_items l.one-iterator)) ≡ lists_left (given_back own_artifacts l.fn.left.items)
