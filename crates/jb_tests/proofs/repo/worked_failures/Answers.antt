use Rattle.std.proofs.Common.{◌≡◌, refl, Some, None}
use Rattle.jb_base.specs.declared.class.ClassId.{ClassId}
use Rattle.jb_plan.specs.Blocks.{blocks}
use Rattle.jb_repo.specs.Table.{failure}
use Rattle.jb_repo.specs.Worked.{two_partitions, walk, one_failed, journal_after}
use Rattle.jb_tests.proofs.repo.worked_failures.Goals as goal

done : failure (journal_after two_partitions (walk 0 1)) 0 ≡ None
unfolding blocks
done = refl

failed : (class other : ClassId) → failure (journal_after two_partitions (one_failed other class)) 1 ≡ Some class
unfolding blocks
failed class other = refl

pub returns-clause-done : goal.returns-clause-done
returns-clause-done c = done

pub returns-clause-failed : goal.returns-clause-failed
returns-clause-failed c = failed
