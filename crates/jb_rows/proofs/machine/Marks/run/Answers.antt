use Rattle.csv.specs.Machine.{Runs}
use Rattle.jb_rows.proofs.machine.Marks.run.Goals as goal

pub returns-in-StartField-clause-runs : goal.returns-in-StartField-clause-runs
unfolding Runs
returns-in-StartField-clause-runs c = tt
