use Rattle.std.proofs.Common.{refl}
use Rattle.jb_csv_job.proofs.next.own_slice.Goals as goal

pub returns-clause-goes : goal.returns-clause-goes
returns-clause-goes g c clean functions text up start begin own slice ran =
    c.end_slice.ensures.goes _ text up.records start begin own.own slice (c.in_ok-end.ensures.ended clean refl refl functions text up own) ran
