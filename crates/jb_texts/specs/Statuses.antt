-- How a step's end is named, and the exit status of a job (own choice).
use Rattle.std.specs.Prelude.{ℕ, List, codes}
use Rattle.jb_collect.specs.declared.calls.Status.{Status}
use Rattle.jb_collect.specs.declared.calls.Status.TheVariants.{Started, Stopped, Failed, Completed}

abbrev pub status_name : Status → List ℕ
status_name Started = codes "STARTED"
status_name Stopped = codes "STOPPED"
status_name Failed = codes "FAILED"
status_name Completed = codes "COMPLETED"

-- 2 for a job that has not come to its end
abbrev pub status_code : Status → ℕ
status_code Started = 2
status_code Stopped = 2
status_code Failed = 1
status_code Completed = 0
