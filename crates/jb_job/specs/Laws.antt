-- What the tables of the job record say as a whole.
use Rattle.std.specs.Prelude.{◌≡◌, Some, Ok}
use Rattle.serde_json.specs.Data.{Data}
use Rattle.serde_json.specs.Read.{read}
use Rattle.serde_json.specs.Written.{compact_text}
use Rattle.jb_job.specs.declared.job.Job.{Job}
use Rattle.jb_job.specs.JobRanges.{IsJob}
use Rattle.jb_job.specs.JobRecord.{job_at}
use Rattle.jb_job.specs.JobTree.{job_tree}

-- what is read keeps the ranges of the record
abbrev pub JobsKeepRanges : Type 0
JobsKeepRanges = (d : Data) (j : Job) → job_at d ≡ Ok j → IsJob j

-- each job within the ranges has a tree that is read as that job
abbrev pub JobsHaveTrees : Type 0
JobsHaveTrees = (j : Job) → IsJob j → job_at (job_tree j) ≡ Ok j

-- and reading the compact text of that tree gives the tree, whatever bytes the names have
abbrev pub TextsAreRead : Type 0
TextsAreRead = (j : Job) → IsJob j → read (compact_text (job_tree j)) ≡ Some (job_tree j)
