-- Where the partitions of a step are, seen from their attempts alone.
use Rattle.std.specs.Prelude.{List, Bool}
use Rattle.std.specs.List.{list_all, AllByRecursion}
use Rattle.jb_base.specs.Pairwise.{Pairwise}
use Rattle.jb_rules.specs.States.{has_ended}
use Rattle.jb_chunk.specs.Alone.{IsOnTheWay, IsAlone}
use Rattle.jb_chunk.specs.Plain.{IsCalm, IsPlain}
use Rattle.jb_chunk.specs.TaskState.{TaskState, IsReady}

-- each partition is where some of its attempts alone lead
abbrev pub AreOnTheWay : List TaskState → List TaskState → Type 0
AreOnTheWay = Pairwise IsOnTheWay

-- each partition is where its attempts alone end
abbrev pub AreAlone : List TaskState → List TaskState → Type 0
AreAlone = Pairwise IsAlone

-- each partition is where its Plain run ends
abbrev pub ArePlain : List TaskState → List TaskState → Type 0
ArePlain = Pairwise IsPlain

-- no call of any partition fails
abbrev pub AreCalm : List TaskState → Type 0
AreCalm = AllByRecursion (λ t. IsCalm t.artifacts t.row.at t.row.hi)

abbrev pub AreReady : List TaskState → Type 0
AreReady = AllByRecursion IsReady

-- each partition is finished or failed
abbrev pub have_ended : List TaskState → Bool
have_ended ts = list_all (λ t. has_ended t.row.state) ts
