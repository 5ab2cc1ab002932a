-- The state of a partition, by its row.
use Rattle.std.specs.Prelude.{Bool, true, false}
use Rattle.jb_rules.specs.declared.row.RowState.{RowState}
use Rattle.jb_rules.specs.declared.row.RowState.TheVariants.{Waiting, Running, Finished, Failed}

abbrev pub is_waiting : RowState → Bool
is_waiting Waiting = true
is_waiting _ = false

abbrev pub is_running : RowState → Bool
is_running (Running lane) = true
is_running _ = false

abbrev pub is_finished : RowState → Bool
is_finished Finished = true
is_finished _ = false

abbrev pub is_failed : RowState → Bool
is_failed Failed = true
is_failed _ = false

-- no chunk of the partition starts any more: it is finished, or it has failed
abbrev pub has_ended : RowState → Bool
has_ended Finished = true
has_ended Failed = true
has_ended _ = false
