-- The status of a step at its end (this project's choice).
use Rattle.std.specs.Prelude.{Bool, not, ◌||◌, if◌then◌else◌, List}
use Rattle.std.specs.List.{list_any}
use Rattle.jb_rules.specs.declared.row.Row.{Row}
use Rattle.jb_rules.specs.States.{is_finished, is_failed}
use Rattle.jb_collect.specs.declared.calls.Status.{Status}
use Rattle.jb_collect.specs.declared.calls.Status.TheVariants.{Stopped, Failed, Completed}

-- FAILED if a partition or a callback failed; else STOPPED if a partition is unfinished; else COMPLETED
abbrev pub status_of : List Row → (callback_failed : Bool) → Status
status_of rows callback_failed =
    if callback_failed || list_any (λ row. is_failed row.state) rows then Failed
    else (if list_any (λ row. not (is_finished row.state)) rows then Stopped else Completed)
