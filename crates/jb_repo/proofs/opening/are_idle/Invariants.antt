use Rattle.std.proofs.Common.{◌≡◌, ℕ, ◌<◌, slice_get, Some, false}
use Rattle.jb_rules.specs.declared.row.Row.{Row}
use Rattle.jb_rules.specs.Sound.{IsSoundRow}
use Rattle.jb_rules.specs.States.{is_running}
use Rattle.jb_repo.proofs.opening.are_idle.Given as goal

abbrev pub invariant-loop-i : goal.invariant-loop-i
invariant-loop-i l = (k : ℕ) (r : Row) → k < l.i → slice_get l.rows k ≡ Some r → IsSoundRow r × (is_running r.state ≡ false)
