-- The row rules as a test.
use Rattle.std.specs.Prelude.{ℕ, ◌+◌, ◌-◌, ◌==◌, ◌&&◌, ◌||◌, Bool, nat_le, nat_lt, not, if◌then◌else◌}
use Rattle.jb_base.specs.Limits.{max_records, max_rollbacks, max_in_place}
use Rattle.jb_rules.specs.declared.row.Row.{Row}
use Rattle.jb_rules.specs.States.{is_finished}

abbrev pub is_placed : Row → Bool
is_placed r =
    nat_le r.lo r.at && nat_le r.at r.hi && nat_le r.lo r.redo && nat_le r.redo r.hi && nat_le r.hi max_records

-- the items that were read and settled, except those that a skipped write call dropped
abbrev pub settled : Row → ℕ
settled r = r.counts.write + r.counts.process_skip + r.counts.filter

abbrev pub is_counted : Row → Bool
is_counted r =
    r.counts.read + r.counts.read_skip == r.at - r.lo
    && r.counts.write == r.written
    && nat_le (settled r) r.counts.read
    && (nat_lt 0 r.counts.write_skip || settled r == r.counts.read)
    && nat_le r.counts.write_skip r.counts.commit
    && nat_le r.counts.commit (r.at - r.lo)
    && (nat_le r.at r.lo || nat_le 1 r.counts.commit)
    && nat_le r.in_place r.retries
    && nat_le r.retries (r.counts.rollback + r.in_place)
    && nat_le r.counts.rollback max_rollbacks
    && nat_le r.in_place max_in_place

-- Finished exactly if no record is left
abbrev pub is_finished_at_end : Row → Bool
is_finished_at_end r = if is_finished r.state then r.at == r.hi else not (r.at == r.hi)

unfoldable pub is_sound : Row → Bool
is_sound r = is_placed r && is_counted r && is_finished_at_end r
