use Rattle.std.proofs.Common.{◌≤◌, ◌-◌, take}
use Rattle.std.specs.Io.KnownBytes.{Consumes}
use Rattle.jb_rows.proofs.window.read_head.Given as goal

-- the bytes that were read are the first ones of the buffer
abbrev pub invariant-loop-filled : goal.invariant-loop-filled
invariant-loop-filled g l = record {
  within : l.filled ≤ 8192;
  read : Consumes (g.R.Read.remaining l.fn.stream) (g.R.Read.remaining l.stream) (take l.filled l.buffer);
}

abbrev pub decreases-loop-filled : goal.decreases-loop-filled
decreases-loop-filled g l = 3 - l.filled
