use Rattle.std.proofs.Common.{◌≡◌, take}
use Rattle.std.specs.Prelude.{count_by}
use Rattle.csv.specs.Machine.{Runs}
use Rattle.csv.specs.declared.parser.State.TheVariants as st
use Rattle.jb_rows.specs.Bytes.{is_line_feed, marks_config}
use Rattle.jb_rows.proofs.machine.Marks.plain_run.Given as goal

-- the bytes so far only join the field
abbrev pub invariant-loop-index : goal.invariant-loop-index
invariant-loop-index l = record {
  runs : Runs (marks_config l.self) st.InField (take l.index l.bytes);
  lines : count_by is_line_feed (take l.index l.bytes) ≡ 0;
}
