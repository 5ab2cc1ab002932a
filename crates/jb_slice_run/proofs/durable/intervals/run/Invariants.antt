use Rattle.std.proofs.Common.{List, ◌≤◌}
use Rattle.sqlite.specs.Held.{state}
use Rattle.jb_slice_run.specs.contracts.durable.seen.ResumableRunPlaced.TheImpl as slice_state
use Rattle.jb_slice_file.specs.CheckpointBytes.{CheckpointBytes}
use Rattle.jb_slice_file.specs.ListEnd.{count_of}
use Rattle.jb_slice_run.specs.durable.Work.{FileMatchesMemory, IfFileMatchesMemory, IsLater, SeenMatchesRows}
use Rattle.jb_slice_run.proofs.durable.intervals.run.Given as goal

-- the connection keeps the checkpoints so far, and the run stands after them
abbrev pub invariant-intervals : goal.invariant-intervals
invariant-intervals g l =
    let seen = (slice_state.ghosts g.row.F g.F.RowFunction g.F.RowFunction-dict g.F.Destruct-dict).seen in
    record {
      later : IsLater (state g.S.Store l.fn.conn) (state g.S.Store l.conn);
      kept : IfFileMatchesMemory l.fn.job (g.F.RowFunction.answer l.fn.function) l.fn.number l.fn.items (state g.S.Store l.fn.conn) (state g.S.Store l.conn) (seen l.fn.place) l.fn.end
          (λ w all. (now : List CheckpointBytes) × FileMatchesMemory w (state g.S.Store l.conn) (seen l.place) l.end now);
      agrees : SeenMatchesRows (seen l.place);
      number : l.counter ≤ count_of l.end;
    }
