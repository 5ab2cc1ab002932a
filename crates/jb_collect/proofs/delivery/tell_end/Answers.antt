use Rattle.std.proofs.Common.{refl}
use Rattle.jb_rules.specs.declared.row.RowState.TheVariants as state
use Rattle.jb_collect.specs.declared.calls.Status.TheVariants.{Completed, Failed}
use Rattle.jb_collect.specs.declared.calls.AnalyzerCall.TheVariants.{Status}
use Rattle.jb_collect.proofs.Delivering.{end_told}
use Rattle.jb_collect.proofs.delivery.tell_end.Goals as goal

pub returns-in-Finished : goal.returns-in-Finished
returns-in-Finished g c =
    end_told _ _ c.args.partition c.args.state state.Finished (Status c.args.partition Completed) c.status.result c.in-Finished.is refl c.status.ensures

pub returns-in-Failed : goal.returns-in-Failed
returns-in-Failed g c =
    end_told _ _ c.args.partition c.args.state state.Failed (Status c.args.partition Failed) c.status-in-Failed.result c.in-Failed.is refl c.status-in-Failed.ensures
