use Rattle.std.{proofs.Common.{◌≡◌, ◌∙◌, ◌⊎◌, ℕ, List, ap, subst, Some}, specs.Arc.{arc_value}, specs.Prelude.{IfOk, MatchResult}}
use Rattle.jb_slices.specs.Slice.{Functions}
use Rattle.jb_csv_job.specs.{Done.{HasSkipped, HasTakenAll, HasTakenSoFar, IsByRules}, Job.{JobRecord, job_record}, Loop.{IfJobResumes, LeavesAny, job_of}, Skipped.{HasListed, IfListed}, SliceFiles.{LeavesJob}}
use Rattle.jb_csv_job.proofs.Carrying.{none-taken}
use Rattle.jb_csv_job.proofs.run.run_slices.Goals as goal

-- ---- what is said of the job of its work is said of its job

module _ (g : _) (c : goal.After-drop-name-inside-2 g) where
  abbrev works : JobRecord
  works = job_of c.work_of-work.result (g.F.RowFunction.answer (arc_value c.in_ok-function.function))

  abbrev own : JobRecord
  own = job_record c.args.job.now c.args.asked.now (g.F.RowFunction.answer c.args.function)

  same : works ≡ own
  same =
      let f = g.F.RowFunction.answer (arc_value c.in_ok-function.function) in
      ap (λ job. job_record job c.work_of-work.result.asked.now f) c.work_of-work.ensures.job ∙ ap (λ asked. job_record c.args.job.now asked f) c.work_of-work.ensures.asked
      ∙ ap (λ x. job_record c.args.job.now c.args.asked.now (g.F.RowFunction.answer x)) c.in_ok-function.ensures.ok

  carried : (Q : JobRecord → Functions → List ℕ → Type 0) → IfJobResumes works g.R.Read.remaining c.args.reader.now g.H.Stored.log g.H.Stored.db (Q works)
      → IfJobResumes own g.R.Read.remaining c.args.reader.now g.H.Stored.log g.H.Stored.db (Q own)
  carried Q holds = subst (λ job. IfJobResumes job g.R.Read.remaining c.args.reader.now g.H.Stored.log g.H.Stored.db (Q job)) same holds

pub returns-clause-all : goal.returns-clause-all
returns-clause-all g c clean =
    carried g c (λ job functions text. IfOk c.all_slices.result (λ end. end.status ≡ 0 → HasTakenAll job (Some text) (g.N.Sink.took c.args.sink.now c.all_slices.new.sink)))
    (c.all_slices.ensures.all clean)

pub returns-clause-by_rules : goal.returns-clause-by_rules
returns-clause-by_rules g c clean = carried g c (λ job functions text. IfOk c.all_slices.result (λ end. IsByRules job (Some text) end.status)) (c.all_slices.ensures.by_rules clean)

pub returns-clause-skips : goal.returns-clause-skips
returns-clause-skips g c clean =
    carried g c (λ job functions text. IfOk c.all_slices.result (λ end. end.status ≡ 0 → HasSkipped job (Some text) end.skips)) (c.all_slices.ensures.skips clean)

pub returns-clause-listed : goal.returns-clause-listed
returns-clause-listed g c clean =
    carried g c (λ job functions text. IfOk c.all_slices.result (λ end. IfListed c.args.list.now c.all_slices.new.list (λ old new. HasListed job (Some text) (g.L.Sink.took old new) end.status end.skips)))
    (c.all_slices.ensures.listed clean)

pub returns-clause-so_far : goal.returns-clause-so_far
returns-clause-so_far g c clean =
    let took = g.N.Sink.took c.args.sink.now c.all_slices.new.sink in
    carried g c (λ job functions text. MatchResult c.all_slices.result (λ end. HasTakenSoFar job (Some text) took) (λ e. g.N.Sink.may_refuse e ⊎ HasTakenSoFar job (Some text) took)) (c.all_slices.ensures.so_far clean)

pub returns-clause-left : goal.returns-clause-left
returns-clause-left g c clean =
    carried g c (λ job functions text. LeavesJob job functions (Some text) (g.K.Keeper.may_leave c.args.keeper.now) (g.K.Keeper.may_leave c.all_slices.new.keeper)) (c.all_slices.ensures.left clean)

pub returns-clause-crash : goal.returns-clause-crash
returns-clause-crash g c clean =
    subst (λ job. LeavesAny job g.H.Stored.log g.H.Stored.db (g.K.Keeper.may_leave c.args.keeper.now) (g.K.Keeper.may_leave c.all_slices.new.keeper)) (same g c) (c.all_slices.ensures.crash clean)

-- ---- no slice was run

pub returns-in_err-name-clause-so_far : goal.returns-in_err-name-clause-so_far
returns-in_err-name-clause-so_far g c clean text given functions up =
    none-taken up (g.N.Sink.took c.args.sink.now c.args.sink.now) (g.met.N.Sink.none c.args.sink.now) g.N.Sink.may_refuse _

pub returns-in_err-classes-clause-so_far : goal.returns-in_err-classes-clause-so_far
returns-in_err-classes-clause-so_far g c clean text given functions up =
    none-taken up (g.N.Sink.took c.args.sink.now c.args.sink.now) (g.met.N.Sink.none c.args.sink.now) g.N.Sink.may_refuse _

pub returns-in_err-stamps-clause-so_far : goal.returns-in_err-stamps-clause-so_far
returns-in_err-stamps-clause-so_far g c clean text given functions up =
    none-taken up (g.N.Sink.took c.args.sink.now c.args.sink.now) (g.met.N.Sink.none c.args.sink.now) g.N.Sink.may_refuse _

pub returns-in_err-function-clause-so_far : goal.returns-in_err-function-clause-so_far
returns-in_err-function-clause-so_far g c clean text given functions up =
    none-taken up (g.N.Sink.took c.args.sink.now c.args.sink.now) (g.met.N.Sink.none c.args.sink.now) g.N.Sink.may_refuse _
