use Rattle.std.proofs.Common.{rules, refl, ◌≡◌, true, map, ap, ap₂, sym, ◌∙◌, subst, Option}
use Rattle.jb_base.specs.declared.class.ClassId.{ClassId}
use Rattle.jb_step.specs.Answers.{StepRun, given_back, table_before, tasks_before}
use Rattle.jb_step.specs.Tables.{Table, held_in}
use Rattle.jb_step.specs.Statuses.{status_of}
use Rattle.jb_step.specs.inside.rounds.Round.{progress}
use Rattle.jb_step.specs.inside.rounds.SoFar.{IsRunOfStepSoFar, at_first}
use Rattle.jb_step.specs.inside.callbacks.Telling.{moment}
use Rattle.jb_step.specs.rounds.PlanLaws.{IsTaskTable}
use Rattle.jb_step.proofs.Heading.{headline-of}
use Rattle.jb_step.proofs.calls.Growing.{grew-more}
use Rattle.jb_step.proofs.run.ShortRun.{short-is}
use Rattle.jb_step.proofs.run.SoFar.{ready-of}
use Rattle.jb_step.proofs.run.Stepping.{IsLeft, run-is, way-is, heard-fault}
use Rattle.jb_step.proofs.rounds.runner.RoundRunner.run_tasks.Goals as goal

-- the run that is answered
abbrev run-of : (g : _) → goal.In_ok-artifacts g → StepRun
run-of g c = record {
  setup = c.args.prepared.now;
  artifacts = map g.T.Artifacts.Meaning.meaning c.args.artifacts.items;
  round_limit = c.args.round_limit;
  heard_before = (goal.Analyzer-dyn g c.args.analyzer.now).analyzed c.args.analyzer.now.1;
  heard_after = (goal.Analyzer-dyn g (c.args.analyzer.now.0, c.tell_last.new.analyzer)).analyzed c.tell_last.new.analyzer;
  notes = c.in_ok-ran.ran.notes.items;
  snapshot = c.in_ok-snapshot.snapshot;
  left = given_back g.T.Artifacts.Meaning.meaning c.in_ok-artifacts.artifacts.items;
}

-- the fault that the analyzer answered
abbrev fault : (g : _) → goal.In_ok-artifacts g → Option ClassId
fault g c = c.in_ok-ran-2.field-0

-- the table that it begins with
first-is : (g : _) (c : goal.In_ok-artifacts g) → IsTaskTable (run-of g c).setup (table_before (run-of g c)) × (held_in (table_before (run-of g c)) ≡ tasks_before (run-of g c))
first-is g c = (subst (IsTaskTable c.args.prepared.now) c.in_ok-tasks.ensures.tasks c.in_ok-tasks.ensures.table, ap held_in (sym c.in_ok-tasks.ensures.tasks) ∙ c.in_ok-tasks.ensures.held)

left : (g : _) (c : goal.In_ok-artifacts g) → IsLeft (run-of g c) (fault g c)
left g c =
    let r = run-of g c in
    let ran = c.in_ok-ran.ran in
    let task_state = g.T.PartitionTask.task_state in
    let first = moment ((goal.Analyzer-dyn g (c.args.analyzer.now.0, c.tell_first.new.analyzer)).analyzed c.tell_first.new.analyzer) c.in_ok-fault.fault in
    let now = progress task_state ((goal.Analyzer-dyn g (c.args.analyzer.now.0, c.run_rounds.new.analyzer)).analyzed c.run_rounds.new.analyzer) ran in
    let yes : c.are_numbers.result ≡ true = search rules in
    record {
      first = first;
      now = now;
      stopped = ran.stopped;
      begun = c.in_ok-fault.ensures.heard;
      run = subst (λ (table : Table). IsRunOfStepSoFar r.setup r.round_limit ran.stopped (at_first first table) now) c.in_ok-tasks.ensures.tasks c.in_ok-ran.ensures.run;
      ended = c.in_ok-ran.ensures.ended;
      table = c.in_ok-ran.ensures.table;
      begun_with = (first-is g c).1;
      told = rw c.as_slice.ensures.value at c.in_ok-ran-2.ensures.heard;
      notes_are = refl;
      rows = rw c.as_slice-2.ensures.value at c.in_ok-snapshot.ensures;
      left_is = c.in_ok-artifacts.ensures;
      agree = c.are_numbers.ensures yes;
    }

pub returns-clause-run : goal.returns-clause-run
returns-clause-run g c = run-is c.lower_laws.ensures (run-of g c) (fault g c) (left g c)

pub returns-clause-headline : goal.returns-clause-headline
returns-clause-headline g c =
    let r = run-of g c in
    let first = first-is g c in
    headline-of c.lower_laws.ensures r first.0 first.1 (run-is c.lower_laws.ensures r (fault g c) (left g c))

pub returns-clause-on_the_way : goal.returns-clause-on_the_way
returns-clause-on_the_way g c = way-is c.lower_laws.ensures (run-of g c) (fault g c) (left g c)

pub returns-clause-status : goal.returns-clause-status
returns-clause-status g c =
    let same = heard-fault c.lower_laws.ensures (run-of g c) (fault g c) (left g c) in
    c.status_now-status.ensures ∙ ap₂ status_of c.as_slice-3.ensures.value (c.is_some.ensures ∙ same)

pub returns-clause-grew : goal.returns-clause-grew
returns-clause-grew g c = grew-more _ _ _ (grew-more _ _ _ c.tell_first.ensures.grew c.run_rounds.ensures.grew) c.tell_last.ensures.grew

pub returns-in_err-ran-clause-grew : goal.returns-in_err-ran-clause-grew
returns-in_err-ran-clause-grew g c = grew-more _ _ _ c.tell_first.ensures.grew c.run_rounds.ensures.grew

pub returns-in_err-ran-2-clause-grew : goal.returns-in_err-ran-2-clause-grew
returns-in_err-ran-2-clause-grew g c = grew-more _ _ _ (grew-more _ _ _ c.tell_first.ensures.grew c.run_rounds.ensures.grew) c.tell_last.ensures.grew

pub returns-in_err-snapshot-clause-grew : goal.returns-in_err-snapshot-clause-grew
returns-in_err-snapshot-clause-grew g c = grew-more _ _ _ (grew-more _ _ _ c.tell_first.ensures.grew c.run_rounds.ensures.grew) c.tell_last.ensures.grew

pub returns-then-not-are_numbers-clause-grew : goal.returns-then-not-are_numbers-clause-grew
returns-then-not-are_numbers-clause-grew g c = grew-more _ _ _ (grew-more _ _ _ c.tell_first.ensures.grew c.run_rounds.ensures.grew) c.tell_last.ensures.grew

pub returns-in_err-artifacts-clause-grew : goal.returns-in_err-artifacts-clause-grew
returns-in_err-artifacts-clause-grew g c = grew-more _ _ _ (grew-more _ _ _ c.tell_first.ensures.grew c.run_rounds.ensures.grew) c.tell_last.ensures.grew

pub returns-clause-short : goal.returns-clause-short
unfolding left
returns-clause-short g c =
    short-is c.lower_laws.ensures.short (run-of g c) (fault g c) (left g c) (ready-of c.args.prepared.now _ (first-is g c).0.tasks) c.in_ok-ran.ensures.busy
