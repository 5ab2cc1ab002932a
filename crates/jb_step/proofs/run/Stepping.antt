-- From the rounds of a step to its end.
use Rattle.std.proofs.Common.{◌≡◌, ◌+◌, ◌*◌, Bool, true, false, ◌||◌, Option, Some, None, List, [], ◌∷◌, ◌++◌, length, ap, sym, ◌∙◌, subst, arith, zero-add}
use Rattle.std.specs.Prelude.{MatchOption, if◌then◌else◌, is_some}
use Rattle.std.proofs.lemmas.List.{length-map}
use Rattle.jb_base.specs.declared.class.ClassId.{ClassId}
use Rattle.jb_rules.specs.declared.row.Row.{Row}
use Rattle.jb_chunk.specs.TaskState.{TaskState}
use Rattle.jb_collect.specs.declared.calls.Status.{Status}
use Rattle.jb_collect.specs.declared.calls.Status.TheVariants.{Failed}
use Rattle.jb_collect.specs.declared.calls.AnalyzerCall.{AnalyzerCall}
use Rattle.jb_collect.specs.AnsweredCalls.{AnsweredCall, AreTaken, HasTaken, since}
use Rattle.jb_collect.specs.Heard.{heard_first, heard_in, heard_last}
use Rattle.jb_step.specs.Answers.{IsRunOfStep, IsUnstopped, StepRun, artifacts_of, table_before, tasks_after, tasks_before}
use Rattle.jb_step.specs.Tables.{Table, held_in}
use Rattle.jb_step.specs.callbacks.Heard.{heard}
use Rattle.jb_step.specs.callbacks.Callbacks.{has_fault}
use Rattle.jb_step.specs.rounds.Runs.{PlanRun, all_attempts, note_of, rounds_of, table_after}
use Rattle.jb_step.specs.preparing.Setup.{rows_now}
use Rattle.jb_step.specs.Statuses.{status_of}
use Rattle.jb_step.specs.Alone.{AreOnTheWay, have_ended}
use Rattle.jb_step.specs.rounds.PlanLaws.{IsTaskTable}
use Rattle.jb_step.specs.inside.LowerLaws.{LowerLaws}
use Rattle.jb_step.specs.inside.rounds.Round.{AreLeft, Progress}
use Rattle.jb_step.specs.inside.rounds.SoFar.{AreWithin, IsRunOfStepSoFar, at_first}
use Rattle.jb_step.specs.inside.callbacks.Telling.{HearsMore, Moment, moment}
use Rattle.jb_step.proofs.calls.Hearing.{hears-more}
use Rattle.jb_step.proofs.table.Leftover.{left-again}
use Rattle.jb_step.proofs.run.Leading.{steps_are_on_the_way}

-- THE ANALYZER'S FAULT

fault-one : (o fault : Option ClassId) (cs : List AnalyzerCall) (ts : List (AnsweredCall AnalyzerCall)) → MatchOption o (AreTaken cs fault ts) (λ class. (fault ≡ Some class) × (ts ≡ [])) → (AreTaken cs fault ts → has_fault ts ≡ is_some fault) → (is_some o || has_fault ts) ≡ is_some fault
fault-one None fault cs ts h more = more h
fault-one (Some class) fault cs ts h more = sym (ap is_some h.0)

fault-is : (calls : List AnalyzerCall) (fault : Option ClassId) (ts : List (AnsweredCall AnalyzerCall)) → AreTaken calls fault ts → has_fault ts ≡ is_some fault
fault-is [] fault [] h = sym (ap is_some h)
fault-is [] fault (t ∷ ts) h = absurd h
fault-is (c ∷ cs) fault [] h = absurd h
fault-is (c ∷ cs) fault (t ∷ ts) h = fault-one t.fault fault cs ts h.1 (fault-is cs fault ts)

fault-since : (base after : List (AnsweredCall AnalyzerCall)) (calls : List AnalyzerCall) (fault : Option ClassId) → HasTaken base calls fault after → is_some fault ≡ has_fault (since base after)
fault-since base after calls fault h = sym (fault-is calls fault (since base after) h.taken)

-- the status, from that before the reducer's last calls
pub status-later : (rows : List Row) (heard reduced : Bool) (status ended : Status) → status ≡ status_of rows heard → ended ≡ (if reduced then Failed else status) → ended ≡ status_of rows (heard || reduced)
status-later rows true true status ended was is = is
status-later rows true false status ended was is = is ∙ was
status-later rows false true status ended was is = is
status-later rows false false status ended was is = is ∙ was

-- THE RUN

-- what the rounds of a step left, what was told before and behind them, and what was compared then
pub record IsLeft (r : StepRun) (fault : Option ClassId) : Type 0 where
  pub first : Moment
  pub now : Progress
  pub stopped : Bool
  pub begun : HasTaken r.heard_before (heard_first r.setup.is_fresh r.setup.rows) first.fault first.calls
  pub run : IsRunOfStepSoFar r.setup r.round_limit stopped (at_first first (table_before r)) now
  pub ended : stopped ≡ false → have_ended (held_in now.table) ≡ true
  pub table : IsTaskTable r.setup now.table
  pub begun_with : held_in (table_before r) ≡ tasks_before r
  pub told : HearsMore now.moment (heard_last (held_in now.table)) (moment r.heard_after fault)
  pub notes_are : r.notes ≡ now.notes
  pub rows : r.snapshot.rows.items ≡ rows_now r.setup.rows (held_in now.table)
  pub left_is : r.left ≡ artifacts_of (held_in now.table)
  pub agree : r.snapshot.stopping ≡ false → (stopped ≡ false) × (r.snapshot.plans ≡ length r.notes) × (r.snapshot.events ≡ length r.notes + now.rounds + 2 * now.attempts)

module _ (below : LowerLaws) (r : StepRun) (fault : Option ClassId) (h : IsLeft r fault) where
  abbrev start : Table
  start = table_before r

  abbrev plans : List PlanRun
  plans = h.run.plans

  abbrev ends : Table
  ends = table_after plans start

  abbrev tasks : List TaskState
  tasks = held_in ends

  abbrev left : AreLeft (rounds_of plans) (at_first h.first start) h.now
  left = h.run.left

  are : r.snapshot.rows.items ≡ rows_now r.setup.rows tasks
  are = h.rows ∙ ap (λ table. rows_now r.setup.rows (held_in table)) left.table_is

  came-back : r.left ≡ artifacts_of tasks
  came-back = h.left_is ∙ ap (λ table. artifacts_of (held_in table)) left.table_is

  on-the-way : AreOnTheWay (tasks_before r) tasks
  on-the-way = subst (λ ts. AreOnTheWay ts tasks) h.begun_with (steps_are_on_the_way r.setup start plans h.run.run)

  again : tasks_after r ≡ tasks
  again = left-again r.setup r.snapshot.rows.items r.left (tasks_before r) ends on-the-way (subst (IsTaskTable r.setup) left.table_is h.table) are came-back

  heard-all : HasTaken r.heard_before (heard r.setup start plans) fault r.heard_after
  heard-all =
      let first = heard_first r.setup.is_fresh r.setup.rows in
      let told = heard_in (all_attempts plans start) in
      subst (λ table. HasTaken r.heard_before ((first ++ told) ++ heard_last (held_in table)) fault r.heard_after) left.table_is
      (hears-more below.more below.no_more None r.heard_before (first ++ told) (heard_last (held_in h.now.table)) h.now.moment (moment r.heard_after fault)
      (hears-more below.more below.no_more None r.heard_before first told h.first h.now.moment h.begun left.heard_is) h.told)

  unstopped : r.snapshot.stopping ≡ false → IsUnstopped start plans r.snapshot
  unstopped going =
      let agree = h.agree going in
      let number = ap length (h.notes_are ∙ h.run.notes_are) ∙ length-map plans note_of in
      let ran = left.rounds_are in
      let tried = left.attempts_are in
      let events = agree.2 in
      record {
        ended = subst (λ (table : Table). have_ended (held_in table) ≡ true) left.table_is (h.ended agree.0);
        over = h.run.over agree.0;
        plans_number = agree.1 ∙ number;
        events_number = omega (arith, events, number, ran, tried);
      }

  pub run-is : IsRunOfStep r
  run-is = record {
    plans = plans;
    run = h.run.run;
    notes_are = h.notes_are ∙ h.run.notes_are;
    few = subst (λ n. AreWithin r.round_limit n) (left.rounds_are ∙ zero-add (length (rounds_of plans))) h.run.few;
    rows = are;
    tasks = again;
    came_back = came-back;
    heard_is = (fault, heard-all);
    unstopped = unstopped;
  }

  pub way-is : AreOnTheWay (tasks_before r) (tasks_after r)
  way-is = subst (λ (ts : List TaskState). AreOnTheWay (tasks_before r) ts) (sym again) on-the-way

  pub heard-fault : is_some fault ≡ has_fault (since r.heard_before r.heard_after)
  heard-fault = fault-since r.heard_before r.heard_after (heard r.setup start plans) fault heard-all
