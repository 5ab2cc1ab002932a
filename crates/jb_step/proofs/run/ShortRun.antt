-- From the rounds of a step to how short it was.
use Rattle.std.proofs.Common.{◌≤◌, List, length, Option, ap, sym, ◌∙◌, subst, arith}
use Rattle.jb_base.specs.declared.class.ClassId.{ClassId}
use Rattle.jb_cert.specs.declared.notes.PlanNote.{PlanNote}
use Rattle.jb_chunk.specs.Laws.{RunsAreShort}
use Rattle.jb_chunk.specs.TaskState.{TaskState}
use Rattle.jb_step.specs.Alone.{AreReady}
use Rattle.jb_step.specs.Answers.{StepRun, table_before, tasks_before}
use Rattle.jb_step.specs.Short.{IsShort, rounds_noted}
use Rattle.jb_step.specs.Tables.{held_in}
use Rattle.jb_step.proofs.run.Short.{IsFew, few-so-far}
use Rattle.jb_step.proofs.run.Stepping.{IsLeft}

pub short-is : RunsAreShort → (r : StepRun) (fault : Option ClassId) (h : IsLeft r fault) → AreReady (held_in (table_before r)) → h.now.rounds ≤ h.now.attempts → IsShort (tasks_before r) r.notes r.snapshot
short-is law r fault h ready busy =
    let few : IsFew (tasks_before r) h.now = subst (λ (ts : List TaskState). IsFew ts h.now) h.begun_with (few-so-far law r.setup r.round_limit h.stopped h.first (table_before r) h.now ready h.run busy) in
    let same = ap length h.notes_are in
    let noted = ap rounds_noted h.notes_are ∙ few.noted in
    let plans = few.plans in
    let all = few.noted in
    let rounds = few.rounds in
    let attempts = few.attempts in
    record {
      plans = subst (λ (notes : List PlanNote). length notes ≤ rounds_noted notes) (sym h.notes_are) few.plans;
      rounds = omega (arith, noted, rounds);
      events = λ going. (let events = (h.agree going).2 in omega (arith, events, same, plans, all, rounds, attempts));
    }
