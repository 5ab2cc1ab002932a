-- Runs of attempts, cut and joined.
use Rattle.std.proofs.Common.{◌≡◌, ◌+◌, ◌≤◌, true, false, List, [], ◌∷◌, ◌++◌, length, inl, inr, refl, ap, sym, ◌∙◌, subst, arith}
use Rattle.std.proofs.lemmas.List.{take_all}
use Rattle.jb_plan.specs.Blocks.{ChunksFollow}
use Rattle.jb_rules.specs.declared.row.Row.{Row}
use Rattle.jb_rules.specs.declared.row.RowState.{RowState}
use Rattle.jb_rules.specs.declared.row.RowState.TheVariants as state
use Rattle.jb_base.specs.Limits.{max_rollbacks, max_in_place}
use Rattle.jb_rules.specs.Laws.{RowsStaySound}
use Rattle.jb_rules.specs.States.{has_ended}
use Rattle.jb_chunk.specs.Alone.{IsRunOf, IsOnTheWay, IsAlone, retries_of, retries_left, attempts_left}
use Rattle.jb_chunk.specs.Attempt.{AttemptEnd, after_repeats, end_of, attempt_of}
use Rattle.jb_chunk.specs.Laws.{OneEnd, CalmRunsArePlain, RunsAreShort, RetriesAreFew, WaysJoin, WaysEnd, TasksStayReady, TasksStandAtCheckpoints, SamePlace, SameEnd, CommitsTakeOneChunk}
use Rattle.jb_chunk.specs.TaskState.{TaskState, IsReady, reopened}
use Rattle.jb_chunk.proofs.OnCourse.{IsOnCourse, Goes, ready-course, course-next, rollbacks-rise, repeats-grow, ready-next, one-chunk, retry-by}
use Rattle.jb_chunk.proofs.AfterRepeats.{after_repeats-row, after_repeats-left}
use Rattle.jb_chunk.proofs.PlainRuns.{plain-run, plain-alone}
use Rattle.jb_chunk.proofs.RunsAlone.{block-in, finished-at}

-- a run and one from where it led are one run
run-append : (t : TaskState) (es : List AttemptEnd) (s : TaskState) (fs : List AttemptEnd) (e : TaskState) → IsRunOf t es s → IsRunOf s fs e → IsRunOf t (es ++ fs) e
run-append t [] s fs e run rest = subst (λ (v : TaskState). IsRunOf v fs e) run rest
run-append t (a ∷ es) s fs e run rest = (run.0, run.1, run-append a.task es s fs e run.2 rest)

unlike : (s : RowState) → s ≡ state.Waiting → has_ended s ≡ true → ⊥
unlike s waiting ended = let never : false ≡ true = ap has_ended (sym waiting) ∙ ended in cc

-- an ended task makes no attempt more
run-none : (t : TaskState) (es : List AttemptEnd) (s : TaskState) → has_ended t.row.state ≡ true → IsRunOf t es s → s ≡ t
run-none t [] s ended run = run
run-none t (e ∷ es) s ended run = absurd (unlike t.row.state run.0 ended)

-- a run to an end passes each place to which some of its attempts lead
run-rest : (t : TaskState) (es : List AttemptEnd) (s : TaskState) (fs : List AttemptEnd) (e : TaskState) → IsRunOf t es s → IsRunOf t fs e → has_ended e.row.state ≡ true → (rest : List AttemptEnd) × IsRunOf s rest e
run-rest t [] s fs e run whole ended = (fs, subst (λ (v : TaskState). IsRunOf v fs e) (sym run) whole)
run-rest t (a ∷ es) s [] e run whole ended =
    absurd (unlike t.row.state run.0 (ap (λ (v : TaskState). has_ended v.row.state) (sym whole) ∙ ended))
run-rest t (a ∷ es) s (b ∷ fs) e run whole ended =
    let same : b.task ≡ a.task = ap (λ (x : AttemptEnd). x.task) (whole.1 ∙ sym run.1) in
    run-rest a.task es s fs e run.2 (subst (λ (v : TaskState). IsRunOf v fs e) same whole.2) ended

pub one-end : OneEnd
one-end t one other a b =
    let rest = run-rest t a.attempts one b.attempts other a.run b.run b.ended in
    sym (run-none one rest.0 other a.ended rest.1)

-- each place on the way is on course
course-run : ChunksFollow → (t : TaskState) (es : List AttemptEnd) (s : TaskState) → IsOnCourse t → IsRunOf t es s → IsOnCourse s
course-run law t [] s on run = subst (λ (v : TaskState). IsOnCourse v) (sym run) on
course-run law t (e ∷ es) s on run =
    let next = subst (λ (x : AttemptEnd). IsOnCourse x.task) (sym run.1) (course-next law t on run.0).0 in
    course-run law e.task es s next run.2

-- no more attempts are made than are left
few-run : ChunksFollow → (t : TaskState) (es : List AttemptEnd) (s : TaskState) → IsOnCourse t → IsRunOf t es s → length es ≤ attempts_left t
few-run law t [] s on run = omega arith
few-run law t (e ∷ []) s on run = let lt = on.some_left run.0 in omega (arith, lt)
few-run law t (e ∷ f ∷ es) s on run =
    let goes = subst (λ (x : AttemptEnd). Goes t x.task) (sym run.1) (course-next law t on run.0) in
    let rest = few-run law e.task (f ∷ es) s goes.0 run.2 in
    let fewer = goes.1 run.2.0 in
    omega (arith, rest, fewer)

pub runs-are-short : ChunksFollow → RunsAreShort
runs-are-short law t s es ready run = few-run law t es s (ready-course t ready) run

-- an attempt's retries
attempt-retries : (t : TaskState) → ((attempt_of t).task.row.retries ≡ t.row.retries + retries_of (attempt_of t)) × (retries_of (attempt_of t) + retries_left (attempt_of t).task ≡ retries_left t)
attempt-retries t =
    let s = after_repeats t in
    let own = retry-by s (end_of s) refl in
    let counted = own.0 in
    let left = own.1 in
    let before = ap (λ (x : Row). x.retries) (after_repeats-row t) in
    let more = after_repeats-left t in
    (omega (arith, counted, before), omega (arith, left, more))

pub retries-are-few : RetriesAreFew
retries-are-few t s [] run =
    let same = ap (λ (v : TaskState). v.row.retries) run in
    record { counted = omega (arith, same); few = omega arith }
retries-are-few t s (e ∷ es) run =
    let own = attempt-retries t in
    let is = run.1 in
    let row = ap (λ (x : AttemptEnd). x.task.row.retries) is in
    let used = ap (λ (x : AttemptEnd). retries_of x) is in
    let left = ap (λ (x : AttemptEnd). retries_left x.task) is in
    let rest = retries-are-few e.task s es run.2 in
    let counted = rest.counted in
    let few = rest.few in
    let grown = own.0 in
    let total = own.1 in
    record { counted = omega (arith, counted, row, grown, used); few = omega (arith, few, left, used, total) }

pub ways-join : WaysJoin
ways-join t between s first second = record {
  attempts = first.attempts ++ second.attempts;
  run = run-append t first.attempts between second.attempts s first.run second.run;
}

pub ways-end : ChunksFollow → WaysEnd
ways-end law t s ready way ended = record {
  attempts = way.attempts;
  run = way.run;
  ended = ended;
  few = few-run law t way.attempts s (ready-course t ready) way.run;
}

pub tasks-stand-at-checkpoints : ChunksFollow → TasksStandAtCheckpoints
tasks-stand-at-checkpoints law t s ready way =
    let on = course-run law t way.attempts s (ready-course t ready) way.run in
    record {
      at_to = on.at_to;
      place = on.place;
      count = on.count;
      chunk = λ waiting. block-in law s (on.some_left waiting) on.redo_to on.item_counted;
    }

-- READY ALL ALONG

rises : (t : TaskState) (es : List AttemptEnd) (s : TaskState) → IsRunOf t es s → t.row.counts.rollback ≤ s.row.counts.rollback
rises t [] s run = let same = ap (λ (v : TaskState). v.row.counts.rollback) run in omega (arith, same)
rises t (e ∷ es) s run =
    let here = rollbacks-rise t in
    let next = ap (λ (x : AttemptEnd). x.task.row.counts.rollback) run.1 in
    let rest = rises e.task es s run.2 in
    omega (arith, here, next, rest)

repeats-rise : (t : TaskState) (es : List AttemptEnd) (s : TaskState) → IsRunOf t es s → t.row.in_place ≤ s.row.in_place
repeats-rise t [] s run = let same = ap (λ (v : TaskState). v.row.in_place) run in omega (arith, same)
repeats-rise t (e ∷ es) s run =
    let here = repeats-grow t in
    let next = ap (λ (x : AttemptEnd). x.task.row.in_place) run.1 in
    let rest = repeats-rise e.task es s run.2 in
    omega (arith, here, next, rest)

ready-run : ChunksFollow → RowsStaySound → (t : TaskState) (es : List AttemptEnd) (s : TaskState) → IsReady t → IsRunOf t es s → s.row.counts.rollback ≤ max_rollbacks → s.row.in_place ≤ max_in_place → IsReady s
ready-run law stay t [] s ready run room repeats = subst (λ (v : TaskState). IsReady v) (sym run) ready
ready-run law stay t (e ∷ es) s ready run room repeats =
    let next = ap (λ (x : AttemptEnd). x.task.row.counts.rollback) run.1 in
    let rest = rises e.task es s run.2 in
    let more = ap (λ (x : AttemptEnd). x.task.row.in_place) run.1 in
    let later = repeats-rise e.task es s run.2 in
    let there = ready-next law stay t ready run.0 (omega (arith, next, rest, room)) (omega (arith, more, later, repeats)) in
    ready-run law stay e.task es s (subst (λ (x : AttemptEnd). IsReady x.task) (sym run.1) there) run.2 room repeats

pub tasks-stay-ready : ChunksFollow → RowsStaySound → TasksStayReady
tasks-stay-ready law stay t s ready way room repeats = ready-run law stay t way.attempts s ready way.run room repeats

-- TAKING UP AGAIN

-- a task at its checkpoint, taken up again, is where it was
taken-up : (t : TaskState) → t.artifacts.reader.place ≡ t.row.at → length t.artifacts.writer.written ≡ t.row.written → reopened t ≡ t
taken-up t place count = λ i. record t {
  artifacts = record t.artifacts {
    reader = record t.artifacts.reader { place = sym place i };
    writer = record t.artifacts.writer { written = take_all t.row.written t.artifacts.writer.written (omega (arith, count)) i };
  };
}

alone-rest : ChunksFollow → (t s end : TaskState) → IsOnCourse t → IsOnTheWay t s → IsAlone t end → IsAlone s end
alone-rest law t s end on way alone =
    let rest = run-rest t way.attempts s alone.attempts end way.run alone.run alone.ended in
    record {
      attempts = rest.0;
      run = rest.1;
      ended = alone.ended;
      few = few-run law s rest.0 end (course-run law t way.attempts s on way.run) rest.1;
    }

alone-whole : ChunksFollow → (t s end : TaskState) → IsOnCourse t → IsOnTheWay t s → IsAlone s end → IsAlone t end
alone-whole law t s end on way alone =
    let run = run-append t way.attempts s alone.attempts end way.run alone.run in
    record { attempts = way.attempts ++ alone.attempts; run = run; ended = alone.ended; few = few-run law t (way.attempts ++ alone.attempts) end on run }

pub same-place : ChunksFollow → SamePlace
same-place law t s ready way = let on = course-run law t way.attempts s (ready-course t ready) way.run in taken-up s on.place on.count

pub same-end : ChunksFollow → SameEnd
same-end law t s end ready way =
    let on = ready-course t ready in
    let P : TaskState → Type 0 = λ v. IsAlone v end in
    let same = same-place law t s ready way in
    (λ alone. subst P (sym same) (alone-rest law t s end on way alone), λ alone. alone-whole law t s end on way (subst P same alone))

-- ONE CHUNK

pub commits-take-one-chunk : ChunksFollow → CommitsTakeOneChunk
commits-take-one-chunk law t s delta ready way waiting o =
    one-chunk law s delta (course-run law t way.attempts s (ready-course t ready) way.run) waiting o

-- THE PLAIN RUN

pub calm-runs-are-plain : ChunksFollow → CalmRunsArePlain
calm-runs-are-plain law t s ready (inl waiting) calm alone = plain-alone law t s ready waiting alone calm
calm-runs-are-plain law t s ready (inr finished) calm alone =
    let sound = ready.sound in
    let at = sound.finished.0 finished in
    plain-run law t alone.attempts s alone.run alone.ended sound.placed.at_to sound.placed.redo_to (finished ∙ sym (finished-at t.row.at t.row.hi at)) ready.item_counted ready.count calm
