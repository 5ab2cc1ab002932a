-- As many records are counted as skipped as can't be read.
use Rattle.std.proofs.Common.{◌≡◌, ℕ, zero, suc, ◌+◌, ◌-◌, ◌≤◌, ◌<◌, ◌++◌, Bool, false, cond, List, [], ◌∷◌, length, Option, None, Some, is_some, refl, ap, ap₂, sym, subst, ◌∙◌, arith}
use Rattle.std.specs.Prelude.{slice_get}
use Rattle.std.specs.List.{cons_option, count_by, filter_map, range_with_len}
use Rattle.std.proofs.lemmas.List.{length-append}
use Rattle.std.proofs.lemmas.List.Elements.{filter_map-append}
use Rattle.std.proofs.lemmas.List.Sums.{sum_by-cons}
use Rattle.jb_base.specs.declared.class.ClassId.{ClassId}
use Rattle.jb_base.specs.declared.range.Range.{Range}
use Rattle.jb_base.specs.Rules.{RulesRecord}
use Rattle.jb_ready.specs.declared.notes.Note.{Note}
use Rattle.jb_rows.specs.Answers.{Answer, Filtered, Given, Refused}
use Rattle.jb_rules.specs.declared.row.Row.{Row}
use Rattle.jb_artifacts.specs.declared.faults.FaultPlan.{FaultPlan}
use Rattle.jb_artifacts.specs.Faults.{live}
use Rattle.jb_artifacts.specs.Meaning.{ArtifactsMeaning}
use Rattle.jb_chunk.specs.Alone.{IsOnTheWay, IsRunOf}
use Rattle.jb_chunk.specs.Attempt.{AttemptEnd, again_of, block_of, end_of, ending_by, settled_at}
use Rattle.jb_chunk.specs.Block.{count_of, entry, entry_by, settles, settling, skips_before, stops}
use Rattle.jb_chunk.specs.Entries.{fault_in, is_fault, is_read_fault}
use Rattle.jb_chunk.specs.Laws.{RepeatsAreRetries, TasksStandAtCheckpoints, WaysJoin}
use Rattle.jb_chunk.specs.TaskState.{IsReady, TaskState}
use Rattle.jb_chunk.specs.declared.outcome.Outcome.{Outcome}
use Rattle.jb_chunk.specs.declared.outcome.Outcome.TheVariants.{Committed, Rolled, Failed, NoMemory}
use Rattle.jb_chunk.proofs.RecordRepeats.{unfound}
use Rattle.jb_chunk.proofs.SettlingRecord.{numbers-split}
use Rattle.jb_step.specs.Alone.{AreOnTheWay}
use Rattle.jb_step.specs.rounds.PlanLaws.{AreTasksOf, BeginsWithRows, BeginsWithTasks}
use Rattle.jb_step.specs.preparing.Setup.{Setup, first_tasks, fresh_rows}
use Rattle.jb_records.specs.Function.{Function, answer_for, refusal_in, refusal_of, result_in, result_of}
use Rattle.jb_records.specs.Runs.{HasResults, PartsStay, ResultsGoOn}
use Rattle.jb_records.specs.Skips.{AreCounted, AreSkipsCounted, NewRowsAreCounted, SkipsAreCounted, skip_by, skips_between}
use Rattle.jb_records.specs.Steps.{StartsFresh}
use Rattle.jb_records.specs.Artifacts.{IsArtifactsOver, IsFaulted, IsNeverSkipped, own_records, record_of}
use Rattle.jb_records.proofs.EachRow.{Stays, TasksStay, rows-stay}
use Rattle.jb_records.proofs.Going.{Commits, HasBlock, all-written, commit-none, entry-is, live-never, never, never-stops, repeated-task, repeats-have, same-task, way-on, whole_counts}
use Rattle.jb_records.proofs.Joining.{own-record}
use Rattle.jb_records.proofs.Skipping.{skips-none}
use Rattle.jb_records.proofs.Steps.{HaveResults, all-begun}

-- ---- A BLOCK

-- in a block that nothing settles, a record that is refused is a fault, and no other is
given-by : (rules : RulesRecord) (row : Row) (skips : ℕ) (plan : FaultPlan) (fault : Option ClassId) (answer : Option (List ℕ)) → IsNeverSkipped rules plan → live plan ≡ fault
    → stops rules row (fault_in (entry_by None fault answer)) skips ≡ false → is_fault (entry_by None fault answer) ≡ false
given-by rules row skips plan None answer is e idle = refl
given-by rules row skips plan (Some class) answer is e idle = absurd (never (sym (never-stops rules row class skips (live-never rules plan class is e)) ∙ idle))

fault-by : (rules : RulesRecord) (row : Row) (skips : ℕ) (plan : FaultPlan) (a : Answer) → IsFaulted rules (refusal_in a) plan
    → stops rules row (fault_in (entry_by None (live plan) (result_in a))) skips ≡ false → is_fault (entry_by None (live plan) (result_in a)) ≡ is_some (refusal_in a)
fault-by rules row skips plan (Refused class) is idle = ap (λ p. is_fault (entry_by None (live p) None)) is
fault-by rules row skips plan (Given fields) is idle = given-by rules row skips plan (live plan) (result_in (Given fields)) is refl idle
fault-by rules row skips plan Filtered is idle = given-by rules row skips plan (live plan) None is refl idle

entry-fault : (f : Function) (first : ℕ) (records : List (List ℕ)) (rules : RulesRecord) (row : Row) (w : ArtifactsMeaning) (k : ℕ) → IsArtifactsOver f rules first records w
    → settles rules row w k ≡ false → is_fault (entry w k) ≡ is_some (refusal_of f (record_of first records k))
unfolding settles
entry-fault f first records rules row w k is idle =
    let own = record_of first records k in
    let same = entry-is f first records rules w k is in
    ap is_fault same ∙ fault-by rules row (skips_before row w k) (w.processor.faults k) (answer_for f own) (is.faults k) (ap (λ e. stops rules row (fault_in e) (skips_before row w k)) (sym same) ∙ idle)

-- and none is a fault of a read
no-read : (fault : Option ClassId) (answer : Option (List ℕ)) → is_read_fault (entry_by None fault answer) ≡ false
no-read None answer = refl
no-read (Some class) answer = refl

pub noted : (k : ℕ) (refusal : Option ClassId) → is_some refusal ≡ is_some (skip_by k refusal)
noted k None = refl
noted k (Some class) = refl

one-more : (o : Option Note) (xs : List Note) → cond (is_some o) 1 0 + length xs ≡ length (cons_option o xs)
one-more None xs = omega arith
one-more (Some note) xs = omega arith

pub counted-are : (p : ℕ → Bool) (g : ℕ → Option Note) (n lo : ℕ) → ((k : ℕ) → lo ≤ k → k < lo + n → p k ≡ is_some (g k)) → count_by p (range_with_len lo n) ≡ length (filter_map g (range_with_len lo n))
counted-are p g zero lo are = refl
counted-are p g (suc n) lo are =
    let rest = counted-are p g n (lo + 1) (λ k from to. are k (omega (arith, from)) (omega (arith, to))) in
    sum_by-cons (λ k. cond (p k) 1 0) lo (range_with_len (lo + 1) n)
    ∙ ap₂ (λ (b : Bool) (m : ℕ). cond b 1 0 + m) (are lo (omega arith) (omega arith)) rest
    ∙ one-more (g lo) (filter_map g (range_with_len (lo + 1) n))

none-counted : (p : ℕ → Bool) (n lo : ℕ) → ((k : ℕ) → p k ≡ false) → count_by p (range_with_len lo n) ≡ 0
none-counted p zero lo none = refl
none-counted p (suc n) lo none =
    sum_by-cons (λ k. cond (p k) 1 0) lo (range_with_len (lo + 1) n)
    ∙ ap₂ (λ (b : Bool) (m : ℕ). cond b 1 0 + m) (none lo) (none-counted p n (lo + 1) none)

pub reads-counted : (f : Function) (first : ℕ) (records : List (List ℕ)) (rules : RulesRecord) (w : ArtifactsMeaning) (lo hi : ℕ) → IsArtifactsOver f rules first records w → count_of is_read_fault w lo hi ≡ 0
unfolding count_of
reads-counted f first records rules w lo hi is =
    none-counted (λ k. is_read_fault (entry w k)) (hi - lo) lo
    (λ k. ap is_read_fault (entry-is f first records rules w k is) ∙ no-read (live (w.processor.faults k)) (result_of f (record_of first records k)))

faults-counted : (f : Function) (records : List (List ℕ)) (t : TaskState) → HasResults f records t → (block_of t).hi ≤ t.row.hi → settled_at t ≡ None
    → count_of is_fault t.artifacts t.row.at (block_of t).hi ≡ length (skips_between f records t.row.at (block_of t).hi)
unfolding count_of settling
faults-counted f records t has last none =
    let own = own_records records t.row in
    let above = has.from in
    let hi = (block_of t).hi in
    counted-are (λ k. is_fault (entry t.artifacts k)) (λ k. skip_by k (refusal_of f (record_of 0 records k))) (hi - t.row.at) t.row.at
    (λ k from to.
    let lo : t.row.lo ≤ k = omega (arith, above, from) in
    let inside : k < t.row.hi = omega (arith, last, from, to) in
    entry-fault f t.row.lo own t.rules t.row t.artifacts k has.artifacts (unfound (settles t.rules t.row t.artifacts) (hi - t.row.at) t.row.at none k from to)
    ∙ ap (λ (bytes : List ℕ). is_some (refusal_of f bytes)) (own-record records t.row.lo t.row.hi k lo inside)
    ∙ noted k (refusal_of f (record_of 0 records k)))

-- so the skips of processing are those of records that are refused
pub block-counted : (f : Function) (records : List (List ℕ)) (t : TaskState) → HasResults f records t → (block_of t).hi ≤ t.row.hi → settled_at t ≡ None
    → count_of is_fault t.artifacts t.row.at (block_of t).hi - count_of is_read_fault t.artifacts t.row.at (block_of t).hi ≡ length (skips_between f records t.row.at (block_of t).hi)
block-counted f records t has last none =
    let reads = reads-counted f t.row.lo (own_records records t.row) t.rules t.artifacts t.row.at (block_of t).hi has.artifacts in
    let faults = faults-counted f records t has last none in
    omega (arith, reads, faults)

-- ---- ATTEMPT BY ATTEMPT

pub skips-join : (f : Function) (records : List (List ℕ)) (lo at hi : ℕ) → lo ≤ at → at ≤ hi → skips_between f records lo at ++ skips_between f records at hi ≡ skips_between f records lo hi
skips-join f records lo at hi from to =
    let g : ℕ → Option Note = λ k. skip_by k (refusal_of f (record_of 0 records k)) in
    let start : lo + (at - lo) ≡ at = omega (arith, from) in
    let whole : (at - lo) + (hi - at) ≡ hi - lo = omega (arith, from, to) in
    ap (λ a. filter_map g (range_with_len lo (at - lo)) ++ filter_map g (range_with_len a (hi - at))) (sym start)
    ∙ sym (filter_map-append g (range_with_len lo (at - lo)) (range_with_len (lo + (at - lo)) (hi - at)))
    ∙ ap (filter_map g) (sym (numbers-split lo (at - lo) (hi - at)))
    ∙ ap (λ n. filter_map g (range_with_len lo n)) whole

-- what was counted between two checkpoints
record Counts (f : Function) (records : List (List ℕ)) (row now : Row) : Type 0 where
  pub counted : now.counts.process_skip ≡ row.counts.process_skip + length (skips_between f records row.at now.at)
  pub on : row.at ≤ now.at

same-counts : (f : Function) (records : List (List ℕ)) (row now : Row) → now.at ≡ row.at → now.counts.process_skip ≡ row.counts.process_skip → Counts f records row now
same-counts f records row now at same =
    let none : length (skips_between f records row.at now.at) ≡ 0 = ap (λ n. length (skips_between f records row.at n)) at ∙ ap length (skips-none f records row.at) in
    record { counted = omega (arith, same, none); on = omega (arith, at) }

counts-join : (f : Function) (records : List (List ℕ)) (row between now : Row) → Counts f records row between → Counts f records between now → Counts f records row now
counts-join f records row between now first later =
    let from = first.on in
    let to = later.on in
    let one = first.counted in
    let other = later.counted in
    let all = sym (length-append (skips_between f records row.at between.at) (skips_between f records between.at now.at)) ∙ ap length (skips-join f records row.at between.at now.at from to) in
    record { counted = omega (arith, one, other, all); on = omega (arith, from, to) }

attempt-counts : (f : Function) (records : List (List ℕ)) (t : TaskState) (again : ℕ) (e : Outcome) → end_of t ≡ e → HasBlock t → HasResults f records t → Counts f records t.row (ending_by t again e).task.row
attempt-counts f records t again (Committed delta) is block has =
    let lt = block.0 in
    let commits = subst Commits (sym is) tt in
    let same : Committed (whole_counts t) ≡ Committed delta = sym (all-written t has.artifacts.writes commits) ∙ is in
    let whole : Counts f records t.row (ending_by t again (Committed (whole_counts t))).task.row = record {
      counted = ap (λ n. t.row.counts.process_skip + n) (block-counted f records t has block.1 (commit-none t commits));
      on = omega (arith, lt);
    } in
    subst (λ (e : Outcome). Counts f records t.row (ending_by t again e).task.row) same whole
attempt-counts f records t again (Rolled class) is block has = same-counts f records t.row _ refl refl
attempt-counts f records t again (Failed class) is block has = same-counts f records t.row _ refl refl
attempt-counts f records t again NoMemory is block has = same-counts f records t.row _ refl refl

run-counts : TasksStandAtCheckpoints → WaysJoin → RepeatsAreRetries → ResultsGoOn → (f : Function) (records : List (List ℕ)) (start : TaskState) → IsReady start → HasResults f records start
    → (es : List AttemptEnd) (t s : TaskState) → IsOnTheWay start t → IsRunOf t es s → Counts f records t.row s.row
run-counts stand join law goes f records start ready begun [] t s way run = subst (λ (x : TaskState). Counts f records t.row x.row) (sym run) (same-counts f records t.row t.row refl refl)
run-counts stand join law goes f records start ready begun (e ∷ es) t s way run =
    let waiting = run.0 in
    let on = way-on join start t e.task e way waiting run.1 refl in
    let again = again_of t in
    let u = repeated-task t in
    let is : e ≡ ending_by u again (end_of u) = run.1 ∙ ap (λ (x : TaskState). ending_by x again (end_of x)) (same-task law t) in
    let has = goes f records start t ready begun way in
    let once = attempt-counts f records u again (end_of u) refl ((stand start t ready way).chunk waiting) (repeats-have f records t has) in
    let here = subst (λ (x : AttemptEnd). Counts f records u.row x.task.row) (sym is) once in
    counts-join f records t.row e.task.row s.row (record { counted = here.counted; on = here.on }) (run-counts stand join law goes f records start ready begun es e.task s on run.2)

-- ---- THE PARTITIONS OF A STEP

-- a row that is counted is still so
task-stays : (f : Function) (records : List (List ℕ)) (t x : TaskState) → t.row.lo ≤ t.row.at → x.row.lo ≡ t.row.lo → Counts f records t.row x.row → Stays (AreSkipsCounted f records) t.row x.row
task-stays f records t x from lo more is =
    let on = more.on in
    let one = more.counted in
    let all = sym (length-append (skips_between f records t.row.lo t.row.at) (skips_between f records t.row.at x.row.at)) ∙ ap length (skips-join f records t.row.lo t.row.at x.row.at from on) in
    let same = ap (λ n. length (skips_between f records n x.row.at)) lo in
    omega (arith, is, one, all, same)

tasks-stay : TasksStandAtCheckpoints → WaysJoin → RepeatsAreRetries → ResultsGoOn → PartsStay → (f : Function) (records : List (List ℕ)) (s : Setup) (ts now : List TaskState)
    → AreTasksOf s ts → HaveResults f records ts → AreOnTheWay ts now → TasksStay (AreSkipsCounted f records) ts now
tasks-stay stand join law goes parts f records s [] [] ready have ways = tt
tasks-stay stand join law goes parts f records s [] (x ∷ xs) ready have ways = absurd ways
tasks-stay stand join law goes parts f records s (t ∷ ts) [] ready have ways = absurd ways
tasks-stay stand join law goes parts f records s (t ∷ ts) (x ∷ xs) ready have ways =
    let more = run-counts stand join law goes f records t ready.0.0 have.0 ways.0.attempts t x (record { attempts = []; run = refl }) ways.0.run in
    (task-stays f records t x have.0.from (parts t x ways.0).lo more, tasks-stay stand join law goes parts f records s ts xs ready.1 have.1 ways.1)

pub skips-counted : TasksStandAtCheckpoints → WaysJoin → RepeatsAreRetries → ResultsGoOn → PartsStay → BeginsWithTasks → BeginsWithRows → SkipsAreCounted
skips-counted stand join law goes parts begins same f records partition_results s artifacts ends is fit are ways so-far counted =
    let ready = (begins s artifacts is fit).tasks in
    let ts = first_tasks s artifacts in
    let begun = all-begun f records partition_results s 0 s.rows partition_results artifacts so-far.each (λ i share get. let e : i ≡ 0 + i = omega arith in subst (λ m. slice_get partition_results m ≡ Some share) e get) are ready in
    let stay = tasks-stay stand join law goes parts f records s ts ends ready begun ways in
    rows-stay (AreSkipsCounted f records) parts ts ends 0 s.rows ways stay (subst (AreCounted f records) (sym (same s artifacts fit)) counted)

-- ---- A STEP THAT BEGINS ANEW

pub new-counted : (f : Function) (records : List (List ℕ)) (ranges : List Range) → AreCounted f records (fresh_rows ranges)
new-counted f records [] = tt
new-counted f records (r ∷ rs) = (sym (ap length (skips-none f records r.lo)), new-counted f records rs)

pub anew-counted : NewRowsAreCounted → (f : Function) (records : List (List ℕ)) (count : ℕ) (s : Setup) → StartsFresh count s → AreCounted f records s.rows
anew-counted law f records count s anew = subst (AreCounted f records) (sym anew.rows) (law f records anew.ranges)
