-- The partitions of a step's run, each by itself.
use Rattle.std.proofs.Common.{◌≡◌, ℕ, ◌+◌, ◌≤◌, ◌<◌, Bool, true, false, cond, List, [], ◌∷◌, length, map, take, Option, Some, None, refl, ap, ap₂, sym, ◌∙◌, subst, arith}
use Rattle.std.specs.Prelude.{◌==◌, nat_eq, find}
use Rattle.std.proofs.lemmas.List.{length-take-le}
use Rattle.std.specs.List.{enumerate_from, zip, AllByRecursion}
use Rattle.std.proofs.lemmas.Bool.Decides.{nat_tests}
use Rattle.jb_base.specs.Limits.{max_retry_limit}
use Rattle.jb_job.specs.Records.{StepRecord}
use Rattle.jb_rules.specs.States.{has_ended, is_finished}
use Rattle.jb_rules.specs.declared.row.Row.{Row}
use Rattle.jb_artifacts.specs.Meaning.{ArtifactsMeaning}
use Rattle.jb_chunk.specs.Alone.{IsAlone, IsOnTheWay, IsRunOf}
use Rattle.jb_chunk.specs.Attempt.{AttemptEnd}
use Rattle.jb_chunk.specs.TaskState.{HasItemCount, IsReady, TaskState, started}
use Rattle.jb_step.specs.Answers.{artifacts_of}
use Rattle.jb_step.specs.preparing.Setup.{Setup, row_now, rows_now}
use Rattle.jb_step.specs.Alone.{AreOnTheWay}
use Rattle.jb_documents.specs.declared.run.step_data.StepData.{StepData}
use Rattle.jb_texts.specs.Report.{PartitionReport}
use Rattle.jb_program.specs.declared.run.settings.StepSettings.{StepSettings}
use Rattle.jb_program.specs.JobRun.{settings_of}
use Rattle.jb_program.specs.inside.LowerLaws.{LowerCrateLaws}
use Rattle.jb_program.specs.PartitionRun.{ArePartitionRuns, IsPartitionRun, begun_with, held_by, report_of, opening_artifacts_for}
use Rattle.jb_program.specs.StepRun.{committed_of, outputs_in, partitions_left}
use Rattle.jb_program.proofs.Opening.{AreOpening, IsOpening}
use Rattle.jb_program.proofs.Partitions.{same-report}
use Rattle.jb_program.proofs.Unfinished.{fits-row, open_from, open-above, open-more, open-none}

-- ---- a partition's first task

-- what is known of a step's settings
pub record AreKept (settings : StepSettings) : Type 0 where
  pub items : HasItemCount settings.item_count
  pub retried : settings.rules.retry_limit ≤ max_retry_limit

-- a partition is ready when it begins, or goes on
first-ready : (settings : StepSettings) (records : List (List ℕ)) (outputs : List (List (List ℕ))) (p : ℕ) (row : Row) → AreKept settings → IsOpening (length records) outputs p row
    → IsReady (begun_with settings records outputs p row)
first-ready settings records outputs p row kept is =
    let serves = fits-row settings records outputs p row is in
    let long : length (take row.written (held_by outputs p)) ≡ row.written = length-take-le row.written (held_by outputs p) is.served in
    record {
      sound = is.sound;
      item_counted = kept.items;
      retried = kept.retried;
      fits = record { from = serves.from; to = serves.to; count = omega (arith, long) };
      place = refl;
      count = long;
    }

-- wherever its own attempts lead it, that is what it leaves by itself
pub leaves : LowerCrateLaws → (settings : StepSettings) (records : List (List ℕ)) (outputs : List (List (List ℕ))) (p : ℕ) (row : Row) (left : TaskState) → AreKept settings → IsOpening (length records) outputs p row
    → IsOnTheWay (begun_with settings records outputs p row) left → IsPartitionRun (begun_with settings records outputs p row) (report_of left)
leaves below settings records outputs p row left kept is way =
    let begun = begun_with settings records outputs p row in
    let ready = first-ready settings records outputs p row kept is in
    let alone : has_ended left.row.state ≡ true → IsAlone begun left = λ ended. below.ends begun left ready way ended in
    record {
      task = left;
      is_left = refl;
      on_the_way = way;
      alone = alone;
      plain = λ ended calm. same-report left begun (below.plain begun left ready is.begun calm (alone ended));
    }

-- ---- an attempt leaves the partition's number as it is

same-number : (t s : TaskState) (attempts : List AttemptEnd) → IsRunOf t attempts s → s.partition ≡ t.partition
same-number t s [] run = ap (λ (u : TaskState). u.partition) run
same-number t s (e ∷ es) run = same-number e.task s es run.2 ∙ ap (λ (f : AttemptEnd). f.task.partition) run.1

-- ---- all partitions

-- a partition's report by what is left of all
abbrev pub report_at : (outputs : List (List (List ℕ))) → List TaskState → List (ℕ × ArtifactsMeaning) → ℕ × Row → PartitionReport
report_at outputs table left n = record {
  row = row_now table n.0 n.1;
  outputs = outputs_in (committed_of outputs (n.0, row_now table n.0 n.1)) (find (λ one. one.0 == n.0) left);
}

abbrev pub reports_from : (outputs : List (List (List ℕ))) → List TaskState → List (ℕ × ArtifactsMeaning) → ℕ → List Row → List PartitionReport
reports_from outputs table left k rows = map (report_at outputs table left) (enumerate_from k rows)

-- the first tasks, where these partitions are to be run
abbrev tasks_of : StepRecord → StepData → (outputs : List (List (List ℕ))) → List (ℕ × Row) → List TaskState
tasks_of step supply outputs ns = map (λ n. started n.0.0 n.0.1 step.rules step.item_count n.1) (zip ns (map (opening_artifacts_for (settings_of step supply) supply.records outputs) ns))

-- a partition that is not among these has its first row, and no writer came back from it
abbrev IsAbove : ℕ → List TaskState → Type 0
IsAbove k ends = AllByRecursion (λ (t : TaskState). k < t.partition) ends

none-now : (b : Bool) (row other rest : Row) → b ≡ false → rest ≡ other → cond b row rest ≡ other
none-now true row other rest e is = let never : ⊥ = cc in absurd never
none-now false row other rest e is = is

other-now : (k : ℕ) (row : Row) (ends : List TaskState) → IsAbove k ends → row_now ends k row ≡ row
other-now k row [] above = refl
other-now k row (t ∷ ends) above =
    let here = above.0 in
    let differs : nat_eq t.partition k ≡ false = grind (arith, nat_tests, here) in
    none-now (nat_eq t.partition k) _ row (row_now ends k row) differs (other-now k row ends above.1)

none-found : (b : Bool) (a : ℕ × ArtifactsMeaning) (rest : Option (ℕ × ArtifactsMeaning)) → b ≡ false → rest ≡ None → cond b (Some a) rest ≡ None
none-found true a rest e is = let never : ⊥ = cc in absurd never
none-found false a rest e is = is

other-found : (k : ℕ) (ends : List TaskState) → IsAbove k ends → find (λ one. one.0 == k) (artifacts_of ends) ≡ None
other-found k [] above = refl
other-found k (t ∷ ends) above =
    let here = above.0 in
    let differs : (t.partition == k) ≡ false = grind (arith, nat_tests, here) in
    none-found (t.partition == k) (t.partition, t.artifacts) (find (λ one. one.0 == k) (artifacts_of ends)) differs (other-found k ends above.1)

-- what is left of a partition doesn't count for the ones behind it
rest-from : (outputs : List (List (List ℕ))) (t : TaskState) (ends : List TaskState) (k : ℕ) (rows : List Row) → t.partition < k
    → reports_from outputs (t ∷ ends) (artifacts_of (t ∷ ends)) k rows ≡ reports_from outputs ends (artifacts_of ends) k rows
rest-from outputs t ends k [] before = refl
rest-from outputs t ends k (row ∷ rows) before =
    let now : nat_eq t.partition k ≡ false = grind (arith, nat_tests, before) in
    let found : (t.partition == k) ≡ false = now in
    let same : row_now (t ∷ ends) k row ≡ row_now ends k row = ap (λ b. cond b t.row (row_now ends k row)) now in
    let left = artifacts_of ends in
    let other : find (λ one. one.0 == k) (artifacts_of (t ∷ ends)) ≡ find (λ one. one.0 == k) left = ap (λ b. cond b (Some (t.partition, t.artifacts)) (find (λ one. one.0 == k) left)) found in
    ap₂ ◌∷◌
    (λ i. record { row = same i; outputs = outputs_in (committed_of outputs (k, same i)) (other i) })
    (rest-from outputs t ends (k + 1) rows (omega (arith, before)))

-- all that was left is behind a partition, if all that began is
ends-above : (step : StepRecord) (supply : StepData) (outputs : List (List (List ℕ))) (k : ℕ) (ns : List (ℕ × Row)) (ends : List TaskState) → AllByRecursion (λ (m : ℕ × Row). k < m.0) ns
    → AreOnTheWay (tasks_of step supply outputs ns) ends → IsAbove k ends
ends-above step supply outputs k [] [] above way = tt
ends-above step supply outputs k [] (t ∷ ends) above way = absurd way
ends-above step supply outputs k (n ∷ ns) [] above way = tt
ends-above step supply outputs k (n ∷ ns) (t ∷ ends) above way =
    let same : t.partition ≡ n.0 = same-number _ t way.0.attempts way.0.run in
    let here = above.0 in
    (omega (arith, same, here), ends-above step supply outputs k ns ends above.1 way.1)

-- ---- the induction

abbrev Runs : StepRecord → StepData → (outputs : List (List (List ℕ))) → ℕ → List Row → List (ℕ × Row) → Type 0
Runs step supply outputs k rows ns =
    (ends : List TaskState) → AreOnTheWay (tasks_of step supply outputs ns) ends
    → ArePartitionRuns (begun_with (settings_of step supply) supply.records outputs) k rows (reports_from outputs ends (artifacts_of ends) k rows)

-- one partition more, which was finished before
none-more : LowerCrateLaws → (step : StepRecord) (supply : StepData) (outputs : List (List (List ℕ))) (k : ℕ) (row : Row) (rows : List Row) → AreKept (settings_of step supply)
    → IsOpening (length supply.records) outputs k row → Runs step supply outputs (k + 1) rows (open_from (k + 1) rows) → Runs step supply outputs k (row ∷ rows) (open_from (k + 1) rows)
none-more below step supply outputs k row rows kept opens rest ends way =
    let settings = settings_of step supply in
    let begun = begun_with settings supply.records outputs k row in
    let above = ends-above step supply outputs k (open_from (k + 1) rows) ends (open-above k (k + 1) rows (omega arith)) way in
    let now : row ≡ row_now ends k row = sym (other-now k row ends above) in
    let found : None ≡ find (λ one. one.0 == k) (artifacts_of ends) = sym (other-found k ends above) in
    let is : report_of begun ≡ report_at outputs ends (artifacts_of ends) (k, row) = λ i. record { row = now i; outputs = outputs_in (committed_of outputs (k, now i)) (found i) } in (
      subst (λ (one : PartitionReport). IsPartitionRun begun one) is (leaves below settings supply.records outputs k row begun kept opens (record { attempts = []; run = refl })),
      rest ends way,
    )

-- one partition more, which was run
one-more : LowerCrateLaws → (step : StepRecord) (supply : StepData) (outputs : List (List (List ℕ))) (k : ℕ) (row : Row) (rows : List Row) → AreKept (settings_of step supply)
    → IsOpening (length supply.records) outputs k row → Runs step supply outputs (k + 1) rows (open_from (k + 1) rows) → Runs step supply outputs k (row ∷ rows) ((k, row) ∷ open_from (k + 1) rows)
one-more below step supply outputs k row rows kept opens rest [] way = absurd way
one-more below step supply outputs k row rows kept opens rest (t ∷ ends) way =
    let settings = settings_of step supply in
    let begun = begun_with settings supply.records outputs k row in
    let same : t.partition ≡ k = same-number _ t way.0.attempts way.0.run in
    let before : t.partition < k + 1 = omega (arith, same) in
    let yes : nat_eq t.partition k ≡ true = grind (arith, nat_tests, same) in
    let found : (t.partition == k) ≡ true = yes in
    let left = artifacts_of ends in
    let is : report_of t ≡ report_at outputs (t ∷ ends) (artifacts_of (t ∷ ends)) (k, row) = λ i. record {
      row = ap (λ b. cond b t.row (row_now ends k row)) (sym yes) i;
      outputs = ap (λ b. outputs_in (committed_of outputs (k, row_now (t ∷ ends) k row)) (cond b (Some (t.partition, t.artifacts)) (find (λ one. one.0 == k) left))) (sym found) i;
    } in (
      subst (λ (one : PartitionReport). IsPartitionRun begun one) is (leaves below settings supply.records outputs k row t kept opens way.0),
      subst (λ (others : List PartitionReport). ArePartitionRuns (begun_with settings supply.records outputs) (k + 1) rows others) (sym (rest-from outputs t ends (k + 1) rows before)) (rest ends way.1),
    )

next : LowerCrateLaws → (step : StepRecord) (supply : StepData) (outputs : List (List (List ℕ))) (k : ℕ) (row : Row) (rows : List Row) (finished : Bool) → AreKept (settings_of step supply)
    → IsOpening (length supply.records) outputs k row → is_finished row.state ≡ finished → Runs step supply outputs (k + 1) rows (open_from (k + 1) rows) → Runs step supply outputs k (row ∷ rows) (open_from k (row ∷ rows))
next below step supply outputs k row rows true kept opens is rest =
    subst (λ ns. Runs step supply outputs k (row ∷ rows) ns) (sym (open-none k row rows is)) (none-more below step supply outputs k row rows kept opens rest)
next below step supply outputs k row rows false kept opens is rest =
    subst (λ ns. Runs step supply outputs k (row ∷ rows) ns) (sym (open-more k row rows is)) (one-more below step supply outputs k row rows kept opens rest)

runs-from : LowerCrateLaws → (step : StepRecord) (supply : StepData) (outputs : List (List (List ℕ))) (k : ℕ) (rows : List Row) → AreKept (settings_of step supply)
    → AreOpening (length supply.records) outputs k rows → Runs step supply outputs k rows (open_from k rows)
runs-from below step supply outputs k [] kept opens = λ ends way. refl
runs-from below step supply outputs k (row ∷ rows) kept opens =
    next below step supply outputs k row rows (is_finished row.state) kept opens.0 refl (runs-from below step supply outputs (k + 1) rows kept opens.1)

-- ---- as the report has them

left-from : (outputs : List (List (List ℕ))) (table : List TaskState) (left : List (ℕ × ArtifactsMeaning)) (k : ℕ) (rows : List Row)
    → map (λ n. record { row = n.1; outputs = outputs_in (committed_of outputs n) (find (λ one. one.0 == n.0) left) }) (enumerate_from k (map (λ n. row_now table n.0 n.1) (enumerate_from k rows))) ≡ reports_from outputs table left k rows
left-from outputs table left k [] = refl
left-from outputs table left k (row ∷ rows) = ap (λ others. report_at outputs table left (k, row) ∷ others) (left-from outputs table left (k + 1) rows)

-- each partition left what it leaves by itself
pub partition-runs : LowerCrateLaws → (step : StepRecord) (supply : StepData) (outputs : List (List (List ℕ))) (s : Setup) (rows : List Row) (left : List (ℕ × ArtifactsMeaning)) (ends : List TaskState) → AreKept (settings_of step supply)
    → AreOpening (length supply.records) outputs 0 s.rows → AreOnTheWay (tasks_of step supply outputs (open_from 0 s.rows)) ends → rows ≡ rows_now s.rows ends → left ≡ artifacts_of ends
    → ArePartitionRuns (begun_with (settings_of step supply) supply.records outputs) 0 s.rows (partitions_left outputs rows left)
partition-runs below step supply outputs s rows left ends kept opens way are came_back =
    subst (λ (reports : List PartitionReport). ArePartitionRuns (begun_with (settings_of step supply) supply.records outputs) 0 s.rows reports)
    (sym (ap₂ (partitions_left outputs) are came_back ∙ left-from outputs ends (artifacts_of ends) 0 s.rows))
    (runs-from below step supply outputs 0 s.rows kept opens ends way)
