-- Runs of a step, each begun from what the one before it left.
use Rattle.std.proofs.Common.{◌≡◌, ◌≢◌, ℕ, suc, zero, ◌+◌, Bool, true, false, not, cond, List, [], ◌∷◌, length, map, Option, Some, None, Result, Ok, refl, ap, ap₂, sym, ◌∙◌, subst, ◌<◌, arith}
use Rattle.std.specs.Prelude.{◌&&◌, filter, option_map, slice_index_or}
use Rattle.std.specs.Option.{option_map_or}
use Rattle.std.specs.List.{enumerate_from, zip, AllByRecursion}
use Rattle.std.proofs.lemmas.Simd.{map-map}
use Rattle.jb_base.proofs.Pairwise.{pairwise-join}
use Rattle.jb_base.specs.Pairwise.{Pairwise}
use Rattle.jb_base.specs.Rules.{RulesRecord}
use Rattle.jb_job.specs.Records.{StepRecord}
use Rattle.jb_rules.specs.declared.row.Row.{Row}
use Rattle.jb_rules.specs.declared.row.RowState.{RowState}
use Rattle.jb_rules.specs.declared.row.RowState.TheVariants as state
use Rattle.jb_rules.specs.declared.row.RowState.TheVariants.{Failed}
use Rattle.jb_rules.specs.Rows.{dropped_row}
use Rattle.jb_rules.specs.Sound.{IsSoundRow}
use Rattle.jb_rules.specs.States.{has_ended, is_finished, is_failed}
use Rattle.jb_artifacts.specs.Meaning.{ArtifactsMeaning, Fits}
use Rattle.jb_chunk.specs.Alone.{IsOnTheWay}
use Rattle.jb_chunk.specs.Laws.{SamePlace, WaysJoin, WaysEnd, OneEnd, TasksStayReady}
use Rattle.jb_chunk.specs.TaskState.{TaskState, started}
use Rattle.jb_saved.specs.GoingOn.{restarted, AreUnfailed}
use Rattle.jb_saved.specs.Laws.{TreeIsRead}
use Rattle.jb_saved.specs.Reading.{answer_of}
use Rattle.jb_saved.specs.SavedRows.{SavedRows}
use Rattle.jb_saved.specs.declared.place.SavedPlace.{SavedPlace}
use Rattle.jb_step.specs.Answers.{StepRun, artifacts_of, newer, table_before, task_left, tasks_after, tasks_before, tasks_by, tasks_left}
use Rattle.jb_step.specs.Tables.{ArePlaced, Table, held_in, in_places, keep_if, held_at}
use Rattle.jb_step.specs.preparing.Prepare.{FitRows}
use Rattle.jb_step.specs.restarts.Restarts.{IsChain, IsPreparedFor, IsRestart, AreRestarts, RestartsFit, RestartsAreOnTheWay, RestartsEndAlone, RestartsEndAsUnstopped}
use Rattle.jb_step.specs.preparing.Setup.{Setup, IsSetup, first_tasks, gone_on, needs, opening_rows, rows_now, unfinished}
use Rattle.jb_step.specs.restarts.StepRuns.{IsAnswered, last_run, tasks_at_last, tasks_through, tasks_unfinished, artifacts_restarted}
use Rattle.jb_step.specs.Alone.{AreAlone, AreOnTheWay, AreReady, have_ended}
use Rattle.jb_step.specs.inside.rounds.Round.{partitions_of}
use Rattle.jb_step.proofs.table.Filters.{all-back, all-so, filter-again, filter-all, map-stays}
use Rattle.jb_step.proofs.table.Held.{HasItsTask, at-map, held-map, placed-map}
use Rattle.jb_step.proofs.table.Keeping.{at-kept, held-kept, placed-kept}
use Rattle.jb_step.proofs.table.Putting.{ArePut, are-put, is_open}
use Rattle.jb_step.proofs.table.Leftover.{IsIn, are-in, kept}
use Rattle.jb_step.proofs.table.Rows.{artifacts-at, in-at, length-in, row_of, rows-are, rows_in}
use Rattle.jb_step.proofs.plans.Holding.{all-unfinished, begins_with_table, begins_with_tasks, first_from}
use Rattle.jb_step.proofs.run.Leading.{steps_are_on_the_way, alone-all, alone_is_one_place}
use Rattle.jb_step.proofs.run.SoFar.{ready-of}

-- WHAT ONE RUN GIVES

pub record GivesTable (r : StepRun) : Type 0 where
  pub ready : AreReady (tasks_before r)
  pub names : partitions_of (tasks_before r) ≡ needs r.setup.rows
  pub way : AreOnTheWay (tasks_before r) (tasks_after r)
  pub rows : r.snapshot.rows.items ≡ rows_now r.setup.rows (tasks_after r)
  pub came_back : r.left ≡ artifacts_of (tasks_after r)
  pub ended : r.snapshot.stopping ≡ false → have_ended (tasks_after r) ≡ true

gives-table : (r : StepRun) → IsSetup r.setup → IsAnswered r → GivesTable r
gives-table r setup a =
    let first = begins_with_tasks r.setup r.artifacts setup a.fit in
    let run = a.run in
    let is = sym run.tasks in
    let held : held_in (table_before r) ≡ tasks_before r = (begins_with_table r.setup r.artifacts setup a.fit).1 in
    record {
      ready = ready-of r.setup (tasks_before r) first.tasks;
      names = first.partitions;
      way = subst (λ (ts : List TaskState). AreOnTheWay (tasks_before r) ts) is (subst (λ (ts : List TaskState). AreOnTheWay ts (tasks_by r run.plans)) held (steps_are_on_the_way r.setup (table_before r) run.plans run.run));
      rows = run.rows ∙ ap (rows_now r.setup.rows) is;
      came_back = run.came_back ∙ ap artifacts_of is;
      ended = λ going. subst (λ (ts : List TaskState). have_ended ts ≡ true) is (run.unstopped going).ended;
    }

names-stay : (rows : List Row) (left : List (ℕ × ArtifactsMeaning)) (ts : List TaskState) → partitions_of (tasks_left ts rows left) ≡ partitions_of ts
names-stay rows left ts = map-map (λ (t : TaskState). t.partition) (task_left rows left) ts

-- THE ROWS OF UNFINISHED TASKS

abbrev is_unfinished : TaskState → Bool
is_unfinished t = not (is_finished t.row.state)

abbrev numbered : TaskState → ℕ × Row
numbered t = (t.partition, t.row)

open-from : (k : ℕ) (rows : List Row) (table : Table) → ArePlaced k table → Pairwise HasItsTask rows table → filter is_open (enumerate_from k (rows_in rows table)) ≡ map numbered (tasks_unfinished (held_in table))
open-from k [] [] h its = refl
open-from k [] (place ∷ table) h its = absurd its
open-from k (row ∷ rows) [] h its = absurd its
open-from k (row ∷ rows) (None ∷ table) h its = ap₂ (λ (b : Bool) (ns : List (ℕ × Row)). cond b ((k, row) ∷ ns) ns) (sym its.0) (open-from (k + 1) rows table h.1 its.1)
open-from k (row ∷ rows) (Some t ∷ table) h its =
    let ts = tasks_unfinished (held_in table) in
    ap₂ (λ (q : ℕ) (ns : List (ℕ × Row)). cond (is_unfinished t) ((q, t.row) ∷ ns) ns) (sym h.0) (open-from (k + 1) rows table h.1 its.1)
    ∙ (elim (is_unfinished t) as (λ b. cond b (numbered t ∷ map numbered ts) (map numbered ts) ≡ map numbered (cond b (t ∷ ts) ts)) [ true ↦ refl | false ↦ refl ])

-- the rows that are unfinished now are those of the unfinished tasks
unfinished-now : (rows : List Row) (ts : List TaskState) → partitions_of ts ≡ needs rows → unfinished (rows_now rows ts) ≡ map numbered (tasks_unfinished ts)
unfinished-now rows ts names =
    let put = are-put rows ts names in
    let table = in_places rows ts in
    ap (λ us. unfinished (rows_now rows us)) (sym put.held)
    ∙ ap unfinished (rows-are rows table put.placed)
    ∙ open-from 0 rows table put.placed put.unfinished
    ∙ ap (λ us. map numbered (tasks_unfinished us)) put.held

-- HOW THE NEXT RUN BEGINS

-- begun again from its row
abbrev begun_again : Setup → TaskState → TaskState
begun_again s t = started t.partition t.row s.rules s.item_count t.artifacts

abbrev begin : Setup → (ℕ × Row) × ArtifactsMeaning → TaskState
begin s n = started n.0.0 n.0.1 s.rules s.item_count n.1

zipped : (s : Setup) (ts : List TaskState) → map (begin s) (zip (map numbered ts) (map (λ (t : TaskState). t.artifacts) ts)) ≡ map (begun_again s) ts
zipped s [] = refl
zipped s (t ∷ ts) = ap (λ (us : List TaskState). begun_again s t ∷ us) (zipped s ts)

-- the tasks have the step's rules and item count
abbrev said_of : TaskState → RulesRecord × ℕ
said_of t = (t.rules, t.item_count)

abbrev said_by : Setup → RulesRecord × ℕ
said_by s = (s.rules, s.item_count)

abbrev AreOfStep : Setup → List TaskState → Type 0
AreOfStep s ts = AllByRecursion (λ (t : TaskState). said_of t ≡ said_by s) ts

first-of-step : (s : Setup) (ns : List (ℕ × Row)) (artifacts : List ArtifactsMeaning) → AreOfStep s (first_from s ns artifacts)
first-of-step s [] artifacts = tt
first-of-step s (n ∷ ns) [] = tt
first-of-step s (n ∷ ns) (w ∷ ws) = (refl, first-of-step s ns ws)

-- tasks on their way are at their checkpoints: taken up again they are where they were
same-places : SamePlace → (s : Setup) (ts us : List TaskState) → AreReady ts → AreOnTheWay ts us → AreOfStep s ts → AllByRecursion (λ u. begun_again s u ≡ u) us
same-places law s [] [] ready way said = tt
same-places law s [] (u ∷ us) ready way said = absurd way
same-places law s (t ∷ ts) [] ready way said = absurd way
same-places law s (t ∷ ts) (u ∷ us) ready way said =
    let own = sym (kept said_of (λ t. refl) t u way.0 ∙ said.0) in
    ((λ i. started u.partition u.row (own i).0 (own i).1 u.artifacts) ∙ law t u ready.0 way.0, same-places law s ts us ready.1 way.1 said.1)

-- WHERE SOME RUNS LEFT THE PARTITIONS

-- `r` is the last of them
record IsLeftBy (first r : StepRun) (table : List TaskState) : Type 0 where
  pub gives : GivesTable r
  pub way : AreOnTheWay (tasks_before first) table
  pub names : partitions_of table ≡ needs first.setup.rows
  pub rows : r.snapshot.rows.items ≡ rows_now first.setup.rows table
  pub open_ : tasks_unfinished table ≡ tasks_unfinished (tasks_after r)

left-by-one : (first : StepRun) → GivesTable first → IsLeftBy first first (tasks_after first)
left-by-one first g = record { gives = g; way = g.way; names = names-stay first.snapshot.rows.items first.left (tasks_before first) ∙ g.names; rows = g.rows; open_ = refl }

-- a run that takes up what the run before it left, with the rules and the item count of the first
record TakesUp (first r n : StepRun) : Type 0 where
  pub rows : n.setup.rows ≡ r.snapshot.rows.items
  pub tasks : tasks_before n ≡ first_tasks n.setup (artifacts_restarted (tasks_after r))
  pub said : said_by first.setup ≡ said_by n.setup

module _ (f : TaskState → TaskState) where
  -- a task that had ended stays as it is
  abbrev Stays : TaskState → Type 0
  Stays t = is_unfinished t ≡ false → f t ≡ t

  way-on : (ts : List TaskState) → AllByRecursion Stays ts → AreOnTheWay (tasks_unfinished ts) (map f (tasks_unfinished ts)) → AreOnTheWay ts (map f ts)
  way-on [] stay way = tt
  way-on (t ∷ ts) stay way = by (is_unfinished t) refl (way-on ts stay.1) way
    where
      by : (b : Bool) → is_unfinished t ≡ b → (AreOnTheWay (tasks_unfinished ts) (map f (tasks_unfinished ts)) → AreOnTheWay ts (map f ts)) → AreOnTheWay (cond b (t ∷ tasks_unfinished ts) (tasks_unfinished ts)) (map f (cond b (t ∷ tasks_unfinished ts) (tasks_unfinished ts))) → AreOnTheWay (t ∷ ts) (map f (t ∷ ts))
      by true e rest way = (way.0, rest way.1)
      by false e rest way = (record { attempts = []; run = stay.0 e }, rest way)

  -- rows of two runs, one after another: in the second there are the tasks that were left unfinished
  abbrev left_open : Table → Table
  left_open table = map (option_map f) (map (keep_if is_unfinished) table)

  rows-twice : (rows : List Row) (table : Table) → AllByRecursion Stays (held_in table) → rows_in (rows_in rows table) (left_open table) ≡ rows_in rows (map (option_map f) table)
  rows-twice [] table stay = refl
  rows-twice (row ∷ rows) [] stay = refl
  rows-twice (row ∷ rows) (None ∷ table) stay = ap (λ (rs : List Row). row ∷ rs) (rows-twice rows table stay)
  rows-twice (row ∷ rows) (Some t ∷ table) stay = ap₂ ◌∷◌ (one (is_unfinished t) stay.0) (rows-twice rows table stay.1)
    where
      one : (b : Bool) → (b ≡ false → f t ≡ t) → option_map_or row_of (option_map f (cond b (Some t) None)) t.row ≡ (f t).row
      one true stay = refl
      one false stay = ap row_of (sym (stay refl))

-- ONE RUN MORE

module _ (place : SamePlace) (join : WaysJoin) (first r n : StepRun) (table : List TaskState) (g : GivesTable first) (h : GivesTable n) (up : TakesUp first r n) (l : IsLeftBy first r table) where
  abbrev leave : TaskState → TaskState
  leave = task_left n.snapshot.rows.items n.left

  begins : tasks_before n ≡ tasks_unfinished table
  begins =
      let said = subst (λ (x : RulesRecord × ℕ). AllByRecursion (λ (t : TaskState). said_of t ≡ x) (tasks_before first)) up.said (first-of-step first.setup (unfinished first.setup.rows) first.artifacts) in
      up.tasks
      ∙ ap₂ (λ (ns : List (ℕ × Row)) (ts : List TaskState). map (begin n.setup) (zip ns (map (λ (t : TaskState). t.artifacts) ts))) (ap unfinished (up.rows ∙ l.rows) ∙ unfinished-now first.setup.rows table l.names) (sym l.open_)
      ∙ zipped n.setup (tasks_unfinished table)
      ∙ map-stays (begun_again n.setup) (tasks_unfinished table) (filter-all (λ u. begun_again n.setup u ≡ u) is_unfinished table (same-places place n.setup (tasks_before first) table g.ready l.way said))

  after : tasks_after n ≡ map leave (tasks_unfinished table)
  after = ap (map leave) begins

  -- the table that the runs left before, and the one that this run left
  abbrev places : Table
  places = in_places first.setup.rows table

  put : ArePut first.setup.rows table
  put = are-put first.setup.rows table l.names

  abbrev left : Table
  left = left_open leave places

  held-left : held_in left ≡ tasks_after n
  held-left = held-map leave (map (keep_if is_unfinished) places) ∙ ap (map leave) (held-kept is_unfinished places ∙ ap tasks_unfinished put.held) ∙ sym after

  placed-left : ArePlaced 0 left
  placed-left = placed-map leave (λ t. refl) 0 (map (keep_if is_unfinished) places) (placed-kept is_unfinished 0 places put.placed)

  were : n.setup.rows ≡ rows_in first.setup.rows places
  were = up.rows ∙ l.rows ∙ ap (rows_now first.setup.rows) (sym put.held) ∙ rows-are first.setup.rows places put.placed

  are : n.snapshot.rows.items ≡ rows_in n.setup.rows left
  are = h.rows ∙ ap (rows_now n.setup.rows) (sym held-left) ∙ rows-are n.setup.rows left placed-left

  stays : (t : TaskState) → IsIn first.setup.rows places t → is_unfinished t ≡ false → leave t ≡ t
  stays t is closed =
      let p = t.partition in
      let none : held_at left p ≡ None =
      at-map leave (map (keep_if is_unfinished) places) p ∙ ap (option_map leave) (at-kept is_unfinished places p ∙ ap (keep_if is_unfinished) is.stands ∙ ap (λ (b : Bool). cond b (Some t) None) closed) in
      let there : p < length n.setup.rows = omega (arith, is.there, ap length were, length-in first.setup.rows places) in
      let row : slice_index_or n.snapshot.rows.items p t.row ≡ t.row =
      ap (λ rs. slice_index_or rs p t.row) are
      ∙ in-at n.setup.rows left p t.row there
      ∙ ap (λ (o : Option TaskState). option_map_or row_of o (slice_index_or n.setup.rows p t.row)) none
      ∙ ap (λ rs. slice_index_or rs p t.row) were
      ∙ in-at first.setup.rows places p t.row is.there
      ∙ ap (λ (o : Option TaskState). option_map_or row_of o (slice_index_or first.setup.rows p t.row)) is.stands in
      let artifacts : newer n.left p t.artifacts ≡ t.artifacts =
      ap (λ left. newer left p t.artifacts) (h.came_back ∙ ap artifacts_of (sym held-left)) ∙ artifacts-at left p t.artifacts placed-left ∙ ap (λ (o : Option TaskState). option_map_or (λ t. t.artifacts) o t.artifacts) none in
      λ i. record t { row = row i; artifacts = artifacts i }

  all-stay : AllByRecursion (Stays leave) (held_in places)
  all-stay = all-so (IsIn first.setup.rows places) (Stays leave) stays (held_in places) (are-in first.setup.rows places put.placed put.unfinished)

  tasks-stay : AllByRecursion (Stays leave) table
  tasks-stay = subst (AllByRecursion (Stays leave)) put.held all-stay

  rows-more : n.snapshot.rows.items ≡ rows_now first.setup.rows (map leave table)
  rows-more =
      let later = map (option_map leave) places in
      are
      ∙ ap (λ rs. rows_in rs left) were
      ∙ rows-twice leave first.setup.rows places all-stay
      ∙ sym (rows-are first.setup.rows later (placed-map leave (λ t. refl) 0 places put.placed))
      ∙ ap (rows_now first.setup.rows) (held-map leave places ∙ ap (map leave) put.held)

  left-by-more : IsLeftBy first n (map leave table)
  left-by-more = record {
    gives = h;
    way = pairwise-join IsOnTheWay IsOnTheWay IsOnTheWay join (tasks_before first) table (map leave table) l.way (way-on leave table tasks-stay (subst (λ (ts : List TaskState). AreOnTheWay ts (map leave ts)) begins h.way));
    names = names-stay n.snapshot.rows.items n.left table ∙ l.names;
    rows = rows-more;
    open_ = filter-again is_unfinished leave table tasks-stay ∙ ap tasks_unfinished (sym after);
  }

-- THE CALLS OF A RESTART

abbrev good : SavedRows → Result SavedRows SavedPlace
good saved = Ok saved

answered-ok : (one other : SavedRows) → good one ≡ good other → one ≡ other
answered-ok one other e = cc

unfailed-same : (r : Row) → r.state ≢ Failed → restarted r ≡ r
unfailed-same r never = ap (λ (b : Bool). cond b (dropped_row r) r) (unfailed r.state never)
  where
    unfailed : (s : RowState) → s ≢ Failed → is_failed s ≡ false
    unfailed state.Waiting never = refl
    unfailed (state.Running lane) never = refl
    unfailed state.Finished never = refl
    unfailed state.Failed never = absurd (never refl)

rows-same : (rows : List Row) → AreUnfailed rows → map restarted rows ≡ rows
rows-same [] never = refl
rows-same (r ∷ rows) never = ap₂ (λ (x : Row) (xs : List Row). x ∷ xs) (unfailed-same r (never zero r refl)) (rows-same rows (λ i s e. never (suc i) s e))

-- what was read is what was saved, so the step goes on from the rows that the run before left
takes-up : TreeIsRead → (step : StepRecord) (saved : Option SavedRows) (first r n : StepRun) → IsPreparedFor step saved first → IsRestart step r n → TakesUp first r n
takes-up law step saved first r n a h =
    let back : good h.saved ≡ good h.read = sym (ap answer_of h.written ∙ law h.saved h.kept) ∙ h.answer in
    let same : h.read ≡ record { step = step.id; rows = r.snapshot.rows.items } = sym (answered-ok h.saved h.read back) ∙ h.saved_is in
    let was = a.prepared in
    let is = h.prepared.prepared in
    let rules = was.rules ∙ sym is.rules in
    let count = was.item_count ∙ sym is.item_count in
    record {
      rows = is.rows
          ∙ (ap (λ (replace : Bool). opening_rows is.plan.ranges (gone_on replace (Some h.read))) h.goes_on
          ∙ (ap (λ (s : SavedRows). map restarted s.rows) same ∙ rows-same r.snapshot.rows.items h.unfailed));
      tasks = h.tasks;
      said = λ i. (rules i, count i);
    }

-- CHAINS OF RUNS

module _ (law : TreeIsRead) (place : SamePlace) (join : WaysJoin) (step : StepRecord) (first : StepRun) where
  left-by-later : (saved : Option SavedRows) → IsPreparedFor step saved first → GivesTable first → (r : StepRun) (later : List StepRun) (table : List TaskState) → IsLeftBy first r table → AreRestarts step r later
      → IsLeftBy first (last_run r later) (tasks_through table later)
  left-by-later saved a g r [] table l h = l
  left-by-later saved a g r (n ∷ later) table l h =
      left-by-later saved a g n later (tasks_left table n.snapshot.rows.items n.left)
      (left-by-more place join first r n table g (gives-table n h.0.prepared.setup h.1) (takes-up law step saved first r n a h.0) l) h.2

  left-by-all : (later : List StepRun) → IsChain step first later → IsLeftBy first (last_run first later) (tasks_at_last first later)
  left-by-all later c =
      let g = gives-table first c.prepared.setup c.answered in
      left-by-later c.saved c.prepared g first later (tasks_after first) (left-by-one first g) c.restarts

-- THE ARTIFACTS FIT

-- a task on its way whose row is sound has artifacts that serve it
abbrev FitsIfSound : TaskState → Type 0
FitsIfSound t = IsSoundRow t.row → Fits t.artifacts t.row

fit-all : TasksStayReady → (ts us : List TaskState) → AreReady ts → AreOnTheWay ts us → AllByRecursion FitsIfSound us
fit-all law [] [] ready way = tt
fit-all law [] (u ∷ us) ready way = absurd way
fit-all law (t ∷ ts) [] ready way = absurd way
fit-all law (t ∷ ts) (u ∷ us) ready way = (λ sound. (law t u ready.0 way.0 sound.counted.rolled sound.counted.few_repeats).fits, fit-all law ts us ready.1 way.1)

fit-rows : (ts : List TaskState) → AllByRecursion FitsIfSound ts → AllByRecursion (λ (t : TaskState). IsSoundRow t.row) ts → FitRows (map numbered ts) (map (λ (t : TaskState). t.artifacts) ts)
fit-rows [] fit sound = tt
fit-rows (t ∷ ts) fit sound = (fit.0 sound.0, fit-rows ts fit.1 sound.1)

pub restarts-fit : TreeIsRead → SamePlace → WaysJoin → TasksStayReady → RestartsFit
restarts-fit law place join stay step first later saved s c unfailed held saved_is rows_are =
    let r = last_run first later in
    let table = tasks_at_last first later in
    let l = left-by-all law place join step first later c in
    let fit = filter-all FitsIfSound is_unfinished table (fit-all stay (tasks_before first) table (gives-table first c.prepared.setup c.answered).ready l.way) in
    let same : s.rows ≡ r.snapshot.rows.items = rows_are ∙ (ap (map restarted) saved_is ∙ rows-same r.snapshot.rows.items unfailed) in
    let open_rows : unfinished s.rows ≡ map numbered (tasks_unfinished table) = ap unfinished (same ∙ l.rows) ∙ unfinished-now first.setup.rows table l.names in
    let sound = all-back (λ (n : ℕ × Row). IsSoundRow n.1) numbered (tasks_unfinished table)
    (subst (λ (ns : List (ℕ × Row)). AllByRecursion (λ (n : ℕ × Row). IsSoundRow n.1) ns) (ap unfinished (saved_is ∙ sym same) ∙ open_rows)
    (all-unfinished IsSoundRow 0 saved.rows (λ i row e. (held.idle i row e).0))) in
    subst (λ (ns : List (ℕ × Row)). FitRows ns (artifacts_restarted (tasks_after r))) (sym open_rows)
    (subst (λ (ts : List TaskState). FitRows (map numbered (tasks_unfinished table)) (map (λ (t : TaskState). t.artifacts) ts)) l.open_ (fit-rows (tasks_unfinished table) fit sound))

-- THE LAWS

pub restarts-are-on-the-way : TreeIsRead → SamePlace → WaysJoin → RestartsAreOnTheWay
restarts-are-on-the-way law place join step first later c = let l = left-by-all law place join step first later c in record { tasks = l.way; rows = l.rows }

over-by : (s : RowState) → not (is_finished s) ≡ false → has_ended s ≡ true
over-by state.Waiting e = cc
over-by (state.Running lane) e = cc
over-by state.Finished e = refl
over-by state.Failed e = cc

-- all tasks have ended, if the unfinished ones have
ended-open : (ts : List TaskState) → have_ended ts ≡ have_ended (tasks_unfinished ts)
ended-open [] = refl
ended-open (t ∷ ts) = by (is_unfinished t) refl (ended-open ts)
  where
    by : (b : Bool) → is_unfinished t ≡ b → have_ended ts ≡ have_ended (tasks_unfinished ts) → (has_ended t.row.state && have_ended ts) ≡ have_ended (cond b (t ∷ tasks_unfinished ts) (tasks_unfinished ts))
    by true e rest = ap (λ (c : Bool). has_ended t.row.state && c) rest
    by false e rest = ap (λ (c : Bool). c && have_ended ts) (over-by t.row.state e) ∙ rest

pub restarts-end-alone : TreeIsRead → SamePlace → WaysJoin → WaysEnd → RestartsEndAlone
restarts-end-alone law place join end step first later c unstopped =
    let table = tasks_at_last first later in
    let l = left-by-all law place join step first later c in
    record {
      tasks = alone-all end (tasks_before first) table (gives-table first c.prepared.setup c.answered).ready l.way (ended-open table ∙ ap have_ended l.open_ ∙ sym (ended-open (tasks_after (last_run first later))) ∙ l.gives.ended unstopped);
      rows = l.rows;
    }

pub restarts-end-as-unstopped : TreeIsRead → SamePlace → WaysJoin → WaysEnd → OneEnd → RestartsEndAsUnstopped
restarts-end-as-unstopped law place join end one step first later other c unstopped d alike whole =
    let a = restarts-end-alone law place join end step first later c unstopped in
    let b = restarts-end-alone law place join end step other [] d whole in
    let same : tasks_at_last first later ≡ tasks_after other =
    alone_is_one_place one (tasks_before first) (tasks_at_last first later) (tasks_after other) a.tasks
    (subst (λ (ts : List TaskState). AreAlone ts (tasks_after other)) alike.tasks b.tasks) in (
      a.rows ∙ (ap₂ rows_now (sym alike.rows) same ∙ sym b.rows),
      ap artifacts_of same ∙ sym (gives-table other d.prepared.setup d.answered).came_back,
    )
