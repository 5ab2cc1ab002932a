-- A partition's results, attempt by attempt.
use Rattle.std.proofs.Common.{◌≡◌, ℕ, zero, suc, ◌+◌, ◌-◌, ◌≤◌, ◌<◌, ◌++◌, Bool, true, false, not, cond, List, [], ◌∷◌, length, take, Option, Some, None, is_some, refl, ap, sym, ◌∙◌, subst, arith}
use Rattle.std.specs.Prelude.{◌==◌, ◌&&◌, nat_lt}
use Rattle.std.specs.List.{filter_map, range_with_len, cons_option}
use Rattle.std.proofs.lemmas.List.Elements.{filter_map-append}
use Rattle.std.proofs.lemmas.Bool.Decides.{nat_tests}
use Rattle.jb_base.specs.declared.class.ClassId.{ClassId}
use Rattle.jb_base.specs.Rules.{RulesRecord}
use Rattle.jb_rules.specs.Decide.{has_class, is_below}
use Rattle.jb_rules.specs.declared.choice.Choice.{Choice}
use Rattle.jb_rules.specs.declared.choice.Choice.TheVariants.{Skip, Retry, Again, Fail}
use Rattle.jb_rules.specs.declared.counts.Counts.{Counts}
use Rattle.jb_rules.specs.declared.row.Row.{Row}
use Rattle.jb_rules.specs.declared.row.RowState.TheVariants as state
use Rattle.jb_rules.specs.Rows.{repeated_row}
use Rattle.jb_artifacts.specs.declared.faults.FaultPlan.{FaultPlan}
use Rattle.jb_artifacts.specs.declared.faults.FaultPlan.TheVariants.{Sound, Bad, Shaky}
use Rattle.jb_artifacts.specs.Faults.{FaultTable, live, used, used_at, is_live}
use Rattle.jb_artifacts.specs.Reader.{record_at}
use Rattle.jb_artifacts.specs.Writer.{Writer, Numbered, texts_of, failing, fault_of, write_fault, used_for}
use Rattle.jb_artifacts.specs.Meaning.{ArtifactsMeaning}
use Rattle.jb_chunk.specs.declared.outcome.Outcome.{Outcome}
use Rattle.jb_chunk.specs.declared.outcome.Outcome.TheVariants.{Committed, Rolled, Failed, NoMemory}
use Rattle.jb_chunk.specs.Alone.{IsOnTheWay, IsRunOf}
use Rattle.jb_chunk.specs.Attempt.{AttemptEnd, attempt_of, block_of, results_of, settled_at, fault_at, skips_at, counts_of, end_of, end_at, end_by, artifacts_used, ending_by, after_repeats, all_repeated, again_of, called_again, repeated, repeated_artifacts, repeated_up_to, asks_repeat}
use Rattle.jb_chunk.specs.Block.{entry, entry_by, results, settles, settling, stops, is_skip, choice_at, skips_before, used_between}
use Rattle.jb_chunk.specs.Entries.{Entry, ReadFault, ProcessFault, Processed, fault_in, text_in, numbered}
use Rattle.jb_chunk.specs.Laws.{RepeatsAreRetries, TasksStandAtCheckpoints, WaysJoin}
use Rattle.jb_chunk.specs.TaskState.{IsReady, TaskState, at_checkpoint}
use Rattle.jb_chunk.proofs.AddedCounts.{settling-stops}
use Rattle.jb_chunk.proofs.ChunkRepeats.{choice_by}
use Rattle.jb_chunk.proofs.RecordRepeats.{unfound}
use Rattle.jb_chunk.proofs.SettlingRecord.{numbers-split}
use Rattle.jb_chunk.proofs.ArtifactsUsed.{read_end, write_plans, more_written, used-as}
use Rattle.jb_chunk.proofs.WrittenResults.{take-front, whole-kept, whole-written}
use Rattle.jb_rows.specs.Answers.{Answer, Filtered, Given, Refused}
use Rattle.jb_records.specs.Function.{Function, IsSteady, answer_for, refusal_in, refusal_of, result_in, result_of}
use Rattle.jb_records.specs.Runs.{HasResults, IsSamePart, PartsStay, ResultsGoOn}
use Rattle.jb_records.specs.Artifacts.{IsArtifactsOver, IsFaulted, IsNeverSkipped, faulted_by, own_records, record_of, results_between}

-- ---- FAULT PLANS THAT ARE USED

used-if : (P : FaultPlan → Type 0) (b : Bool) (plan : FaultPlan) → P plan → P (used plan) → P (cond b (used plan) plan)
used-if P true plan was is = is
used-if P false plan was is = was

never-used : (rules : RulesRecord) (plan : FaultPlan) → IsNeverSkipped rules plan → IsNeverSkipped rules (used plan)
never-used rules Sound is = is
never-used rules (Bad class) is = is
never-used rules (Shaky []) is = is
never-used rules (Shaky (class ∷ later)) is = is.1

-- a record that is refused stays so
faulted-used : (rules : RulesRecord) (refusal : Option ClassId) (plan : FaultPlan) → IsFaulted rules refusal plan → IsFaulted rules refusal (used plan)
faulted-used rules None plan is = never-used rules plan is
faulted-used rules (Some class) plan is = ap used is

-- and one that is sound, or refused, stays so
steady-used : (refusal : Option ClassId) → used (faulted_by refusal Sound) ≡ faulted_by refusal Sound
steady-used None = refl
steady-used (Some class) = refl

sound-used : (plan : FaultPlan) → plan ≡ Sound → used plan ≡ Sound
sound-used plan e = ap used e

module _ (f : Function) (rules : RulesRecord) (first : ℕ) (records : List (List ℕ)) where
  -- when the processing of the partition's records fails
  abbrev AreFaulted : FaultTable → Type 0
  AreFaulted plans = (k : ℕ) → IsFaulted rules (refusal_of f (record_of first records k)) (plans k)

  faults-by : (k : ℕ) (b : Bool) (plan : FaultPlan) → IsFaulted rules (refusal_of f (record_of first records k)) plan → IsFaulted rules (refusal_of f (record_of first records k)) (cond b (used plan) plan)
  faults-by k b plan is = used-if (IsFaulted rules (refusal_of f (record_of first records k))) b plan is (faulted-used rules (refusal_of f (record_of first records k)) plan is)

  -- of a steady function none fails but by its refusal
  abbrev AreSteady : FaultTable → Type 0
  AreSteady plans = IsSteady f → (k : ℕ) → plans k ≡ faulted_by (refusal_of f (record_of first records k)) Sound

  steady-by : (k : ℕ) (b : Bool) (plan : FaultPlan) → plan ≡ faulted_by (refusal_of f (record_of first records k)) Sound → cond b (used plan) plan ≡ faulted_by (refusal_of f (record_of first records k)) Sound
  steady-by k b plan is = used-if (λ p. p ≡ faulted_by (refusal_of f (record_of first records k)) Sound) b plan is (ap used is ∙ steady-used (refusal_of f (record_of first records k)))

  reads-used : (called : ℕ → Bool) (plans : FaultTable) (lo hi : ℕ) → ((k : ℕ) → plans k ≡ Sound) → (k : ℕ) → used_between called plans lo hi k ≡ Sound
  unfolding used_between
  reads-used called plans lo hi is k = used-if (λ p. p ≡ Sound) _ (plans k) (is k) (sound-used (plans k) (is k))

  faults-used : (called : ℕ → Bool) (plans : FaultTable) (lo hi : ℕ) → AreFaulted plans → AreFaulted (used_between called plans lo hi)
  unfolding used_between
  faults-used called plans lo hi is k = faults-by k _ (plans k) (is k)

  steady-between : (called : ℕ → Bool) (plans : FaultTable) (lo hi : ℕ) → AreSteady plans → AreSteady (used_between called plans lo hi)
  unfolding used_between
  steady-between called plans lo hi is steady k = steady-by k _ (plans k) (is steady k)

  writes-used : (plans : FaultTable) (o : Option (ℕ × List ℕ)) → ((k : ℕ) → plans k ≡ Sound) → (k : ℕ) → used_for plans o k ≡ Sound
  unfolding used_at
  writes-used plans None is k = is k
  writes-used plans (Some r) is k = used-if (λ p. p ≡ Sound) _ (plans k) (is k) (sound-used (plans k) (is k))

  write-plans : (t : TaskState) (settled : Option ℕ) → ((k : ℕ) → t.artifacts.writer.faults k ≡ Sound) → (k : ℕ) → write_plans t settled k ≡ Sound
  write-plans t (Some j) is k = is k
  write-plans t None is k = writes-used t.artifacts.writer.faults (failing t.artifacts.writer.faults (results_of t)) is k

  -- what a chunk used, opened somewhere, is what the partition works with
  artifacts-opened : (t : TaskState) (row : Row) → IsArtifactsOver f rules first records t.artifacts → IsArtifactsOver f rules first records (at_checkpoint row (artifacts_used t (settled_at t)))
  artifacts-opened t row is =
      subst (λ w. IsArtifactsOver f rules first records (at_checkpoint row w)) (sym (used-as t (settled_at t))) (record {
        first_is = is.first_is;
        records_are = is.records_are;
        reads = reads-used (λ _. true) t.artifacts.reader.faults t.row.at (read_end t (settled_at t)) is.reads;
        answers = is.answers;
        faults = faults-used (λ k. not (is_live t.artifacts.reader.faults k)) t.artifacts.processor.faults t.row.at (read_end t (settled_at t)) is.faults;
        steady = steady-between (λ k. not (is_live t.artifacts.reader.faults k)) t.artifacts.processor.faults t.row.at (read_end t (settled_at t)) is.steady;
        writes = write-plans t (settled_at t) is.writes;
      })

  -- ---- CALLS THAT ARE REPEATED IN PLACE

  -- a repeat leaves what the partition works with, and what is written
  record IsAsPrepared (w now : ArtifactsMeaning) : Type 0 where
    pub artifacts : IsArtifactsOver f rules first records now
    pub written : now.writer.written ≡ w.writer.written

  reads-at : (plans : FaultTable) (n : ℕ) → ((k : ℕ) → plans k ≡ Sound) → (k : ℕ) → used_at plans n k ≡ Sound
  unfolding used_at
  reads-at plans n is k = used-if (λ p. p ≡ Sound) _ (plans k) (is k) (sound-used (plans k) (is k))

  faults-at : (plans : FaultTable) (n : ℕ) → AreFaulted plans → AreFaulted (used_at plans n)
  unfolding used_at
  faults-at plans n is k = faults-by k _ (plans k) (is k)

  steady-at : (plans : FaultTable) (n : ℕ) → AreSteady plans → AreSteady (used_at plans n)
  unfolding used_at
  steady-at plans n is steady k = steady-by k _ (plans k) (is steady k)

  call-kept : (w : ArtifactsMeaning) (k : ℕ) (e : Entry) → IsArtifactsOver f rules first records w → IsAsPrepared w (called_again w k e)
  call-kept w k (ReadFault class) is = record {
    artifacts = record { first_is = is.first_is; records_are = is.records_are; reads = reads-at w.reader.faults k is.reads; answers = is.answers; faults = is.faults; steady = is.steady; writes = is.writes };
    written = refl;
  }
  call-kept w k (ProcessFault class) is = record {
    artifacts = record { first_is = is.first_is; records_are = is.records_are; reads = is.reads; answers = is.answers; faults = faults-at w.processor.faults k is.faults; steady = steady-at w.processor.faults k is.steady; writes = is.writes };
    written = refl;
  }
  call-kept w k (Processed answer) is = record {
    artifacts = record { first_is = is.first_is; records_are = is.records_are; reads = is.reads; answers = is.answers; faults = faults-at w.processor.faults k is.faults; steady = steady-at w.processor.faults k is.steady; writes = is.writes };
    written = refl;
  }

  repeat-kept : (t : TaskState) (settled : Option ℕ) → IsArtifactsOver f rules first records t.artifacts → IsAsPrepared t.artifacts (repeated_artifacts t settled)
  repeat-kept t (Some k) is = call-kept t.artifacts k (entry t.artifacts k) is
  repeat-kept t None is = record {
    artifacts = record { first_is = is.first_is; records_are = is.records_are; reads = is.reads; answers = is.answers; faults = is.faults; steady = is.steady; writes = write-plans t None is.writes };
    written = refl;
  }

  kept-if : (w : ArtifactsMeaning) (b : Bool) (t u : TaskState) → IsAsPrepared w t.artifacts → IsAsPrepared w u.artifacts → IsAsPrepared w (cond b t u).artifacts
  kept-if w true t u is was = is
  kept-if w false t u is was = was

  repeats-kept : (n : ℕ) (t : TaskState) → IsArtifactsOver f rules first records t.artifacts → IsAsPrepared t.artifacts (repeated_up_to n t).artifacts
  unfolding repeated_up_to
  repeats-kept zero t is = record { artifacts = is; written = refl }
  repeats-kept (suc n) t is =
      let once = repeat-kept t (settled_at t) is in
      let later = repeats-kept n (repeated t) once.artifacts in
      kept-if t.artifacts (asks_repeat t) (repeated_up_to n (repeated t)) t (record { artifacts = later.artifacts; written = later.written ∙ once.written }) (record { artifacts = is; written = refl })

  -- so do all of them
  after-kept : (t : TaskState) → IsArtifactsOver f rules first records t.artifacts → IsAsPrepared t.artifacts (after_repeats t).artifacts
  unfolding all_repeated
  after-kept t is = repeats-kept (t.rules.retry_limit - t.row.retries) t is

-- ---- A RECORD THAT DOESN'T SETTLE ITS BLOCK

pub never : true ≡ false → ⊥
never e = cc

-- a fault that may not be skipped isn't
no-skip : (again retrying opened : Bool) → is_skip (choice_by again retrying false opened) ≡ false
no-skip again retrying false = refl
no-skip true retrying true = refl
no-skip false retrying true = refl

pub never-stops : (rules : RulesRecord) (row : Row) (class : ClassId) (skips : ℕ) → has_class rules.skippable class ≡ false → stops rules row (Some class) skips ≡ true
never-stops rules row class skips none =
    let again = has_class rules.no_rollback class in
    let retrying = nat_lt row.at row.redo in
    let opened = has_class rules.retryable class && nat_lt row.retries rules.retry_limit in
    ap (λ (b : Bool). not (is_skip (choice_by again retrying (b && is_below rules.skip_limit skips) opened))) none ∙ ap not (no-skip again retrying opened)

class-or : ClassId → Option ClassId → ClassId
class-or d None = d
class-or d (Some x) = x

some-same : (a b : ClassId) → Some a ≡ Some b → a ≡ b
unfolding class-or
some-same a b e = ap (class-or a) e

pub live-never : (rules : RulesRecord) (plan : FaultPlan) (class : ClassId) → IsNeverSkipped rules plan → live plan ≡ Some class → has_class rules.skippable class ≡ false
live-never rules Sound class is e = absurd cc
live-never rules (Bad c) class is e = ap (has_class rules.skippable) (sym (some-same c class e)) ∙ is
live-never rules (Shaky []) class is e = absurd cc
live-never rules (Shaky (c ∷ later)) class is e = ap (has_class rules.skippable) (sym (some-same c class e)) ∙ is.0

-- the process call of a record that doesn't settle its block doesn't fail
text-by : (rules : RulesRecord) (row : Row) (skips : ℕ) (plan : FaultPlan) (fault : Option ClassId) (answer : Option (List ℕ)) → IsNeverSkipped rules plan → live plan ≡ fault
    → stops rules row (fault_in (entry_by None fault answer)) skips ≡ false → text_in (entry_by None fault answer) ≡ answer
text-by rules row skips plan None answer is e idle = refl
text-by rules row skips plan (Some class) answer is e idle = absurd (never (sym (never-stops rules row class skips (live-never rules plan class is e)) ∙ idle))

entry-by : (rules : RulesRecord) (row : Row) (skips : ℕ) (plan : FaultPlan) (a : Answer) → IsFaulted rules (refusal_in a) plan
    → stops rules row (fault_in (entry_by None (live plan) (result_in a))) skips ≡ false → text_in (entry_by None (live plan) (result_in a)) ≡ result_in a
entry-by rules row skips plan (Refused class) is idle = ap (λ p. text_in (entry_by None (live p) None)) is
entry-by rules row skips plan (Given fields) is idle = text-by rules row skips plan (live plan) (result_in (Given fields)) is refl idle
entry-by rules row skips plan Filtered is idle = text-by rules row skips plan (live plan) None is refl idle

-- no read fails, and the function is called on the record of this number
pub entry-is : (f : Function) (first : ℕ) (records : List (List ℕ)) (rules : RulesRecord) (w : ArtifactsMeaning) (k : ℕ) → IsArtifactsOver f rules first records w
    → entry w k ≡ entry_by None (live (w.processor.faults k)) (result_of f (record_of first records k))
unfolding entry
entry-is f first records rules w k is =
    let fault : live (w.reader.faults k) ≡ None = ap live (is.reads k) in
    let answer = is.answers k (record_at w.reader k) in
    λ i. entry_by (fault i) (live (w.processor.faults k)) (answer i)

-- what is found of a record that doesn't settle its block is its result, if it has one
entry-result : (f : Function) (first : ℕ) (records : List (List ℕ)) (rules : RulesRecord) (row : Row) (w : ArtifactsMeaning) (k : ℕ) → IsArtifactsOver f rules first records w
    → settles rules row w k ≡ false → text_in (entry w k) ≡ result_of f (record_of first records k)
unfolding settles
entry-result f first records rules row w k is idle =
    let own = record_of first records k in
    let same = entry-is f first records rules w k is in
    ap text_in same ∙ entry-by rules row (skips_before row w k) (w.processor.faults k) (answer_for f own) (is.faults k) (ap (λ e. stops rules row (fault_in e) (skips_before row w k)) (sym same) ∙ idle)

-- ---- A BLOCK THAT NOTHING SETTLED

text-one : (k : ℕ) (a : Option (List ℕ)) (more : Numbered) (rest : List (List ℕ)) → texts_of more ≡ rest → texts_of (cons_option (numbered k a) more) ≡ cons_option a rest
text-one k None more rest e = e
text-one k (Some x) more rest e = ap (λ ys. x ∷ ys) e

texts-are : (w : ArtifactsMeaning) (f : ℕ → Option (List ℕ)) (n lo : ℕ) → ((k : ℕ) → lo ≤ k → k < lo + n → text_in (entry w k) ≡ f k)
    → texts_of (filter_map (λ k. numbered k (text_in (entry w k))) (range_with_len lo n)) ≡ filter_map f (range_with_len lo n)
texts-are w f zero lo are = refl
texts-are w f (suc n) lo are =
    let rest = texts-are w f n (lo + 1) (λ k le lt. are k (omega (arith, le)) (omega (arith, lt))) in
    text-one lo (text_in (entry w lo)) _ _ rest ∙ ap (λ o. cons_option o (filter_map f (range_with_len (lo + 1) n))) (are lo (omega arith) (omega arith))

block-results : (f : Function) (first : ℕ) (records : List (List ℕ)) (t : TaskState) → IsArtifactsOver f t.rules first records t.artifacts → settled_at t ≡ None
    → texts_of (results_of t) ≡ results_between f first records t.row.at (block_of t).hi
unfolding results settling results_between
block-results f first records t is none =
    texts-are t.artifacts (λ k. result_of f (record_of first records k)) ((block_of t).hi - t.row.at) t.row.at
    (λ k from to. entry-result f first records t.rules t.row t.artifacts k is
    (unfound (settles t.rules t.row t.artifacts) ((block_of t).hi - t.row.at) t.row.at none k from to))

-- the results up to a checkpoint, and those from there on
pub results-join : (f : Function) (first : ℕ) (records : List (List ℕ)) (lo at hi : ℕ) → lo ≤ at → at ≤ hi → results_between f first records lo at ++ results_between f first records at hi ≡ results_between f first records lo hi
unfolding results_between
results-join f first records lo at hi from to =
    let g : ℕ → Option (List ℕ) = λ k. result_of f (record_of first records k) in
    let start : lo + (at - lo) ≡ at = omega (arith, from) in
    let whole : (at - lo) + (hi - at) ≡ hi - lo = omega (arith, from, to) in
    ap (λ a. filter_map g (range_with_len lo (at - lo)) ++ filter_map g (range_with_len a (hi - at))) (sym start)
    ∙ sym (filter_map-append g (range_with_len lo (at - lo)) (range_with_len (lo + (at - lo)) (hi - at)))
    ∙ ap (filter_map g) (sym (numbers-split lo (at - lo) (hi - at)))
    ∙ ap (λ n. filter_map g (range_with_len lo n)) whole

-- ---- HOW A BLOCK ENDS

-- a fault that settles a block isn't skipped, and its block isn't committed
abbrev pub Commits : Outcome → Type 0
Commits (Committed delta) = Unit {0}
Commits _ = ⊥

end-fails : (skipped : Counts) (class : ClassId) (choice : Choice) → not (is_skip choice) ≡ true → Commits (end_by skipped class choice) → ⊥
end-fails skipped class Skip h e = never (sym h)
end-fails skipped class Retry h e = e
end-fails skipped class Again h e = e
end-fails skipped class Fail h e = e

fault-fails : (t : TaskState) (fault : Option ClassId) (skips : ℕ) → stops t.rules t.row fault skips ≡ true → Commits (end_at t fault skips) → ⊥
fault-fails t None skips h e = never (sym h)
fault-fails t (Some class) skips h e = end-fails (counts_of t 0 1) class (choice_at t.rules t.row class skips) h e

commit-by : (t : TaskState) (o : Option ℕ) → settled_at t ≡ o → Commits (end_at t (fault_at t o) (skips_at t o)) → settled_at t ≡ None
commit-by t None at e = at
commit-by t (Some k) at e = absurd (fault-fails t (fault_at t (Some k)) (skips_at t (Some k)) (settling-stops t.rules t.row t.artifacts (block_of t).hi k at) e)

-- nothing settled a block that is committed
pub commit-none : (t : TaskState) → Commits (end_of t) → settled_at t ≡ None
unfolding end_of
commit-none t e = commit-by t (settled_at t) refl e

-- no write call fails
sound-failing : (plans : FaultTable) (rs : Numbered) → ((k : ℕ) → plans k ≡ Sound) → failing plans rs ≡ None
sound-failing plans [] is = refl
sound-failing plans (r ∷ rs) is = ap (λ (p : FaultPlan). cond (is_some (live p)) (Some r) (failing plans rs)) (is r.0) ∙ sound-failing plans rs is

pub sound-write : (t : TaskState) → ((k : ℕ) → t.artifacts.writer.faults k ≡ Sound) → write_fault t.artifacts.writer (results_of t) ≡ None
sound-write t is = ap (fault_of t.artifacts.writer.faults) (sound-failing t.artifacts.writer.faults (results_of t) is)

-- all that is committed is written
abbrev pub whole_counts : TaskState → Counts
whole_counts t = counts_of t (length (results_of t)) 0

pub all-written : (t : TaskState) → ((k : ℕ) → t.artifacts.writer.faults k ≡ Sound) → Commits (end_of t) → end_of t ≡ Committed (whole_counts t)
unfolding end_of
all-written t is e = ap (λ s. end_at t (fault_at t s) (skips_at t s)) (commit-none t e) ∙ ap (λ f. end_at t f (skips_at t None)) (sound-write t is)

-- ---- ATTEMPT BY ATTEMPT

-- behind what was written
written-behind : (t : TaskState) → settled_at t ≡ None → ((k : ℕ) → t.artifacts.writer.faults k ≡ Sound) → length t.artifacts.writer.written ≡ t.row.written
    → take (t.row.written + length (results_of t)) (artifacts_used t (settled_at t)).writer.written ≡ t.artifacts.writer.written ++ texts_of (results_of t)
unfolding artifacts_used
written-behind t none is number =
    ap (λ s. take (t.row.written + length (results_of t)) (artifacts_used t s).writer.written) none
    ∙ ap (λ (w : Writer). w.written) (whole-kept t.artifacts.writer (results_of t) t.row.written number (sound-write t is))
    ∙ whole-written t.artifacts.writer (results_of t) (sound-write t is)

-- what was written stays where nothing is committed
written-back : (t : TaskState) → length t.artifacts.writer.written ≡ t.row.written → take t.row.written (artifacts_used t (settled_at t)).writer.written ≡ t.artifacts.writer.written
written-back t number = ap (λ (w : ArtifactsMeaning). take t.row.written w.writer.written) (used-as t (settled_at t)) ∙ take-front t.artifacts.writer.written (more_written t (settled_at t)) t.row.written number

-- a row that is finished stands at the end of its range
pub ends-at : (b : Bool) (at hi : ℕ) → (at == hi) ≡ b → cond b state.Finished state.Waiting ≡ state.Finished → at ≡ hi
ends-at true at hi e finished = grind (arith, nat_tests)
ends-at false at hi e finished = absurd cc

-- as many results are written as the row says
abbrev IsNumbered : TaskState → Type 0
IsNumbered t = length t.artifacts.writer.written ≡ t.row.written

-- the task's next block has a record and lies in its range
abbrev pub HasBlock : TaskState → Type 0
HasBlock t = (t.row.at < (block_of t).hi) × ((block_of t).hi ≤ t.row.hi)

attempt-written : (f : Function) (records : List (List ℕ)) (t : TaskState) (again : ℕ) → settled_at t ≡ None → HasBlock t → HasResults f records t → IsNumbered (ending_by t again (Committed (whole_counts t))).task
    → HasResults f records (ending_by t again (Committed (whole_counts t))).task
attempt-written f records t again none block has number =
    let own = own_records records t.row in
    let hi = (block_of t).hi in
    let lt = block.0 in
    let from = has.from in
    let le : t.row.at ≤ (block_of t).hi = omega (arith, lt) in
    record {
      artifacts = artifacts-opened f t.rules t.row.lo own t (ending_by t again (Committed (whole_counts t))).task.row has.artifacts;
      from = omega (arith, from, lt);
      served = has.served;
      results = written-behind t none has.artifacts.writes has.number
          ∙ (λ i. has.results i ++ block-results f t.row.lo own t has.artifacts none i) ∙ results-join f t.row.lo own t.row.lo t.row.at hi from le;
      number = number;
      whole = ends-at (hi == t.row.hi) hi t.row.hi refl;
    }

attempt-by : (f : Function) (records : List (List ℕ)) (t : TaskState) (again : ℕ) (e : Outcome) → end_of t ≡ e → HasBlock t → HasResults f records t → IsNumbered (ending_by t again e).task
    → HasResults f records (ending_by t again e).task
attempt-by f records t again (Committed delta) is block has number =
    let commits = subst Commits (sym is) tt in
    let same : Committed (whole_counts t) ≡ Committed delta = sym (all-written t has.artifacts.writes commits) ∙ is in
    let left = attempt-written f records t again (commit-none t commits) block has (subst (λ (e : Outcome). IsNumbered (ending_by t again e).task) (sym same) number) in
    subst (λ (e : Outcome). HasResults f records (ending_by t again e).task) same left
attempt-by f records t again (Rolled class) is block has number = record {
  artifacts = artifacts-opened f t.rules t.row.lo (own_records records t.row) t (ending_by t again (Rolled class)).task.row has.artifacts;
  from = has.from;
  served = has.served;
  results = written-back t has.number ∙ has.results;
  number = number;
  whole = has.whole;
}
attempt-by f records t again (Failed class) is block has number = record {
  artifacts = artifacts-opened f t.rules t.row.lo (own_records records t.row) t (ending_by t again (Failed class)).task.row has.artifacts;
  from = has.from;
  served = has.served;
  results = written-back t has.number ∙ has.results;
  number = number;
  whole = λ e. absurd cc;
}
attempt-by f records t again NoMemory is block has number = record {
  artifacts = artifacts-opened f t.rules t.row.lo (own_records records t.row) t (ending_by t again NoMemory).task.row has.artifacts;
  from = has.from;
  served = has.served;
  results = written-back t has.number ∙ has.results;
  number = number;
  whole = has.whole;
}

-- the task after the repeats of its next block: of its row they are retries
abbrev pub repeated-task : TaskState → TaskState
repeated-task t = record t { row = repeated_row t.row (again_of t); artifacts = (after_repeats t).artifacts }

pub same-task : RepeatsAreRetries → (t : TaskState) → after_repeats t ≡ repeated-task t
same-task law t = λ i. record t { row = law t i; artifacts = (after_repeats t).artifacts }

pub repeats-have : (f : Function) (records : List (List ℕ)) (t : TaskState) → HasResults f records t → HasResults f records (repeated-task t)
repeats-have f records t has =
    let kept = after-kept f t.rules t.row.lo (own_records records t.row) t has.artifacts in
    record {
      artifacts = kept.artifacts;
      from = has.from;
      served = has.served;
      results = kept.written ∙ has.results;
      number = ap length kept.written ∙ has.number;
      whole = has.whole;
    }

-- an attempt leads further on the way
pub way-on : WaysJoin → (start t s : TaskState) (e : AttemptEnd) → IsOnTheWay start t → t.row.state ≡ state.Waiting → e ≡ attempt_of t → s ≡ e.task → IsOnTheWay start s
way-on join start t s e way waiting is to = join start t s way (record { attempts = e ∷ []; run = (waiting, is, to) })

-- each place on the way has its results if the one before has
run-results : TasksStandAtCheckpoints → WaysJoin → RepeatsAreRetries → (f : Function) (records : List (List ℕ)) (start : TaskState) → IsReady start
    → (es : List AttemptEnd) (t s : TaskState) → IsOnTheWay start t → HasResults f records t → IsRunOf t es s → HasResults f records s
run-results stand join law f records start ready [] t s way has run = subst (HasResults f records) (sym run) has
run-results stand join law f records start ready (e ∷ es) t s way has run =
    let waiting = run.0 in
    let on = way-on join start t e.task e way waiting run.1 refl in
    let again = again_of t in
    let u = repeated-task t in
    let is : e ≡ ending_by u again (end_of u) = run.1 ∙ ap (λ (x : TaskState). ending_by x again (end_of x)) (same-task law t) in
    let number = subst (λ (x : AttemptEnd). IsNumbered x.task) is (stand start e.task ready on).count in
    let next = attempt-by f records u again (end_of u) refl ((stand start t ready way).chunk waiting) (repeats-have f records t has) number in
    run-results stand join law f records start ready es e.task s on (subst (λ (x : AttemptEnd). HasResults f records x.task) (sym is) next) run.2

pub results-go : TasksStandAtCheckpoints → WaysJoin → RepeatsAreRetries → ResultsGoOn
results-go stand join law f records t s ready has way = run-results stand join law f records t ready way.attempts t s (record { attempts = []; run = refl }) has way.run

-- ---- THE PARTITION AND ITS RANGE

part-by : (t : TaskState) (again : ℕ) (e : Outcome) → IsSamePart t (ending_by t again e).task
part-by t again (Committed delta) = record { partition = refl; lo = refl; hi = refl }
part-by t again (Rolled class) = record { partition = refl; lo = refl; hi = refl }
part-by t again (Failed class) = record { partition = refl; lo = refl; hi = refl }
part-by t again NoMemory = record { partition = refl; lo = refl; hi = refl }

part-joins : (t u s : TaskState) → IsSamePart t u → IsSamePart u s → IsSamePart t s
part-joins t u s first later = record { partition = later.partition ∙ first.partition; lo = later.lo ∙ first.lo; hi = later.hi ∙ first.hi }

-- repeats in place are retries of the row alone
part-after : RepeatsAreRetries → (t : TaskState) → IsSamePart t (after_repeats t)
part-after law t = record { partition = refl; lo = ap (λ (r : Row). r.lo) (law t); hi = ap (λ (r : Row). r.hi) (law t) }

part-attempt : RepeatsAreRetries → (t : TaskState) → IsSamePart t (attempt_of t).task
part-attempt law t = part-joins t (after_repeats t) (attempt_of t).task (part-after law t) (part-by (after_repeats t) (again_of t) (end_of (after_repeats t)))

run-part : RepeatsAreRetries → (es : List AttemptEnd) (t s : TaskState) → IsRunOf t es s → IsSamePart t s
run-part law [] t s run = subst (IsSamePart t) (sym run) (record { partition = refl; lo = refl; hi = refl })
run-part law (e ∷ es) t s run =
    part-joins t e.task s (subst (λ (x : AttemptEnd). IsSamePart t x.task) (sym run.1) (part-attempt law t)) (run-part law es e.task s run.2)

pub parts-stay : RepeatsAreRetries → PartsStay
parts-stay law t s way = run-part law way.attempts t s way.run
