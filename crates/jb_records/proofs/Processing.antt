-- The fault plans of a reader and of a processor of records, call by call.
use Rattle.std.proofs.Common.{◌≡◌, ◌+◌, ℕ, List, [], length, Bool, subst, true, false, cond, Option, Some, None, refl, ap, sym, ◌∙◌, arith}
use Rattle.std.proofs.Math.Path.{fun_ext}
use Rattle.std.specs.Prelude.{◌==◌, Result, Ok, Err}
use Rattle.std.proofs.lemmas.Bool.Decides.{nat_tests}
use Rattle.jb_base.specs.declared.artifact_error.ArtifactError.{ArtifactError}
use Rattle.jb_base.specs.declared.artifact_error.ArtifactError.TheVariants.{Fault, Memory}
use Rattle.jb_base.specs.declared.class.ClassId.{ClassId}
use Rattle.jb_artifacts.specs.Answers.{IfFault, IfNoMemory}
use Rattle.jb_artifacts.specs.declared.faults.FaultPlan.{FaultPlan}
use Rattle.jb_artifacts.specs.declared.faults.FaultPlan.TheVariants.{Sound}
use Rattle.jb_artifacts.specs.Faults.{FaultTable, live, used, used_at}
use Rattle.jb_artifacts.specs.Reader.{Reader, after_read}
use Rattle.jb_artifacts.specs.Processor.{Processor, after_process, process_fault}
use Rattle.jb_rows.specs.Answers.{answered}
use Rattle.jb_rows.specs.Fields.{Fields, fields_in}
use Rattle.jb_rows.specs.declared.row_function.Outcome.{Outcome}
use Rattle.jb_artifacts.specs.Meaning.{ArtifactsMeaning}
use Rattle.jb_base.specs.Rules.{RulesRecord}
use Rattle.jb_records.specs.Artifacts.{IsFaulted, IsFirstArtifactsOver, IsNeverSkipped, faulted_by, is_among, plan_of, record_of, tries_plan}
use Rattle.jb_records.specs.Function.{Function, IsSteady, answer_for, refusal_in, refusal_of, result_in, result_of, tries_of}
use Rattle.jb_records.specs.inside.Processing.{IsSettled, Strikes, given_by}

-- ---- READS

sound-by : (here : Bool) → Sound ≡ cond here (used Sound) Sound
sound-by true = refl
sound-by false = refl

-- no read fails, and none changes a plan
pub reads-on : (first place : ℕ) (records : List (List ℕ)) → record { first = first; records = records; place = place + 1; faults = λ _. Sound }
    ≡ after_read (record { first = first; records = records; place = place; faults = λ _. Sound })
unfolding used_at
reads-on first place records =
    let past : FaultTable → Reader = λ plans. record { first = first; records = records; place = place + 1; faults = plans } in
    ap past (fun_ext (λ k. sound-by (k == place)))

-- ---- PROCESSING

used-by : (refusal : Option ClassId) (here : Bool) (plan : FaultPlan) → faulted_by refusal (cond here (used plan) plan) ≡ cond here (used (faulted_by refusal plan)) (faulted_by refusal plan)
used-by None true plan = refl
used-by None false plan = refl
used-by (Some class) true plan = refl
used-by (Some class) false plan = refl

stays-by : (class : ClassId) (refusal : Option ClassId) (here : Bool) (plan : FaultPlan) → (here ≡ true → refusal ≡ Some class) → cond here (used (faulted_by refusal plan)) (faulted_by refusal plan) ≡ faulted_by refusal plan
stays-by class refusal false plan is = refl
stays-by class refusal true plan is = ap (λ o. used (faulted_by o plan)) (is refl) ∙ ap (λ o. faulted_by o plan) (sym (is refl))

at-number : (k n : ℕ) → (k == n) ≡ true → k ≡ n
at-number k n e = grind (arith, nat_tests)

module _ (refusals : ℕ → Option ClassId) (n : ℕ) where
  abbrev table : FaultTable → FaultTable
  table plans = λ k. faulted_by (refusals k) (plans k)

  -- a call for this record uses the plan of its tries
  faults-used : (plans : FaultTable) → table (used_at plans n) ≡ used_at (table plans) n
  unfolding used_at
  faults-used plans = fun_ext (λ k. used-by (refusals k) (k == n) (plans k))

  -- and changes nothing if the record is refused
  refused-stays : (plans : FaultTable) (class : ClassId) → refusals n ≡ Some class → table plans ≡ used_at (table plans) n
  unfolding used_at
  refused-stays plans class is = fun_ext (λ k. sym (stays-by class (refusals k) (k == n) (plans k) (λ e. ap refusals (at-number k n e) ∙ is)))

  struck-by : (old new : FaultTable) (class : ClassId) (refusal : Option ClassId) → refusals n ≡ refusal → Strikes refusal n old new class → (live (table old n) ≡ Some class) × (table new ≡ used_at (table old) n)
  struck-by old new class (Some refused) is strikes =
      (ap (λ o. live (faulted_by o (old n))) is ∙ ap Some (sym strikes.0), ap table strikes.1 ∙ refused-stays old refused is)
  struck-by old new class None is strikes = (ap (λ o. live (faulted_by o (old n))) is ∙ strikes.0, ap table strikes.1 ∙ faults-used old)

  -- a fault is the one of the table, and the table goes on
  pub struck : (old new : FaultTable) (class : ClassId) → Strikes (refusals n) n old new class → (live (table old n) ≡ Some class) × (table new ≡ used_at (table old) n)
  struck old new class strikes = struck-by old new class (refusals n) refl strikes

-- ---- WHAT A CALL ANSWERED

pub no-memory : {A P : Type 0} (result : Result A ArtifactError) → P → IfNoMemory result P
no-memory (Ok x) p = tt
no-memory (Err (Fault class)) p = tt
no-memory (Err Memory) p = p

pub fault-weaker : (A B : Type 0) (P Q : ClassId → Type 0) (error : ArtifactError) → ((class : ClassId) → P class → Q class) → IfFault {A = A} (Err error) P → IfFault {A = B} (Err error) Q
fault-weaker A B P Q (Fault class) more p = more class p
fault-weaker A B P Q Memory more p = tt

-- ---- A RECORD THAT THE FUNCTION WAS CALLED ON

-- the processor, with these plans of tries
abbrev pub processor_with : Function → (first : ℕ) → (records : List (List ℕ)) → FaultTable → Processor
processor_with f first records tries = record {
  answer = λ k item. result_of f (record_of first records k);
  faults = λ k. faulted_by (refusal_of f (record_of first records k)) (tries k);
}

module _ (f : Function) (first : ℕ) (records : List (List ℕ)) (n : ℕ) (outcome : Outcome) (built : Fields) (old new : FaultTable) (written_before : answered outcome built ≡ answer_for f (record_of first records n)) where
  abbrev with_tries : FaultTable → Processor
  with_tries tries = processor_with f first records tries

  abbrev refusals : ℕ → Option ClassId
  refusals k = refusal_of f (record_of first records k)

  pub answers : (found : Bool) → IsSettled outcome n old new found → (process_fault (with_tries old) n ≡ None) × (given_by found built ≡ result_of f (record_of first records n)) × (with_tries new ≡ after_process (with_tries old) n)
  answers found is =
      let none : refusals n ≡ None = ap refusal_in (sym written_before) ∙ is.accepted built in (
        ap (λ o. live (faulted_by o (old n))) none ∙ is.still,
        sym (is.given built) ∙ ap result_in written_before,
        ap with_tries is.used ∙ ap (λ plans. record (with_tries old) { faults = plans }) (faults-used refusals n old),
      )

  pub fails : (class : ClassId) → ((b : Fields) → Strikes (refusal_in (answered outcome b)) n old new class) → (process_fault (with_tries old) n ≡ Some class) × (with_tries new ≡ after_process (with_tries old) n)
  fails class strikes =
      let both = struck refusals n old new class (subst (λ o. Strikes o n old new class) (ap refusal_in written_before) (strikes built)) in
      (both.0, ap (λ plans. record (with_tries old) { faults = plans }) both.1)

-- ---- WHAT A PARTITION BEGINS WITH

faulted : (rules : RulesRecord) (refusal : Option ClassId) (plan : FaultPlan) → IsNeverSkipped rules plan → IsFaulted rules refusal (faulted_by refusal plan)
faulted rules None plan is = is
faulted rules (Some class) plan is = refl

-- no try of a steady function fails
none-by : (b : Bool) (classes : List ClassId) → classes ≡ [] → cond b (plan_of classes) Sound ≡ Sound
none-by true classes none = ap plan_of none
none-by false classes none = refl

none-tried : (f : Function) (first : ℕ) (records : List (List ℕ)) (k : ℕ) → IsSteady f → tries_plan f first records k ≡ Sound
unfolding tries_plan
none-tried f first records k steady = none-by (is_among first (length records) k) (tries_of f (record_of first records k)) (steady (fields_in (record_of first records k)))

pub over : (f : Function) (rules : RulesRecord) (first : ℕ) (records : List (List ℕ)) (tries : FaultTable) → ((k : ℕ) → tries k ≡ tries_plan f first records k) → ((k : ℕ) → IsNeverSkipped rules (tries k))
    → (w : ArtifactsMeaning) → w.reader.first ≡ first → w.reader.records ≡ records → ((k : ℕ) → w.reader.faults k ≡ Sound) → w.processor ≡ processor_with f first records tries → ((k : ℕ) → w.writer.faults k ≡ Sound)
    → IsFirstArtifactsOver f rules first records w
over f rules first records tries are never w first_is records_are reads processor writes =
    let plans = λ (k : ℕ). ap (λ (p : Processor). p.faults k) processor in record {
      artifacts = record {
        first_is = first_is;
        records_are = records_are;
        reads = reads;
        answers = λ k item. ap (λ (p : Processor). p.answer k item) processor;
        faults = λ k. subst (IsFaulted rules (refusal_of f (record_of first records k))) (sym (plans k)) (faulted rules (refusal_of f (record_of first records k)) (tries k) (never k));
        steady = λ steady k. plans k ∙ ap (faulted_by (refusal_of f (record_of first records k))) (are k ∙ none-tried f first records k steady);
        writes = writes;
      };
      first_tries = λ k. plans k ∙ ap (faulted_by (refusal_of f (record_of first records k))) (are k);
    }
