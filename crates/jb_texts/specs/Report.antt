-- The report of a run as a JSON tree, and its text (own choice).
use Rattle.std.specs.Prelude.{ℕ, List, [], ◌∷◌, ◌++◌, map, length, codes}
use Rattle.std.specs.List.{range_with_len}
use Rattle.std.specs.Str.Lossy.{utf8_lossy}
use Rattle.serde_json.specs.Data.{Data, string, object, member, no_members}
use Rattle.serde_json.specs.Written.{compact_text}
use Rattle.jb_rules.specs.declared.row.Row.{Row}
use Rattle.jb_cert.specs.Texts.{certificate_text}
use Rattle.jb_collect.specs.declared.calls.AnalyzerCall.{AnalyzerCall}
use Rattle.jb_collect.specs.declared.calls.AnalyzerCall.TheVariants as heard
use Rattle.jb_collect.specs.declared.calls.ReducerCall.{ReducerCall}
use Rattle.jb_collect.specs.declared.calls.ReducerCall.TheVariants.{Begin, Before, Rollback, After}
use Rattle.jb_collect.specs.declared.calls.PartitionStatus.TheVariants as end
use Rattle.jb_collect.specs.declared.calls.Status.{Status}
use Rattle.jb_saved.specs.SavedTree.{list_tree, number_tree, saved_tree}
use Rattle.jb_cert.specs.declared.notes.PlanNote.{PlanNote}
use Rattle.jb_collect.specs.Heard.{calls_about}
use Rattle.jb_texts.specs.Statuses.{status_name}

-- a partition after its step: its row, and the results in its writer as texts
pub record PartitionReport : Type 0 where
  pub row : Row
  pub outputs : List (List ℕ)

-- a step that ran: its partitions in order, all that its analyzer heard, its plans, and the calls of its reducer
pub record StepReport : Type 0 where
  pub id : List ℕ
  pub status : Status
  pub partitions : List PartitionReport
  pub heard : List AnalyzerCall
  pub plans : List PlanNote
  pub reducer : List ReducerCall

-- a job that ran, and its steps in order
pub record Report : Type 0 where
  pub job : List ℕ
  pub status : Status
  pub steps : List StepReport

-- ---- the tree

abbrev pub results_tree : List (List ℕ) → Data
results_tree ts = list_tree (map string ts)

abbrev pub outputs_tree : List PartitionReport → Data
outputs_tree ps = list_tree (map (λ p. results_tree p.outputs) ps)

-- a collected text, bytes that are no UTF-8 replaced, or the name of a status
abbrev pub heard_text : AnalyzerCall → List ℕ
heard_text (heard.Collected partition text) = utf8_lossy text
heard_text (heard.Status partition status) = status_name status

-- what was heard of a partition, of all calls
abbrev pub heard_about : List AnalyzerCall → (partition : ℕ) → Data
heard_about calls partition = results_tree (map heard_text (calls_about partition calls))

-- the same of each partition, of so many
abbrev pub heard_tree : (partitions : ℕ) → List AnalyzerCall → Data
heard_tree partitions calls = list_tree (map (heard_about calls) (range_with_len 0 partitions))

-- why no plan is shorter, the rounds that were planned, and those that were run
abbrev pub note_tree : PlanNote → Data
note_tree note = list_tree (string (certificate_text note.certificate) ∷ number_tree note.planned ∷ number_tree note.ran ∷ [])

abbrev pub plans_tree : List PlanNote → Data
plans_tree notes = list_tree (map note_tree notes)

abbrev pub call_name : ReducerCall → List ℕ
call_name Begin = codes "begin"
call_name Before = codes "before"
call_name Rollback = codes "rollback"
call_name (After end.Commit) = codes "after COMMIT"
call_name (After end.Rollback) = codes "after ROLLBACK"

abbrev pub reducer_tree : List ReducerCall → Data
reducer_tree calls = results_tree (map call_name calls)

abbrev pub report_step_tree : StepReport → Data
report_step_tree s = object
    (member (codes "heard") (heard_tree (length s.partitions) s.heard)
    (member (codes "outputs") (outputs_tree s.partitions)
    (member (codes "plans") (plans_tree s.plans)
    (member (codes "reducer") (reducer_tree s.reducer)
    (member (codes "saved") (saved_tree (record { step = s.id; rows = map (λ p. p.row) s.partitions }))
    (member (codes "status") (string (status_name s.status))
    (member (codes "step") (string s.id) no_members)))))))

abbrev pub steps_tree : List StepReport → Data
steps_tree ss = list_tree (map report_step_tree ss)

abbrev pub report_tree : Report → Data
report_tree r = object
    (member (codes "job") (string r.job)
    (member (codes "status") (string (status_name r.status))
    (member (codes "steps") (steps_tree r.steps) no_members)))

-- ---- the text

-- the tree as one JSON text with no space, and a line feed
unfoldable pub report_text : Report → List ℕ
report_text r = compact_text (report_tree r) ++ 10 ∷ []
