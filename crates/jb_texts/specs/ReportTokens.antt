-- The JSON tokens of a report's parts, in which it is written while the job runs.
use Rattle.std.specs.Prelude.{ℕ, List, [], ◌∷◌, ◌++◌, map, flat_map, length, codes}
use Rattle.json.specs.Token.{Token, begin_object, end_object, begin_array, end_array, key, string}
use Rattle.jb_rules.specs.declared.row.Row.{Row}
use Rattle.jb_collect.specs.declared.calls.AnalyzerCall.{AnalyzerCall}
use Rattle.jb_collect.specs.declared.calls.ReducerCall.{ReducerCall}
use Rattle.jb_collect.specs.declared.calls.Status.{Status}
use Rattle.jb_saved.specs.SavedTree.{saved_tree, tokens_of}
use Rattle.jb_cert.specs.declared.notes.PlanNote.{PlanNote}
use Rattle.jb_texts.specs.Statuses.{status_name}
use Rattle.jb_texts.specs.Report.{PartitionReport, StepReport, heard_tree, plans_tree, reducer_tree, results_tree}

-- a step begins with what was heard of its partitions; then come the outputs of these, one list after another
abbrev pub step_head : (partitions : ℕ) → List AnalyzerCall → List Token
step_head partitions heard = begin_object ∷ key (codes "heard") ∷ (tokens_of (heard_tree partitions heard) ++ key (codes "outputs") ∷ begin_array ∷ [])

abbrev pub outputs_tokens : List PartitionReport → List Token
outputs_tokens partitions = flat_map (λ p. tokens_of (results_tree p.outputs)) partitions

-- and it ends with the rest of what its run left
abbrev pub step_tail : List Row → List PlanNote → List ReducerCall → Status → (id : List ℕ) → List Token
step_tail rows plans reducer status id = end_array ∷ key (codes "plans") ∷ (tokens_of (plans_tree plans)
    ++ key (codes "reducer") ∷ (tokens_of (reducer_tree reducer)
    ++ key (codes "saved") ∷ (tokens_of (saved_tree (record { step = id; rows = rows }))
    ++ key (codes "status") ∷ string (status_name status) ∷ key (codes "step") ∷ string id ∷ end_object ∷ [])))

abbrev pub step_tokens : StepReport → List Token
step_tokens s = step_head (length s.partitions) s.heard
    ++ (outputs_tokens s.partitions ++ step_tail (map (λ p. p.row) s.partitions) s.plans s.reducer s.status s.id)

-- the list of the steps' reports, with more to come
abbrev pub steps_tokens : List StepReport → List Token
steps_tokens steps = begin_array ∷ flat_map step_tokens steps
