-- What ends a step's report, in two parts.
use Rattle.std.specs.Prelude.{ℕ, List, [], ◌∷◌, ◌++◌, codes}
use Rattle.json.specs.Token.{Token, end_array, end_object, key, string}
use Rattle.jb_rules.specs.declared.row.Row.{Row}
use Rattle.jb_collect.specs.declared.calls.ReducerCall.{ReducerCall}
use Rattle.jb_collect.specs.declared.calls.Status.{Status}
use Rattle.jb_saved.specs.SavedTree.{saved_tree, tokens_of}
use Rattle.jb_cert.specs.declared.notes.PlanNote.{PlanNote}
use Rattle.jb_texts.specs.Statuses.{status_name}
use Rattle.jb_texts.specs.Report.{plans_tree, reducer_tree}

-- the end of the outputs, the plans and the reducer's calls
abbrev pub lists_tokens : List PlanNote → List ReducerCall → List Token
lists_tokens plans reducer = end_array ∷ key (codes "plans") ∷ (tokens_of (plans_tree plans) ++ key (codes "reducer") ∷ tokens_of (reducer_tree reducer))

-- the saved rows, the status and the id
abbrev pub end_tokens : List Row → Status → (id : List ℕ) → List Token
end_tokens rows status id = key (codes "saved") ∷ (tokens_of (saved_tree (record { step = id; rows = rows })) ++ key (codes "status") ∷ string (status_name status) ∷ key (codes "step") ∷ string id ∷ end_object ∷ [])
