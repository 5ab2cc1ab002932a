-- The tokens of a report's parts, put together.
use Rattle.std.proofs.Common.{◌≡◌, ℕ, List, [], ◌∷◌, ◌++◌, map, flat_map, length, codes, refl, ap, sym, ◌∙◌, append_assoc}
use Rattle.serde_json.specs.Written.{compact_text}
use Rattle.serde_json.proofs.Texts.{print-outline}
use Rattle.json.specs.Token.{Token, begin_object, end_object, begin_array, end_array, key, string}
use Rattle.json.specs.Print.{print, print_from, escape_byte}
use Rattle.jb_collect.specs.declared.calls.Status.{Status}
use Rattle.jb_saved.specs.SavedTree.{saved_tree, tokens_of}
use Rattle.jb_saved.proofs.Written.{list-tokens}
use Rattle.jb_texts.specs.Statuses.{status_name}
use Rattle.jb_texts.specs.Report.{StepReport, heard_tree, plans_tree, reducer_tree, results_tree, report_step_tree, steps_tree, report_text}
use Rattle.jb_texts.specs.ReportTokens.{outputs_tokens, step_tokens, steps_tokens}
use Rattle.jb_texts.specs.inside.Head.{head_text}

-- ---- a step

-- what follows on a step's outputs
abbrev rest_of : StepReport → List Token
rest_of s = key (codes "plans") ∷ (tokens_of (plans_tree s.plans)
    ++ key (codes "reducer") ∷ (tokens_of (reducer_tree s.reducer)
    ++ key (codes "saved") ∷ (tokens_of (saved_tree (record { step = s.id; rows = map (λ p. p.row) s.partitions }))
    ++ key (codes "status") ∷ string (status_name s.status) ∷ key (codes "step") ∷ string s.id ∷ end_object ∷ [])))

pub step-tokens : (s : StepReport) → step_tokens s ≡ tokens_of (report_step_tree s)
step-tokens s =
    let heard = tokens_of (heard_tree (length s.partitions) s.heard) in
    let outputs = outputs_tokens s.partitions in
    let head : List Token → List Token = λ ts. begin_object ∷ key (codes "heard") ∷ ts in
    let next : List Token → List Token = λ ts. head (heard ++ key (codes "outputs") ∷ ts) in
    ap head (append_assoc heard (key (codes "outputs") ∷ begin_array ∷ []) (outputs ++ end_array ∷ rest_of s))
    ∙ sym (ap (λ ts. next (ts ++ rest_of s)) (list-tokens (λ p. results_tree p.outputs) s.partitions) ∙ ap (λ ts. next (begin_array ∷ ts)) (append_assoc outputs (end_array ∷ []) (rest_of s)))

steps-tokens : (steps : List StepReport) → flat_map step_tokens steps ≡ flat_map (λ s. tokens_of (report_step_tree s)) steps
steps-tokens [] = refl
steps-tokens (s ∷ ss) = λ i. step-tokens s i ++ steps-tokens ss i

-- the list of the steps' reports, ended, is printed as its tree
pub steps-print : (steps : List StepReport) → print (steps_tokens steps ++ end_array ∷ []) ≡ compact_text (steps_tree steps)
steps-print steps =
    ap (λ ts. print (begin_array ∷ (ts ++ end_array ∷ []))) (steps-tokens steps) ∙ ap print (sym (list-tokens report_step_tree steps)) ∙ print-outline (steps_tree steps)

pub head-print : (job : List ℕ) (status : Status) → print (begin_object ∷ key (codes "job") ∷ string job ∷ key (codes "status") ∷ string (status_name status) ∷ key (codes "steps") ∷ []) ≡ head_text job status
unfolding print_from head_text escape_byte
head-print job status = refl

pub report-joined : (job : List ℕ) (status : Status) (steps : List StepReport) → head_text job status ++ (compact_text (steps_tree steps) ++ 125 ∷ 10 ∷ []) ≡ report_text (record { job = job; status = status; steps = steps })
unfolding head_text report_text escape_byte
report-joined job status steps = simp append_assoc
