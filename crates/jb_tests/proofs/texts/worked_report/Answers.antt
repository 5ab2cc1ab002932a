use Rattle.std.proofs.Common.{◌≡◌, ℕ, zero, suc, nat_lt, true, List, [], ◌∷◌, ◌++◌, codes, refl, ap, ◌∙◌, arith}
use Rattle.std.specs.List.{list_all}
use Rattle.std.specs.Fmt.{digits}
use Rattle.std.specs.Str.{IsAscii}
use Rattle.std.specs.Str.Lossy.{utf8_lossy}
use Rattle.std.proofs.lemmas.Bool.{and_parts}
use Rattle.std.proofs.lemmas.Bool.Decides.{nat_tests}
use Rattle.std.proofs.lemmas.Str.{IsUtf8-from_ascii, utf8_lossy-IsUtf8}
use Rattle.json.specs.Print.{print_from, escape_byte}
use Rattle.serde_json.specs.Data.{Data, string, object, member, no_members}
use Rattle.serde_json.specs.Written.{compact_text}
use Rattle.jb_collect.specs.declared.calls.AnalyzerCall.{AnalyzerCall}
use Rattle.jb_collect.specs.declared.calls.AnalyzerCall.TheVariants as heard
use Rattle.jb_collect.specs.declared.calls.ReducerCall.TheVariants.{Begin, Before, After}
use Rattle.jb_collect.specs.declared.calls.PartitionStatus.TheVariants as end
use Rattle.jb_collect.specs.declared.calls.Status.TheVariants.{Completed}
use Rattle.jb_cert.specs.declared.certificates.Certificate.TheVariants.{Longest}
use Rattle.jb_cert.specs.declared.notes.PlanNote.{PlanNote}
use Rattle.jb_saved.specs.SavedTree.{list_tree, saved_tree}
use Rattle.jb_texts.specs.Report.{PartitionReport, heard_tree, outputs_tree, plans_tree, reducer_tree, report_text, results_tree}
use Rattle.jb_texts.specs.Worked.{finished_row, seven_records, seven_records_text}
use Rattle.jb_tests.proofs.texts.worked_report.Goals as goal

ascii : (bytes : List ℕ) → list_all (λ b. nat_lt b 128) bytes ≡ true → IsAscii bytes
ascii [] small i = omega arith
ascii (b ∷ bytes) small zero = let first = (and_parts (nat_lt b 128) (list_all (λ c. nat_lt c 128) bytes) small).0 in grind (arith, nat_tests, first)
ascii (b ∷ bytes) small (suc i) = ascii bytes (and_parts (nat_lt b 128) (list_all (λ c. nat_lt c 128) bytes) small).1 i

-- what is ASCII stands for itself
same : (bytes : List ℕ) → list_all (λ b. nat_lt b 128) bytes ≡ true → utf8_lossy bytes ≡ bytes
same bytes small = utf8_lossy-IsUtf8 bytes (IsUtf8-from_ascii bytes (ascii bytes small))

abbrev calls : List AnalyzerCall
calls = heard.Collected 0 (codes "0:2:2") ∷ heard.Collected 1 (codes "1:5:2") ∷ heard.Collected 1 (codes "1:5:2:end") ∷ heard.Status 1 Completed
    ∷ heard.Collected 0 (codes "0:3:3") ∷ heard.Collected 0 (codes "0:3:3:end") ∷ heard.Status 0 Completed
    ∷ heard.Collected 2 (codes "2:7:2") ∷ heard.Collected 2 (codes "2:7:2:end") ∷ heard.Status 2 Completed ∷ []

-- what was heard of each partition, as it is written
abbrev told : Data
told = list_tree
    (results_tree (codes "0:2:2" ∷ codes "0:3:3" ∷ codes "0:3:3:end" ∷ codes "COMPLETED" ∷ [])
    ∷ results_tree (codes "1:5:2" ∷ codes "1:5:2:end" ∷ codes "COMPLETED" ∷ [])
    ∷ results_tree (codes "2:7:2" ∷ codes "2:7:2:end" ∷ codes "COMPLETED" ∷ []) ∷ [])

heard-told : heard_tree 3 calls ≡ told
heard-told i = list_tree
    (results_tree (same (codes "0:2:2") refl i ∷ same (codes "0:3:3") refl i ∷ same (codes "0:3:3:end") refl i ∷ codes "COMPLETED" ∷ [])
    ∷ results_tree (same (codes "1:5:2") refl i ∷ same (codes "1:5:2:end") refl i ∷ codes "COMPLETED" ∷ [])
    ∷ results_tree (same (codes "2:7:2") refl i ∷ same (codes "2:7:2:end") refl i ∷ codes "COMPLETED" ∷ []) ∷ [])

abbrev partitions : List PartitionReport
partitions = record { row = finished_row 0 3 0 2; outputs = codes "xa" ∷ codes "xb" ∷ codes "xc" ∷ [] }
    ∷ record { row = finished_row 3 5 3 1; outputs = codes "xd" ∷ codes "xe" ∷ [] }
    ∷ record { row = finished_row 5 7 5 1; outputs = codes "xf" ∷ codes "xg" ∷ [] } ∷ []

abbrev notes : List PlanNote
notes = record { certificate = Longest 0; planned = 2; ran = 2 } ∷ []

-- the report's text, where this was heard
abbrev text_with : Data → List ℕ
text_with heard = compact_text
    (object
    (member (codes "job") (string (codes "j"))
    (member (codes "status") (string (codes "COMPLETED"))
    (member (codes "steps")
    (list_tree
    (object
    (member (codes "heard") heard
    (member (codes "outputs") (outputs_tree partitions)
    (member (codes "plans") (plans_tree notes)
    (member (codes "reducer") (reducer_tree (Begin ∷ Before ∷ After end.Commit ∷ []))
    (member (codes "saved") (saved_tree (record { step = codes "s"; rows = finished_row 0 3 0 2 ∷ finished_row 3 5 3 1 ∷ finished_row 5 7 5 1 ∷ [] }))
    (member (codes "status") (string (codes "COMPLETED"))
    (member (codes "step") (string (codes "s")) no_members))))))) ∷ []))
    no_members))))
    ++ 10 ∷ []

written : report_text seven_records ≡ text_with (heard_tree 3 calls)
unfolding report_text
written = refl

computed : text_with told ≡ seven_records_text
unfolding digits print_from escape_byte
computed = refl

pub returns : goal.returns
returns c = record { seven_records = written ∙ ap text_with heard-told ∙ computed }
