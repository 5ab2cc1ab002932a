-- What the tables of the documents say as a whole.
use Rattle.std.specs.Prelude.{◌≡◌, Ok}
use Rattle.serde_json.specs.Data.{Data}
use Rattle.jb_cert.specs.Load.{Load, IsWithinLimits}
use Rattle.jb_saved.specs.SavedRows.{IsSaved}
use Rattle.jb_documents.specs.CheckDocument.{Claim, check_document_at}
use Rattle.jb_documents.specs.declared.restart.document.RestartDocument.{RestartDocument}
use Rattle.jb_documents.specs.declared.run.document.Document.{Document}
use Rattle.jb_documents.specs.DocumentRanges.{IsClaim, IsRestartDocument, IsRunDocument}
use Rattle.jb_documents.specs.DocumentTrees.{claim_tree, document_tree, load_tree, restart_tree}
use Rattle.jb_documents.specs.PlanDocument.{plan_document_at}
use Rattle.jb_documents.specs.RestartDocument.{restart_at}
use Rattle.jb_documents.specs.RunDocument.{document_at}

-- ---- what is read keeps the ranges of the document

abbrev pub DocumentsKeepRanges : Type 0
DocumentsKeepRanges = (d : Data) (document : Document) → document_at d ≡ Ok document → IsRunDocument document

abbrev pub LoadsKeepLimits : Type 0
LoadsKeepLimits = (d : Data) (load : Load) → plan_document_at d ≡ Ok load → IsWithinLimits load.counts load.threads

abbrev pub ClaimsKeepRanges : Type 0
ClaimsKeepRanges = (d : Data) (claim : Claim) → check_document_at d ≡ Ok claim → IsClaim claim

abbrev pub RestartsKeepRanges : Type 0
RestartsKeepRanges = (d : Data) (document : RestartDocument) → restart_at d ≡ Ok document → IsRestartDocument document

-- ---- each document within its ranges has a tree that is read as it

abbrev pub DocumentsHaveTrees : Type 0
DocumentsHaveTrees = (document : Document) → IsRunDocument document → document_at (document_tree document) ≡ Ok document

abbrev pub LoadsHaveTrees : Type 0
LoadsHaveTrees = (load : Load) → IsWithinLimits load.counts load.threads → plan_document_at (load_tree load) ≡ Ok load

abbrev pub ClaimsHaveTrees : Type 0
ClaimsHaveTrees = (claim : Claim) → IsClaim claim → check_document_at (claim_tree claim) ≡ Ok claim

-- whose rows may be saved
abbrev pub RestartsHaveTrees : Type 0
RestartsHaveTrees = (document : RestartDocument) → IsRestartDocument document → IsSaved document.resume.saved → restart_at (restart_tree document) ≡ Ok document
