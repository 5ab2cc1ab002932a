-- The form of an entry as code holds it, by references into the tree.
use Rattle.jb_documents.specs.inside.Borrowed.{seen}
use Rattle.jb_documents.specs.FaultLists.{FaultForm, bad, shaky}
use Rattle.jb_documents.specs.declared.run.fault_lists.EntryForm.{EntryForm}
use Rattle.jb_documents.specs.declared.run.fault_lists.EntryForm.TheVariants.{Bad, Shaky}

abbrev pub fault_form_of : EntryForm → FaultForm
fault_form_of (Bad name) = bad name.now
fault_form_of (Shaky names) = shaky (seen names.now)
