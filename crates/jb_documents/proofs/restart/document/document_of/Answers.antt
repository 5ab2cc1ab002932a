use Rattle.jb_documents.specs.inside.Borrowed.{seen}
use Rattle.jb_documents.proofs.Restarted.{restart-parts}
use Rattle.jb_documents.proofs.restart.document.document_of.Goals as goal

pub returns : goal.returns
returns c =
    rw (restart-parts (seen c.args.tree) c.in_ok-job.job _ _ _ c.in_ok-object.ensures c.in_ok-job.ensures
    c.take_fields-fields.ensures.job c.take_fields-fields.ensures.given c.take_fields-fields.ensures.resume)
    c.of_parts.ensures
