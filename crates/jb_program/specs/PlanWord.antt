-- What `plan` leaves.
use Rattle.std.specs.Prelude.{ℕ, List, length, Option, IfSome}
use Rattle.std.specs.Io.KnownBytes.{Appends}
use Rattle.jb_cert.specs.Certificates.{Holds, bound_certificate}
use Rattle.jb_cert.specs.Plans.{StandsForLeast}
use Rattle.jb_cert.specs.Load.{Load}
use Rattle.jb_cert.specs.WrapAround.{wrapped_rounds}
use Rattle.jb_documents.specs.PlanDocument.{AsksFor}
use Rattle.jb_texts.specs.Front.{AppendsFront}
use Rattle.jb_texts.specs.PlanText.{text_of_load}

-- The writer holds the load's plan more. It is a least one, and its certificate holds.
pub record IsPlannedFor (load : Load) (old new : Option (List ℕ)) : Type 0 where
  pub written : Appends old new (text_of_load load)
  pub least : StandsForLeast load.counts load.threads (wrapped_rounds load.counts load.threads)
  pub certified : Holds load.counts load.threads (length (wrapped_rounds load.counts load.threads)) (bound_certificate load.counts load.threads)

-- Where `plan` ended well, it answered the load that the reader's bytes ask for.
abbrev pub IsPlanned : (input old new : Option (List ℕ)) → Type 0
IsPlanned input old new = (load : Load) × IsPlannedFor load old new × IfSome input (AsksFor load)

-- The writer holds the front of that plan more.
abbrev pub IsPlanFront : (input old new : Option (List ℕ)) → Type 0
IsPlanFront input old new = (load : Load) × AppendsFront old new (text_of_load load) × IfSome input (AsksFor load)
