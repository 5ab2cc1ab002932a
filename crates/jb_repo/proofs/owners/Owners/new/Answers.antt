use Rattle.std.proofs.Common.{None}
use Rattle.std.proofs.lemmas.List.{get_or-replicate}
use Rattle.jb_repo.proofs.owners.Owners.new.Goals as goal

pub returns : goal.returns
returns c = λ l d lt. get_or-replicate _ l None d lt
