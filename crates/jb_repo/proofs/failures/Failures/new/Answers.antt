use Rattle.std.proofs.Common.{None}
use Rattle.std.proofs.lemmas.List.{get_or-replicate}
use Rattle.jb_repo.proofs.failures.Failures.new.Goals as goal

pub returns : goal.returns
returns c = λ p d lt. get_or-replicate _ p None d lt
