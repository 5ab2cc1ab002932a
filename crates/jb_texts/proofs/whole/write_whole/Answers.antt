use Rattle.std.proofs.Common.{[], append-nil}
use Rattle.jb_texts.proofs.Fronts.{front-kept, on-err}
use Rattle.jb_texts.proofs.whole.write_whole.Goals as goal

pub returns-clause-front : goal.returns-clause-front
returns-clause-front g c =
    on-err c.flush.result (front-kept _ _ _ c.args.bytes.now [] _ c.in_ok-write_bytes.ensures.whole c.flush.ensures.bytes (append-nil c.args.bytes.now))
