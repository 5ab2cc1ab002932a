use Rattle.jb_chunk.proofs.WithoutRepeats.{attempts-without-repeats, repeats-stay}
use Rattle.jb_chunk.proofs.laws.repeats_need_a_class.Goals as goal

pub returns : goal.returns
returns c = record { attempt = attempts-without-repeats; row = repeats-stay }
