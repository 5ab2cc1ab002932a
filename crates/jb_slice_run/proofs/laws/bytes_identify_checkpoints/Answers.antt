use Rattle.jb_slice_run.proofs.{Examples.{some_kept}, Beginning.{begins_with_header, own_slices}, Holding.{places_are_read}, Telling.{all_once, each_once, fronts, one_more}}
use Rattle.jb_slice_run.proofs.laws.bytes_identify_checkpoints.Goals as goal

pub returns : goal.returns
returns c =
    let told = c.answers_are_computed.ensures in
    search (each_once, all_once, fronts c.slices_follow.ensures.front, one_more c.slices_follow.ensures.more, begins_with_header, own_slices, places_are_read, some_kept told.text told.tree)
