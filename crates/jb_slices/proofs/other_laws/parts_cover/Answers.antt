use Rattle.jb_slices.proofs.Covering.{apart, collects, each}
use Rattle.jb_slices.proofs.other_laws.parts_cover.Goals as goal

pub returns : goal.returns
returns c = record { apart = apart; each = each; collect = collects }
