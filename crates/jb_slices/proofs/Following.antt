-- One checkpoint after the other.
use Rattle.std.proofs.Common.{ℕ, List, [], ◌∷◌, ◌++◌, ◌↔◌}
use Rattle.jb_slices.specs.{Checkpoint.Checkpoint, Job.Job, Slice.{Follow, Functions, SliceState, led, next, start}, SliceLaws.OneMoreFollows}

-- the checkpoints of a front may follow, and the others after them
pub follow_parts : (job : Job) (functions : Functions) (number : ℕ) (items : List (List ℕ)) (at : SliceState) (all more : List Checkpoint)
    → Follow job functions number items at (all ++ more)
    ↔ (Follow job functions number items at all × Follow job functions number items (led at all) more)
follow_parts job functions number items at [] more = (λ follow. (tt, follow), λ both. both.1)
follow_parts job functions number items at (c ∷ cs) more =
    let later = follow_parts job functions number items (next at c) cs more in
    (λ follow. let rest = later.0 follow.1 in ((follow.0, rest.0), rest.1), λ both. (both.0.0, later.1 (both.0.1, both.1)))

pub one_more : OneMoreFollows
one_more job functions number items all c so-far fits = (follow_parts job functions number items start all (c ∷ [])).1 (so-far, (fits, tt))
