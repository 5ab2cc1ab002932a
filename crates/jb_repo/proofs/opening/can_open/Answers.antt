use Rattle.jb_repo.proofs.opening.can_open.Goals as goal

pub returns : goal.returns
returns c =
    let sized = c.is_sized.ensures.0 c.if-not-is_sized.false in (
      λ yes. record {
        some_rows = sized.some_rows;
        few_rows = sized.few_rows;
        idle = c.are_idle.ensures.0 c.if-not-are_idle.false;
        disjoint = rw c.write_ranges.ensures.ranges at (c.are_disjoint.ensures.0 yes);
        some_threads = sized.some_threads;
        few_threads = sized.few_threads;
        some_items = sized.some_items;
        few_items = sized.few_items;
      },
      λ ready. c.are_disjoint.ensures.1 (rw c.write_ranges.ensures.ranges ready.disjoint),
    )
