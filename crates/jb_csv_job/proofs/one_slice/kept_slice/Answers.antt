use Rattle.std.proofs.{Common.{◌∙◌, inl, inr}, lemmas.Bool.{cases_eq}}
use Rattle.jb_csv_job.proofs.Going.{read-of}
use Rattle.jb_csv_job.proofs.one_slice.kept_slice.Goals as goal

pub returns-clause-ended : goal.returns-clause-ended
returns-clause-ended g c clean log db functions text up slice =
    let items = c.as_list-items.ensures.packed ∙ slice.items in
    rw (← items) (c.in_ok-files.ensures.resumed (c.keep.ensures.clean clean).1 functions up.stamps (rw (← items, ← log, ← db) at (up.each c.args.number slice.has slice.own))).0

pub returns-clause-left : goal.returns-clause-left
returns-clause-left g c clean log db functions text up slice k read image may =
    elim (cases_eq k c.args.number) [
      | inl same ↦
          (let items = c.as_list-items.ensures.packed ∙ slice.items in
          let holds = rw (← items, ← log, ← db) at (up.each c.args.number slice.has slice.own) in
          let run = (c.in_ok-files.ensures.resumed (c.keep.ensures.clean clean).1 functions up.stamps holds).1 image (c.keep.ensures.left read image (rw same at may)).1 in
          inr (record { records = up.records; read = read-of up; holds = rw (same, ← items) run }))
      | inr other ↦ inl (c.keep.ensures.others k read image other may)
    ]

pub returns-clause-crash : goal.returns-clause-crash
returns-clause-crash g c clean log db functions stamps k read image may =
    elim (cases_eq k c.args.number) [
      | inl same ↦
          (let left = c.keep.ensures.left read image (rw same at may) in
          inr (λ holds. rw (same, left.0) ((c.in_ok-files.ensures.resumed (c.keep.ensures.clean clean).1 functions stamps (rw (same, left.0, ← log, ← db) at holds)).1 image left.1)))
      | inr other ↦ inl (c.keep.ensures.others k read image other may)
    ]
