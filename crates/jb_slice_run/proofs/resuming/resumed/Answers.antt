use Rattle.std.proofs.{Common.{ap, map, ◌∙◌}, lemmas.List.{map-append, nil_from_length}}
use Rattle.jb_slice_file.{specs.CheckpointBytes.{checkpoint_bytes}, proofs.Handed.{handed_on}}
use Rattle.jb_slice_run.proofs.resuming.resumed.Goals as goal

pub behind-requires-clause-last : goal.behind-requires-clause-last
behind-requires-clause-last g c κs outlives = (map checkpoint_bytes c.in-Some-split_last.field-0-1.now, ap (map checkpoint_bytes) c.in-Some-split_last.ensures.cases.0 ∙ map-append checkpoint_bytes _ _)

pub returns-in_default : goal.returns-in_default
returns-in_default g c = rw (nil_from_length c.args.done.now c.in_default.ensures.cases) c.blank.ensures

pub returns-in_err-limits-clause-why : goal.returns-in_err-limits-clause-why
returns-in_err-limits-clause-why g c = rw c.in-Some.ensures.cases.0 (handed_on _ _ _ c.from_residual.ensures.1 (c.in_err-limits.ensures.why _ _))

pub returns-in-None : goal.returns-in-None
returns-in-None g c =
    let own = c.in_ok-limits.ensures.opened in
    rw (c.in-Some.ensures.cases.0, nil_from_length c.in-Some.later.now c.in-None.ensures.cases) (record { place = c.after_header.ensures.place _ _ own; why = c.after_header.ensures.why _ _ own })

pub returns-in-Some-split_last : goal.returns-in-Some-split_last
returns-in-Some-split_last g c =
    let own = c.in_ok-limits.ensures.opened in
    rw c.in-Some.ensures.cases.0 (record { place = c.behind.ensures.place _ _ own; why = c.behind.ensures.why _ _ own })
