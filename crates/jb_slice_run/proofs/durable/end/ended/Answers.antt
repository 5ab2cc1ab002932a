use Rattle.std.proofs.Common.{◌≡◌, List, inl, inr, map, sym, ap, subst, ◌∙◌}
use Rattle.jb_slice_run.specs.Named.{Faults, HoldsFaults, faults_held}
use Rattle.jb_slice_run.specs.declared.resumable_run.Stage.TheVariants.{SomeIntervals}
use Rattle.jb_slice_run.proofs.durable.Telling.{failed_at, tells, whole_at, whole_completed}
use Rattle.jb_slice_run.proofs.durable.end.ended.Goals as goal

pub returns-clause-told : goal.returns-clause-told
returns-clause-told g c functions f number items all stands =
    let ended = c.requires in
    let status = c.in_ok-status.ensures in
    let law = c.rows_are_progress.ensures.ends in
    let stage : c.args.place.stage ≡ SomeIntervals = elim status.either [
      | inl done ↦ (rw (status.whole done) at ended.ends).0
      | inr fails ↦ ended.agrees.kept (rw (status.failed fails) at ended.ends)
    ] in
    let rows = c.deref.ensures.value ∙ c.parts_of-results.ensures.rows in
    let at = rw (stage, sym rows) at stands.place in
    let held : map faults_held c.deref-2.result.now ≡ map faults_held c.args.place.faults.items = ap (map faults_held) c.deref-2.ensures.value ∙ c.parts_of-results.ensures.faults in
    let named = c.in_ok-faults.ensures functions f _ number items _ all at (subst (λ (h : List Faults). HoldsFaults h all) (sym held) stands.faults) in
    tells c.slices_have_results.ensures.all c.slices_have_results.ensures.skips c.slices_follow_the_rules.ensures.whole c.failures_are_named.ensures.each c.failures_are_named.ensures.all c.slices_follow_the_rules.ensures.failed
    _ _ all (record {
      checkpoints = at.checkpoints;
      stored_as = at.keeps.stored_as;
      so_far = at.keeps.so_far;
      stamp_is = at.keeps.stamp_is;
      rows_are = at.rows_are ∙ c.deref.ensures.value;
      results_are = at.partition_results_are ∙ sym c.parts_of-results.ensures.results;
      skips_are = named.skips;
      failures_are = named.failures;
      whole = λ is. whole_at law at (rw rows (ended.agrees.whole (rw (status.whole is) at ended.ends).1));
      failed = λ is. let fails = rw (status.failed is) at ended.ends in failed_at law at (stands.by fails) (rw rows (ended.agrees.failed fails)) (rw rows (ended.agrees.ended fails));
    })

pub returns-clause-agrees : goal.returns-clause-agrees
returns-clause-agrees g c = rw c.parts_of-results.ensures.rows (elim c.in_ok-status.ensures.either [
  | inl done ↦ let both = whole_completed _ (c.requires.agrees.whole (rw (c.in_ok-status.ensures.whole done) at c.requires.ends).1) in (done ∙ sym both.0, both.1)
  | inr fails ↦ let failed = rw (c.in_ok-status.ensures.failed fails) at c.requires.ends in (fails ∙ sym (c.requires.agrees.failed failed), c.requires.agrees.ended failed)
])
