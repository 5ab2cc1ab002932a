use Rattle.std.proofs.Common.{inl, inr, map, refl, sym, subst, ◌∙◌}
use Rattle.jb_records.specs.{Function.{steady}, PartitionResults.{AreAtTheirEnds}}
use Rattle.jb_slice_file.{specs.CheckpointBytes.{checkpoint_bytes}, proofs.Handed.{handed_on}}
use Rattle.jb_slice_run.{specs.Held.{new_output_in}, specs.Work.{HaveRowsEnded}, proofs.RowsEnded.{whole-again}, proofs.Working.{gone-on, no-bytes}}
use Rattle.jb_slice_run.proofs.resumable_run.next_interval.Goals as goal

pub returns : goal.returns
returns g c =
    let run = c.in_ok-run.ensures in
    let answered = rw (c.rules.ensures, c.in-Some.ensures.0, c.deref.ensures.value, c.deref-2.ensures.value) at c.in_ok-new_output.ensures in
    let faults = rw (c.deref-3.ensures.value, c.deref-4.ensures.value) at c.in_ok-faults.ensures in
    record {
      stage = refl;
      agrees = record {
        failed = λ failed. sym run.status ∙ c.has_run_failed.ensures.failed failed;
        ended = λ failed. subst HaveRowsEnded c.deref-5.ensures.value (c.has_run_failed.ensures.ended failed);
        kept = λ _. refl;
        whole = λ whole. (whole-again c.in_ok-run.interval.snapshot.rows.items).1 (subst AreAtTheirEnds run.made.rows whole);
      };
      own = tt;
      on = λ functions all from-there.
          gone-on c.rules_are_kept.ensures.items (map new_output_in c.in_ok-new_output.new_output.items) c.args.job.now.some (run.goes_on (steady (g.F.RowFunction.answer c.args.function.now)) c.args.items.now) run.made.rows run.made.rules_are answered functions all from-there
          (checkpoint_bytes c.in_ok-checkpoint.checkpoint) (λ i same new are. c.in_ok-checkpoint.ensures.kept i _ same new run.saved are) faults;
      why = λ functions all from-there. tt;
    }

-- ---- why it has no checkpoint

pub returns-in_default-clause-why : goal.returns-in_default-clause-why
returns-in_default-clause-why g c functions all from-there = rw (c.in_default.is, c.len.ensures) at c.first_item.ensures

pub returns-in_err-run-clause-why : goal.returns-in_err-run-clause-why
returns-in_err-run-clause-why g c functions all from-there =
    handed_on _ _ _ c.from_residual.ensures.1 (c.in_err-run.ensures.why (steady (g.F.RowFunction.answer c.args.function.now)) c.args.items.now (elim from-there [ inl at ↦ at.0.runs.stands | inr at ↦ at.runs.stands ]))

pub returns-in_err-checkpoint-clause-why : goal.returns-in_err-checkpoint-clause-why
returns-in_err-checkpoint-clause-why g c functions all from-there =
    let run = c.in_ok-run.ensures in
    let answered = rw (c.rules.ensures, c.in-Some.ensures.0, c.deref.ensures.value, c.deref-2.ensures.value) at c.in_ok-new_output.ensures in
    handed_on _ _ _ c.from_residual-in_err-checkpoint.ensures.1
    (no-bytes c.rules_are_kept.ensures.items (map new_output_in c.in_ok-new_output.new_output.items) c.args.job.now.some (run.goes_on (steady (g.F.RowFunction.answer c.args.function.now)) c.args.items.now) run.made.rows run.made.rules_are answered functions all from-there _ c.in_err-checkpoint.ensures.why)
