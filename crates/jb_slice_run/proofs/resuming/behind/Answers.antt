use Rattle.std.{proofs.Common.{◌≡◌, [], ◌-◌, map, refl, sym, ap, ◌∙◌, string_bytes, Ok}, specs.Arc.{arc_value}}
use Rattle.jb_job.specs.Reading.{tree_of}
use Rattle.jb_saved.specs.Reading.{answer_of}
use Rattle.jb_records.specs.Function.{steady}
use Rattle.jb_slice_file.{specs.CheckpointBytes.{checkpoint_bytes}, proofs.Handed.{handed_on}}
use Rattle.jb_slice_run.{specs.Named.{faults_by}, proofs.Resumed.{underway}, proofs.Telling.{ok_once}, proofs.Holding.{output-read}, proofs.Refusing.{later-why, lowered-why, unbegun-after, unread}}
use Rattle.jb_slice_run.proofs.resuming.behind.Goals as goal

pub returns-clause-place : goal.returns-clause-place
returns-clause-place g c number first own =
    let last = checkpoint_bytes c.args.last.now in
    let before = c.requires.last.0 in
    let read = c.in_ok-held.ensures.read in
    let saved = c.in_ok-saved.saved in
    let text : answer_of (tree_of (string_bytes c.args.last.now.saved)) ≡ Ok saved = rw c.as_bytes.ensures.value at c.in_ok-saved.ensures in
    let again : c.as_bytes-2.result.now ≡ string_bytes c.args.last.now.saved = c.as_bytes-2.ensures.value in
    let results_are = c.in_ok-results.ensures.results in
    let behind = rw (again, results_are) at c.in_ok-run.ensures.behind in
    let rows_are = c.in_ok-rows.ensures.items ∙ c.rows.ensures.rows in
    record {
      stands = λ functions of keeps.
          underway c.rules_are_kept.ensures.items own before last c.requires.last.1 read text c.rows.ensures.kept.idle c.in_ok-refuse_lowered.ensures of keeps c.args.step.now _ c.in_ok-rows.rows.items c.requires.step.rules_are rows_are behind c.in_ok-run.ensures.by
          (λ so-far follow. c.in_ok-run.ensures.stands saved (rw again text) (rw results_are so-far) (λ steady. follow));
      holds = λ functions keeps cs kept. c.in_ok-results.ensures.faults ∙ ap (map faults_by) (output-read keeps own.limits read cs kept before last c.requires.last.1);
      agrees = record { failed = λ never. cc; ended = λ never. cc; kept = λ never. refl; whole = λ all. rw (rows_are, ← ok_once (sym behind.read ∙ text)) (behind.whole all) };
      fresh = refl;
      later = λ many. refl;
      own = own.own;
    }

-- ---- why it isn't

pub returns-in_err-held-clause-why : goal.returns-in_err-held-clause-why
returns-in_err-held-clause-why g c number first own = handed_on _ _ _ c.from_residual.ensures.1 (later-why _ _ _ _ _ _ _ c.in_err-held.ensures.why)

pub returns-in_err-refuse_lowered-clause-why : goal.returns-in_err-refuse_lowered-clause-why
returns-in_err-refuse_lowered-clause-why g c number first own = handed_on _ _ _ c.from_residual-in_err-refuse_lowered.ensures.1 (lowered-why _ _ _ _ own c.in_ok-held.ensures.read _ c.in_err-refuse_lowered.ensures)

pub returns-in_err-saved-clause-why : goal.returns-in_err-saved-clause-why
returns-in_err-saved-clause-why g c number first own =
    let why = unread (g.F.RowFunction.answer (arc_value c.args.function.now)) c.args.step.now c.args.items.now _ c.in_err-saved.field-0.0 (rw c.as_bytes.ensures.value at c.in_err-saved.ensures) in
    handed_on _ _ _ c.from_residual-in_err-saved.ensures.1 (unbegun-after _ _ number _ c.requires.step _ (checkpoint_bytes c.args.last.now) [] c.requires.last.1 why first)

pub returns-in_err-run-clause-why : goal.returns-in_err-run-clause-why
returns-in_err-run-clause-why g c number first own =
    handed_on _ _ _ c.from_residual-in_err-run.ensures.1
    (unbegun-after _ _ number _ c.requires.step _ (checkpoint_bytes c.args.last.now) _ c.requires.last.1 (rw c.as_bytes-2.ensures.value at c.in_err-run.ensures.why) first)
