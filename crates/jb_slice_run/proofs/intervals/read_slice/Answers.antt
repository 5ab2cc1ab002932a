use Rattle.jb_slice_run.{specs.SliceBytes.{IsStoredAs}, proofs.RowsGrown.{as-many}, specs.Held.{limits_in, limits_led, new_output_grown, new_output_in, new_output_led, no_new_output}, specs.Strings.{all_new_output}, proofs.Grown.{nth_interval}, proofs.Why.{why_on}}
use Rattle.jb_slice_file.specs.CheckpointBytes.{checkpoint_bytes}
use Rattle.std.proofs.{Common.{◌≡◌, ◌++◌, length, map, suc, take, drop, add-one, refl, arith, rules, sym, ap, ◌∙◌}, Math.Seq.{take-append_seam}, lemmas.List.{drop_all, length-map, length-replicate}}
use Rattle.jb_slice_run.proofs.intervals.read_slice.Goals as goal

pub loop-checkpoint-init : goal.loop-checkpoint-init
loop-checkpoint-init c = record {
  number = sym (length-map c.in_ok-partitions.partitions.items new_output_in) ∙ ap length c.in_ok-partitions.ensures ∙ length-replicate c.args.count no_new_output;
  read = λ cs so all. (refl, ap (λ ns. new_output_led ns cs) c.in_ok-partitions.ensures);
}

pub loop-checkpoint-preserved : goal.loop-checkpoint-preserved
loop-checkpoint-preserved c =
    let i = c.loop-checkpoint.checkpoint-index in
    let new = c.read_interval.new.partitions in
    let number : c.loop-checkpoint.partitions.len ≡ length new = search rules in
    let back = ap (λ k. take k (new ++ drop (length new) c.loop-checkpoint.partitions.items)) number ∙ take-append_seam new _ in
    record {
      number = ap length back ∙ c.in_ok-last.ensures.number;
      read = λ cs so all.
          let at = nth_interval c.args.count cs c.args.later.now i c.checkpoint-item.result so all c.loop-checkpoint-test.true c.checkpoint-item.is in
          let last = c.in_ok-last.ensures.read at.0 at.1 at.2 in
          let before = c.loop-checkpoint.invariant.read cs so all in
          let grown = ap (map new_output_in) back ∙ last.1 ∙ ap (λ ns. new_output_grown (map new_output_in ns) (all_new_output at.0.partitions)) c.deref_mut.ensures.value in
          rw add-one (
            ap (λ l. limits_led l (drop (suc i) cs)) last.0 ∙ sym (ap (limits_led (limits_in c.loop-checkpoint.last)) at.3) ∙ before.0,
            ap (λ ns. new_output_led ns (drop (suc i) cs)) grown ∙ sym (ap (new_output_led (map new_output_in c.loop-checkpoint.partitions.items)) at.3) ∙ before.1,
          );
    }

pub returns-in_err-last-clause-why : goal.returns-in_err-last-clause-why
returns-in_err-last-clause-why c =
    why_on c.from_residual-in_err-last.result c.in_err-last.field-0.0 c.from_residual-in_err-last.ensures.1
    (λ none cs so all.
    let at = nth_interval c.args.count cs c.args.later.now c.loop-checkpoint.checkpoint-index c.checkpoint-item.result so all c.loop-checkpoint-test.true c.checkpoint-item.is in
    none at.0 at.1 at.2)
    c.in_err-last.ensures.why

pub returns-clause-read : goal.returns-clause-read
returns-clause-read c cs so all =
    let at = rw (drop_all c.loop-checkpoint.checkpoint-index cs (omega (arith, as-many IsStoredAs cs (map checkpoint_bytes c.args.later.now) so, length-map c.args.later.now checkpoint_bytes, c.loop-checkpoint-test.false))) at (c.loop-checkpoint.invariant.read cs so all) in
    record { limits = at.0; new_output = at.1 }
