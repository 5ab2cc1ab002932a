use Rattle.std.proofs.{Common.{arith, map, sym, subst, ap, ◌∙◌}, lemmas.List.{length-map}}
use Rattle.jb_slice_run.{specs.Strings.{all_new_output, new_output_of, AreLimitsSmall, AreOutputsSmall, interval_lists}, specs.Coding.{AreCodable, coded}, specs.Held.{new_output_in}, proofs.Grown.{three_each}}
use Rattle.jb_slice_run.proofs.writing.interval_checkpoint.Goals as goal

pub returns-clause-kept : goal.returns-clause-kept
returns-clause-kept c i held limits new_output read rows =
    let given = c.deref.ensures.value ∙ c.in_ok-lists.ensures.lists ∙ ap (λ l. interval_lists l (map new_output_in c.args.partitions.items)) (sym limits) ∙ ap (interval_lists i.limits) (sym new_output) in
    record {
      small = subst AreLimitsSmall (sym limits) c.in_ok-lists.ensures.small.0;
      new_output_small = subst AreOutputsSmall (sym new_output) c.in_ok-lists.ensures.small.1;
      held = held;
      read = read;
      rows = rows;
      lists = record { codable = subst AreCodable given c.in_ok-results.ensures.fits; coding = c.in_ok-results.ensures.coded ∙ ap coded given; number = omega (arith, three_each (all_new_output i.partitions), length-map i.partitions new_output_of) };
    }
