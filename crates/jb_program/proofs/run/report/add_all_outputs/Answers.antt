use Rattle.std.proofs.Common.{◌≡◌, ◌++◌, ◌+◌, flat_map, map, take, ap, sym, ◌∙◌, append_assoc, arith}
use Rattle.std.specs.List.{enumerate_from}
use Rattle.std.specs.Str.Lossy.{utf8_lossy}
use Rattle.std.proofs.lemmas.List.{take_all}
use Rattle.jb_saved.specs.SavedTree.{tokens_of}
use Rattle.jb_texts.specs.Report.{results_tree}
use Rattle.jb_program.specs.StepRun.{committed_of}
use Rattle.jb_program.specs.inside.Written.{outputs_by, written_at}
use Rattle.jb_program.proofs.Told.{outputs-more}
use Rattle.jb_program.proofs.run.report.add_all_outputs.Goals as goal

pub loop-place-preserved : goal.loop-place-preserved
loop-place-preserved c =
    let outputs = c.args.outputs.now in
    let one = written_at outputs c.args.lists.items in
    let rows = c.args.rows.now in
    let k = c.loop-place.place in
    let row = c.in-Some.row.now in
    let old = c.args.text.now in
    let so_far = c.loop-place.invariant in
    let results = c.in_ok-results.ensures.results ∙ ap (outputs_by (committed_of outputs (k, row))) (so_far.others k (omega arith)) in
    record {
      text = c.in_ok-add_outputs.ensures ∙ ap (λ outs. c.loop-place.text ++ tokens_of (results_tree outs)) results ∙ ap (λ ts. ts ++ one (k, row)) so_far.text
          ∙ append_assoc old (flat_map one (enumerate_from 0 (take k rows))) (one (k, row))
          ∙ ap (λ r. old ++ (flat_map one (enumerate_from 0 (take k rows)) ++ one (k, r))) c.in-Some.ensures.lookup.1
          ∙ ap (λ ts. old ++ ts) (sym (outputs-more one rows k row c.loop-place-test.true));
      others = λ other later. c.take_results.ensures.others other (λ same. omega (arith, same, later)) ∙ so_far.others other (omega (arith, later));
    }

pub returns : goal.returns
returns c =
    let one = written_at c.args.outputs.now c.args.lists.items in
    c.loop-place.invariant.text ∙ ap (λ rows. c.args.text.now ++ flat_map one (enumerate_from 0 rows)) (take_all c.loop-place.place c.args.rows.now c.loop-place-test.false)
