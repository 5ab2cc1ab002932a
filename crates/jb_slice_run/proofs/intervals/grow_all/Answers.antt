use Rattle.std.proofs.{Common.{◌<◌, length, map, get_or, take_all, add-one, refl, sym, ap, ◌∙◌, arith}, lemmas.List.{get_or-map, length-map, length-set, map-set}}
use Rattle.sqlite_trees.proofs.ListLemmas.{all-get_or}
use Rattle.jb_slice_run.{specs.Held.{new_output_grown, new_output_in, no_new_output}, specs.Strings.{IsOutputSmall}, proofs.Grown.{next_grown, none_grown, three_at, three_each}, proofs.Why.{why_on}}
use Rattle.jb_slice_run.proofs.intervals.grow_all.Goals as goal

pub loop-index-init : goal.loop-index-init
loop-index-init c = record { number = refl; grown = λ limits new small is. sym (none_grown (map new_output_in c.args.partitions.now)) }

pub loop-index-preserved : goal.loop-index-preserved
loop-index-preserved c =
    let ps = c.loop-index.partitions in
    let i = c.loop-index.index in
    let bs = map new_output_in c.args.partitions.now in
    let p = c.index-partitions-index.result in
    record {
      number = length-set ps i c.grow.new.new_output ∙ c.loop-index.invariant.number;
      grown = λ limits new small is.
          let within : i < length new = omega (arith, ap length is, three_each new, c.requires, c.loop-index-test.true) in
          let lists = three_at limits new i _ _ _ within (rw is at c.index-lists-index.is) (rw is at c.index-lists-index-in-loop-index.is) (rw is at c.index-lists-index-in-loop-index-2.is) in
          let was = c.loop-index.invariant.grown limits new small is in
          let at = get_or-map new_output_in ps i p no_new_output (omega (arith, c.loop-index.invariant.number, c.loop-index-test.true)) in
          let one = c.in_ok-grow.ensures.read (get_or new i no_new_output) (all-get_or IsOutputSmall new i no_new_output small within) lists.0 lists.1 lists.2 in
          let next = next_grown bs new i within (omega (arith, length-map c.args.partitions.now new_output_in, c.loop-index-test.true)) in
          map-set new_output_in ps i c.grow.new.new_output ∙ rw add-one (cc);
    }

pub returns-in_err-grow-clause-why : goal.returns-in_err-grow-clause-why
returns-in_err-grow-clause-why c =
    let i = c.loop-index.index in
    why_on c.from_residual.result c.in_err-grow.field-0.0 c.from_residual.ensures.1
    (λ none limits new is.
    let within : i < length new = omega (arith, ap length is, three_each new, c.requires, c.loop-index-test.true) in
    let lists = three_at limits new i _ _ _ within (rw is at c.index-lists-index.is) (rw is at c.index-lists-index-in-loop-index.is) (rw is at c.index-lists-index-in-loop-index-2.is) in
    none (get_or new i no_new_output) lists.1 lists.2)
    c.in_err-grow.ensures.why

pub returns-clause-read : goal.returns-clause-read
returns-clause-read c limits new small is =
    c.loop-index.invariant.grown limits new small is
    ∙ ap (new_output_grown (map new_output_in c.args.partitions.now)) (take_all c.loop-index.index new (omega (arith, ap length is, three_each new, c.requires, c.loop-index-test.false)))
