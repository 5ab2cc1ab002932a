use Rattle.std.{proofs.Common.{◌≡◌, ◌∷◌, [], List, Option, Some, Bor, drop, map, append_assoc, ap, sym, ◌∙◌, rules, arith}, proofs.lemmas.List.{append-nil, map_push, nil_from_length}, specs.Prelude.{option_copied, slice_get}, specs.Vec.Iter.{into_iter_items}}
use Rattle.jb_slice_run.specs.Held.{new_output_in}
use Rattle.jb_slice_run.proofs.faults.all_new_output.Goals as goal

parted : {A : Type 0} (xs ys : List A) (o : Option (Bor A)) (x : Bor A) → option_copied o ≡ slice_get xs 0 → ys ≡ drop 1 xs → o ≡ Some x → xs ≡ x.now ∷ ys
parted xs ys o x first others is = grind arith

pub results-preserved : goal.results-preserved
results-preserved g c many can =
    let so = c.results.invariant many can in
    let next : into_iter_items c.results.one-iterator ≡ c.in-Some.one ∷ into_iter_items c.next.new.self = search rules in
    let rows = parted c.results.rows.now _ _ _ c.first_and_others-in-results.ensures.first c.first_and_others-in-results.ensures.others c.in-Some-first_row.is in
    let put = ap (map new_output_in) c.in_ok-push.ensures.items ∙ map_push new_output_in c.results.all.items c.in_ok-new_output_of.field-0 in
    let can-all = rw rows at so.can in
    let is = c.in_ok-new_output_of.ensures (rw c.first_and_others.ensures.first can-all.0) in
    record {
      many = omega (arith, rw (next, rows) at so.many);
      can = rw c.first_and_others.ensures.others can-all.1;
      new = λ ns are. rw (put, append_assoc) (so.new (new_output_in c.in_ok-new_output_of.field-0 ∷ ns) (rw (next, rows) (rw c.first_and_others.ensures.first at is, rw c.first_and_others.ensures.others at are)));
    }

pub returns : goal.returns
returns g c many can =
    let so = c.results.invariant many can in
    let none = nil_from_length (into_iter_items c.results.one-iterator) (search rules) in
    let rows = nil_from_length c.results.rows.now (sym (rw none at so.many)) in
    rw append-nil at (so.new [] (rw (none, rows) tt))
