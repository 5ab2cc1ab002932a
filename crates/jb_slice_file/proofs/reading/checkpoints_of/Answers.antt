use Rattle.std.proofs.Common.{◌≡◌, refl, ap, sym, ◌∙◌, map, length, subst}
use Rattle.std.{proofs.lemmas.Result.{IfErr-weaker, IfOk-weaker}, specs.List.AllByRecursion}
use Rattle.sqlite_keyed.proofs.ListLemmas.{all-map}
use Rattle.jb_slice_file.specs.{Chain.chained, Numbered.{numbered, numbered_from}, Rows.{shown, shown_from}}
use Rattle.jb_slice_file.proofs.{Chains.never_altered, Read.{rows_once, shown_once}}
use Rattle.jb_slice_file.proofs.reading.checkpoints_of.Goals.{After-in_order}
use Rattle.jb_slice_file.proofs.reading.checkpoints_of.Goals as goal

-- rows that are those of a list are those that were found
found_are : (c : After-in_order) (all : _) → c.args.rows.now ≡ shown_from 1 all → map numbered c.in_ok-found.found.items ≡ numbered_from 1 all
found_are c all is = rows_once _ _ (sym (c.in_ok-found.ensures.read (subst (AllByRecursion (λ row. length row ≡ 4)) (sym is) (all-map (λ row. length row ≡ 4) shown (λ x. refl) (numbered_from 1 all)))) ∙ is)

pub returns-clause-list : goal.returns-clause-list
returns-clause-list c all is = IfOk-weaker c.in_order.result _ _ (λ r list. shown_once _ all (sym (ap (map shown) list) ∙ ap (map shown) (found_are c (chained all) is))) c.in_order.ensures.list

pub returns-clause-intact : goal.returns-clause-intact
returns-clause-intact c all is = IfErr-weaker c.in_order.result _ _ (λ e at number named. never_altered number _ all (found_are c (chained all) is) (at number named)) c.in_order.ensures.altered

pub returns-clause-gap : goal.returns-clause-gap
returns-clause-gap c all is = IfErr-weaker c.in_order.result _ _ (λ e none gap. none gap all (found_are c all is)) c.in_order.ensures.gap
