use Rattle.std.proofs.Common.{◌≡◌, ◌∙◌, ◌∷◌, ap, map, rules, sym, Some}
use Rattle.std.proofs.lemmas.List.{nil_from_length}
use Rattle.std.proofs.lemmas.Option.{slice_get_past}
use Rattle.jb_records.proofs.Begun.{artifacts-more}
use Rattle.jb_records.proofs.Sharing.{found}
use Rattle.jb_records.proofs.artifacts.+artifacts_for.Goals as goal

pub returns-clause-artifacts : goal.returns-clause-artifacts
returns-clause-artifacts g t c =
    let made : c.insert.new.self.items ≡ c.in_ok-artifacts.artifacts ∷ c.in_ok-all.all.items = search rules in
    let lookup = c.in-Some-get.ensures.lookup in
    let share = found c.args.partition_results.now _ _ lookup.0 lookup.1 ∙ ap Some (sym c.in_ok-artifacts.ensures.results) in
    artifacts-more _ _ _ _ _ _ _ _ _ _ _ _ c.in-Some.ensures.cases.0 (ap (map _) made) c.in-Some-row.ensures c.in_ok-artifacts.ensures.artifacts share c.in_ok-all.ensures.artifacts

pub returns-in_default-clause-artifacts : goal.returns-in_default-clause-artifacts
returns-in_default-clause-artifacts g t c = rw (nil_from_length c.args.partitions.now c.in_default.ensures.cases, c.new.ensures.items) tt

pub unreachable-requires-in_default-get : goal.unreachable-requires-in_default-get
unreachable-requires-in_default-get g t c =
    let own = rw c.in-Some.ensures.cases.0 at c.requires in
    let none = slice_get_past c.args.partition_results.now c.in-Some.partition.now c.in_default-get.ensures.lookup.3 in
    let given = own.0.1.given in
    cc
