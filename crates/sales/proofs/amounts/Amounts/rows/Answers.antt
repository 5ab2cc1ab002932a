use Rattle.std.proofs.Common.{rules, ◌≡◌, ◌∙◌, ap, map}
use Rattle.std.proofs.lemmas.Map.Iter.{iter_end}
use Rattle.std.specs.Map.Iter.{deref_pair}
use Rattle.sales.specs.Totals.{record_of}
use Rattle.sales.proofs.ByName.{records-lent, shown}
use Rattle.sales.proofs.amounts.Amounts.rows.Goals as goal

pub returns : goal.returns
returns c =
    let whole : map deref_pair c.loop-name.yielded ≡ c.self.inside.by_name.entries = search (rules, iter_end) in
    c.loop-name.invariant ∙ records-lent (λ name. name.items) c.loop-name.yielded
    ∙ ap (λ entries. map record_of (shown (λ name. name.items) entries)) whole ∙ ap (λ amounts. map record_of amounts) c.self.view_is
