use Rattle.std.proofs.Common.{◌∙◌, ap}
use Rattle.sales.specs.Amounts.{with_amount}
use Rattle.sales.proofs.ByName.{insert-shown, shown}
use Rattle.sales.proofs.amounts.Amounts.put.Goals as goal

pub returns : goal.returns
returns c =
    ap (shown (λ name. name.items)) c.in_ok-insert.ensures.entries
    ∙ insert-shown (λ name. name.items) c.self.inside.by_name.entries c.in_ok-name.name c.args.cents
    ∙ ap (λ name. with_amount (shown (λ name. name.items) c.self.inside.by_name.entries) name c.args.cents) c.in_ok-name.ensures.items
    ∙ ap (λ amounts. with_amount amounts c.args.name.now c.args.cents) c.self.view_is
