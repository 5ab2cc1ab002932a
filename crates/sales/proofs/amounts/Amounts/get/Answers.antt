use Rattle.std.proofs.Common.{◌∙◌, ap}
use Rattle.sales.specs.Amounts.{amount_at}
use Rattle.sales.proofs.ByName.{lookup-shown}
use Rattle.sales.proofs.amounts.Amounts.get.Goals as goal

pub returns : goal.returns
returns c = c.copied.ensures ∙ c.get.ensures.value ∙ lookup-shown (λ name. name.items) c.self.inside.by_name.entries c.args.name.now ∙ ap (λ amounts. amount_at amounts c.args.name.now) c.self.view_is
