use Rattle.std.proofs.Common.{◌≡◌, None, rules}
use Rattle.std.proofs.lemmas.Result.{err_from_is_err_and}
use Rattle.jb_artifacts.specs.Prefix.{prefixed}
use Rattle.jb_artifacts.proofs.prefix_processor.PrefixProcessorPackingProcessor.pack_item.Goals as goal

pub returns-in_err-push_joined-clause-no_memory : goal.returns-in_err-push_joined-clause-no_memory
returns-in_err-push_joined-clause-no_memory c =
    let p = err_from_is_err_and c.from_residual.result c.from_residual.ensures.1 in
    let idle : c.strike.result ≡ None = search rules in
    rw (p.1, p.2) (
      (λ i. record { answer = λ _ item. prefixed c.args.self.now.prefix c.args.self.now.dropped item; faults = c.strike.ensures.sound idle i }),
      c.in_err-push_joined.ensures.err,
    )

pub returns-clause-answered : goal.returns-clause-answered
returns-clause-answered c = search rules
