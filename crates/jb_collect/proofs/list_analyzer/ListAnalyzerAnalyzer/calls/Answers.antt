use Rattle.std.proofs.Common.{ap, sym, ◌∙◌}
use Rattle.jb_collect.proofs.Listing.{calls_taken}
use Rattle.jb_collect.proofs.list_analyzer.ListAnalyzerAnalyzer.calls.Goals as goal

pub returns : goal.returns
returns c = c.as_slice.ensures ∙ ap (λ list. list.calls) c.self.view_is ∙ sym (calls_taken c.args.self.now)
