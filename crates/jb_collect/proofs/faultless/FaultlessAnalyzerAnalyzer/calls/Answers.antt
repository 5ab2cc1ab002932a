use Rattle.std.proofs.Common.{rules, ◌≡◌, sym, ◌∙◌}
use Rattle.jb_collect.proofs.Listing.{well_calls}
use Rattle.jb_collect.proofs.faultless.FaultlessAnalyzerAnalyzer.calls.Goals as goal

pub returns : goal.returns
returns c =
    let kept : c.as_slice.result.now ≡ c.args.self.now = search rules in
    kept ∙ sym (well_calls c.args.self.now)
