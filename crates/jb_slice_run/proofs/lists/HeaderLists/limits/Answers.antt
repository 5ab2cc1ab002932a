use Rattle.std.proofs.{Common.{get_or, ap, sym, ◌∙◌}, lemmas.Result.{MatchResult-weaker}}
use Rattle.jb_slice_run.{specs.Held.{limits_in}, proofs.Once.{limits_once}}
use Rattle.jb_slice_run.proofs.lists.HeaderLists.limits.Goals as goal

pub returns-clause-limits : goal.returns-clause-limits
returns-clause-limits c h is small =
    let list = c.index.ensures ∙ ap (λ l. get_or l 7 c.index.result.now) (c.self.view_is ∙ is) in
    MatchResult-weaker c.read_limits.result c.read_limits.ensures (λ limits told. limits_once (limits_in limits) h.limits told.1 small.limits (sym told.0 ∙ list)) (λ e told. told.1 h.limits list)
