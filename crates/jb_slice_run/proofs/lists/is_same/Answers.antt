use Rattle.std.proofs.{lemmas.List.{take_more_same}, Common.{[], ◌≡◌, ◌<◌, length, rules, sym, subst, ◌∙◌}}
use Rattle.jb_slice_run.proofs.lists.is_same.Goals as goal

pub loop-index-preserved : goal.loop-index-preserved
loop-index-preserved c =
    let i = c.loop-index.index in
    let within = subst (λ n. i < n) c.len-index-end.ensures c.loop-index-test.true in
    let lengths : length c.args.list.now ≡ length c.args.other.now = sym c.len.ensures ∙ c.if-len.false ∙ c.len-2.ensures in
    let same : c.at.result.now ≡ c.at-in-loop-index.result.now = search rules in
    take_more_same c.args.list.now c.args.other.now i [] within (subst (λ n. i < n) lengths within) c.loop-index.invariant (sym c.at.ensures ∙ same ∙ c.at-in-loop-index.ensures)
