use Rattle.std.proofs.{Common.{get_or, ap, ◌∙◌}, lemmas.Bool.{MatchBool-at_false}}
use Rattle.jb_slice_run.proofs.lists.HeaderLists.refuse_others.Goals as goal

pub returns-then-not-has_stamp-clause-why : goal.returns-then-not-has_stamp-clause-why
returns-then-not-has_stamp-clause-why c h o held own sh so = (
  c.in_default.ensures o h own held so sh,
  c.has_same.ensures.same c.if-not-has_same.false o h own held so sh,
  c.has_same-2.ensures.same c.if-not-has_same-2.false o h own held so sh,
  c.has_same-3.ensures.same c.if-not-has_same-3.false o h own held so sh,
  MatchBool-at_false _ _ c.if-not-has_stamp.true (c.has_stamp.ensures o.stamp h.stamp (c.index.ensures ∙ ap (λ l. get_or l 6 c.index.result.now) (c.own.view_is ∙ own)) (c.index-2.ensures ∙ ap (λ l. get_or l 6 c.index-2.result.now) (c.self.view_is ∙ held))),
)
