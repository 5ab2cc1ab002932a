use Rattle.std.proofs.Common.{IfErr, IfOk, List, ap, map, refl, sym, ◌∙◌}
use borrow.Pointer.Hide.{carried_sameᵐ}
use Rattle.jb_collect.specs.declared.calls.AnalyzerCall.{AnalyzerCall}
use Rattle.jb_collect.specs.declared.calls.ReducerCall.{ReducerCall}
use Rattle.jb_collect.specs.AnsweredCalls.{AnsweredCall, Grew, since}
use Rattle.jb_step.specs.Answers.{given_back, AreCallsAfter, AreCallsUndone, IsRunOfStep, IsStatus}
use Rattle.jb_step.specs.Headline.{Headline}
use Rattle.jb_step.proofs.calls.Pooling.{both-given-back, given-back, same-calls}
use Rattle.jb_step.proofs.pooled.run_in.Goals as goal
use Rattle.jb_step.proofs.pooled.run_in.OwnLists as own

pub returns-clause-run : goal.returns-clause-run
returns-clause-run g c =
    given-back (λ before after. IfOk c.run_step_by-end.result (λ end. IsRunOfStep (record {
      setup = c.args.prepared;
      artifacts = map g.T.Artifacts.Meaning.meaning c.args.artifacts.items;
      round_limit = c.args.round_limit;
      heard_before = before;
      heard_after = after;
      notes = end.plans.items;
      snapshot = end.snapshot;
      left = given_back g.T.Artifacts.Meaning.meaning end.artifacts.items;
    }))) _ c.args.analyzer.now c.run_step_by-end.new.analyzer _ c.run_step_by-end.ensures.run
    (carried_sameᵐ _ _ own.entry-1-1 (own.own-1.entry own.at-1-1) own.same-1-1 (List (AnsweredCall AnalyzerCall)) (λ j y. j.1.analyzed y.now) _)
    (c.analyzer-2-1.given.1 refl ∙ same-calls _ c.run_step_by-end.new.analyzer (sym (carried_sameᵐ _ _ own.entry-1-1 (own.own-1.entry own.at-1-1) own.same-1-1 (List (AnsweredCall AnalyzerCall)) (λ j y. j.1.analyzed y.now) c.analyzer-1.given.0)
    ∙ ap (λ x. (own.own-1.entry x.now.0).1.analyzed x.now.1) c.analyzer-1.given.1))

pub returns-clause-headline : goal.returns-clause-headline
returns-clause-headline g c =
    given-back (λ before after. IfOk c.run_step_by-end.result (λ end. Headline (record {
      setup = c.args.prepared;
      artifacts = map g.T.Artifacts.Meaning.meaning c.args.artifacts.items;
      round_limit = c.args.round_limit;
      heard_before = before;
      heard_after = after;
      notes = end.plans.items;
      snapshot = end.snapshot;
      left = given_back g.T.Artifacts.Meaning.meaning end.artifacts.items;
    }))) _ c.args.analyzer.now c.run_step_by-end.new.analyzer _ c.run_step_by-end.ensures.headline
    (carried_sameᵐ _ _ own.entry-1-1 (own.own-1.entry own.at-1-1) own.same-1-1 (List (AnsweredCall AnalyzerCall)) (λ j y. j.1.analyzed y.now) _)
    (c.analyzer-2-1.given.1 refl ∙ same-calls _ c.run_step_by-end.new.analyzer (sym (carried_sameᵐ _ _ own.entry-1-1 (own.own-1.entry own.at-1-1) own.same-1-1 (List (AnsweredCall AnalyzerCall)) (λ j y. j.1.analyzed y.now) c.analyzer-1.given.0)
    ∙ ap (λ x. (own.own-1.entry x.now.0).1.analyzed x.now.1) c.analyzer-1.given.1))

pub returns-clause-status : goal.returns-clause-status
returns-clause-status g c =
    both-given-back (λ a b r s. IfOk c.run_step_by-end.result (λ end. IsStatus end.snapshot (since a b) (since r s) end.status)) _ c.args.analyzer.now c.run_step_by-end.new.analyzer _ _ c.args.reducer.now c.run_step_by-end.new.reducer _ c.run_step_by-end.ensures.status
    (carried_sameᵐ _ _ own.entry-1-1 (own.own-1.entry own.at-1-1) own.same-1-1 (List (AnsweredCall AnalyzerCall)) (λ j y. j.1.analyzed y.now) _)
    (c.analyzer-2-1.given.1 refl ∙ same-calls _ c.run_step_by-end.new.analyzer (sym (carried_sameᵐ _ _ own.entry-1-1 (own.own-1.entry own.at-1-1) own.same-1-1 (List (AnsweredCall AnalyzerCall)) (λ j y. j.1.analyzed y.now) c.analyzer-1.given.0)
    ∙ ap (λ x. (own.own-1.entry x.now.0).1.analyzed x.now.1) c.analyzer-1.given.1))
    (carried_sameᵐ _ _ own.entry-2-1 (own.own-2.entry own.at-2-1) own.same-2-1 (List (AnsweredCall ReducerCall)) (λ j y. j.1.reduced y.now) _)
    (c.reducer-2-1.given.1 refl ∙ same-calls _ c.run_step_by-end.new.reducer (sym (carried_sameᵐ _ _ own.entry-2-1 (own.own-2.entry own.at-2-1) own.same-2-1 (List (AnsweredCall ReducerCall)) (λ j y. j.1.reduced y.now) c.reducer-1.given.0)
    ∙ ap (λ x. (own.own-2.entry x.now.0).1.reduced x.now.1) c.reducer-1.given.1))

pub returns-clause-reducer : goal.returns-clause-reducer
returns-clause-reducer g c =
    both-given-back (λ a b r s. IfOk c.run_step_by-end.result (λ end. AreCallsAfter end.snapshot (since a b) (since r s))) _ c.args.analyzer.now c.run_step_by-end.new.analyzer _ _ c.args.reducer.now c.run_step_by-end.new.reducer _ c.run_step_by-end.ensures.reducer
    (carried_sameᵐ _ _ own.entry-1-1 (own.own-1.entry own.at-1-1) own.same-1-1 (List (AnsweredCall AnalyzerCall)) (λ j y. j.1.analyzed y.now) _)
    (c.analyzer-2-1.given.1 refl ∙ same-calls _ c.run_step_by-end.new.analyzer (sym (carried_sameᵐ _ _ own.entry-1-1 (own.own-1.entry own.at-1-1) own.same-1-1 (List (AnsweredCall AnalyzerCall)) (λ j y. j.1.analyzed y.now) c.analyzer-1.given.0)
    ∙ ap (λ x. (own.own-1.entry x.now.0).1.analyzed x.now.1) c.analyzer-1.given.1))
    (carried_sameᵐ _ _ own.entry-2-1 (own.own-2.entry own.at-2-1) own.same-2-1 (List (AnsweredCall ReducerCall)) (λ j y. j.1.reduced y.now) _)
    (c.reducer-2-1.given.1 refl ∙ same-calls _ c.run_step_by-end.new.reducer (sym (carried_sameᵐ _ _ own.entry-2-1 (own.own-2.entry own.at-2-1) own.same-2-1 (List (AnsweredCall ReducerCall)) (λ j y. j.1.reduced y.now) c.reducer-1.given.0)
    ∙ ap (λ x. (own.own-2.entry x.now.0).1.reduced x.now.1) c.reducer-1.given.1))

pub returns-clause-undone : goal.returns-clause-undone
returns-clause-undone g c =
    given-back (λ r s. IfErr c.run_step_by-end.result (λ e. AreCallsUndone e (since r s))) _ c.args.reducer.now c.run_step_by-end.new.reducer _ c.run_step_by-end.ensures.undone
    (carried_sameᵐ _ _ own.entry-2-1 (own.own-2.entry own.at-2-1) own.same-2-1 (List (AnsweredCall ReducerCall)) (λ j y. j.1.reduced y.now) _)
    (c.reducer-2-1.given.1 refl ∙ same-calls _ c.run_step_by-end.new.reducer (sym (carried_sameᵐ _ _ own.entry-2-1 (own.own-2.entry own.at-2-1) own.same-2-1 (List (AnsweredCall ReducerCall)) (λ j y. j.1.reduced y.now) c.reducer-1.given.0)
    ∙ ap (λ x. (own.own-2.entry x.now.0).1.reduced x.now.1) c.reducer-1.given.1))

pub returns-clause-analyzer_grew : goal.returns-clause-analyzer_grew
returns-clause-analyzer_grew g c =
    given-back (λ a b. Grew a b) _ c.args.analyzer.now c.run_step_by-end.new.analyzer _ c.run_step_by-end.ensures.analyzer_grew
    (carried_sameᵐ _ _ own.entry-1-1 (own.own-1.entry own.at-1-1) own.same-1-1 (List (AnsweredCall AnalyzerCall)) (λ j y. j.1.analyzed y.now) _)
    (c.analyzer-2-1.given.1 refl ∙ same-calls _ c.run_step_by-end.new.analyzer (sym (carried_sameᵐ _ _ own.entry-1-1 (own.own-1.entry own.at-1-1) own.same-1-1 (List (AnsweredCall AnalyzerCall)) (λ j y. j.1.analyzed y.now) c.analyzer-1.given.0)
    ∙ ap (λ x. (own.own-1.entry x.now.0).1.analyzed x.now.1) c.analyzer-1.given.1))

pub returns-clause-reducer_grew : goal.returns-clause-reducer_grew
returns-clause-reducer_grew g c =
    given-back (λ r s. Grew r s) _ c.args.reducer.now c.run_step_by-end.new.reducer _ c.run_step_by-end.ensures.reducer_grew
    (carried_sameᵐ _ _ own.entry-2-1 (own.own-2.entry own.at-2-1) own.same-2-1 (List (AnsweredCall ReducerCall)) (λ j y. j.1.reduced y.now) _)
    (c.reducer-2-1.given.1 refl ∙ same-calls _ c.run_step_by-end.new.reducer (sym (carried_sameᵐ _ _ own.entry-2-1 (own.own-2.entry own.at-2-1) own.same-2-1 (List (AnsweredCall ReducerCall)) (λ j y. j.1.reduced y.now) c.reducer-1.given.0)
    ∙ ap (λ x. (own.own-2.entry x.now.0).1.reduced x.now.1) c.reducer-1.given.1))
