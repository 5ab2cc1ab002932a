use Rattle.std.proofs.Common.{List, map, refl, ap, sym, ◌∙◌}
use borrow.Pointer.Hide.{carried_sameᵐ}
use denote.Param.Object.{read_made}
use Rattle.jb_collect.specs.declared.calls.ReducerCall.{ReducerCall}
use Rattle.jb_collect.specs.AnsweredCalls.{AnsweredCall, calls_of, well}
use Rattle.jb_collect.specs.ReducerCalls.{calls_before}
use Rattle.jb_step.specs.preparing.Prepare.{overrides_by}
use Rattle.jb_program.proofs.Callbacks.{well-calls}
use Rattle.jb_program.proofs.Prepared.{begun, other-refusal}
use Rattle.jb_program.proofs.run.preparing.prepared_by.Goals as goal
use Rattle.jb_program.proofs.run.preparing.prepared_by.OwnLists as own

pub returns-in-Ok-clause-begun : goal.returns-in-Ok-clause-begun
returns-in-Ok-clause-begun g c =
    begun _ _ c.args.reducer.now c.reducer-2-1.given.0 _ c.in-Ok.ensures.grew
    (ap calls_of c.in-Ok.ensures.calls ∙ well-calls _ ∙ ap (λ mapped. calls_before (overrides_by mapped c.args.saved)) c.requires.mapped)
    (carried_sameᵐ _ _ own.entry-2-1 (own.own-2.entry own.at-2-1) own.same-2-1 (List (AnsweredCall ReducerCall)) (λ j y. j.1.reduced y.now) _)
    (read_made own.own-2 own.entry-2-1 own.at-2-1 own.same-2-1 (List (AnsweredCall ReducerCall)) (λ j y. j.1.reduced y) own.at-2-1 c.prepare.new.reducer c.reducer-1.given.0.now c.reducer-1.given.2
    ∙ sym (ap (map well) (c.reducer-2-1.given.1 refl)))

pub unreachable-requires : goal.unreachable-requires
unreachable-requires g c =
    other-refusal c.args.step.now c.args.records _ c.args.saved _ _ c.prepare.new.reducer c.in-Err.error c.in-Err.ensures.grew c.requires.mapped c.in-Err.ensures.refused c.in_default.not-Plan c.in_default.not-Saved c.in_default.not-Memory
