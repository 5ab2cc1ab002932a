use Rattle.jb_step.proofs.calls.Begun.{since-begun}
use Rattle.jb_step.proofs.calls.Growing.{grew-call, grew-more}
use Rattle.jb_step.proofs.preparing.prepare.Goals as goal

pub returns-in-Ok-clause-refused : goal.returns-in-Ok-clause-refused
returns-in-Ok-clause-refused g c = rw (since-begun _ _ _ _ c.in-Ok.ensures c.prepare_begun.ensures.grew) c.prepare_begun.ensures.refused

pub returns-in-Ok-clause-calls : goal.returns-in-Ok-clause-calls
returns-in-Ok-clause-calls g c = rw (since-begun _ _ _ _ c.in-Ok.ensures c.prepare_begun.ensures.grew) c.prepare_begun.ensures.calls

pub returns-in-Ok-clause-overridden : goal.returns-in-Ok-clause-overridden
returns-in-Ok-clause-overridden g c = rw (since-begun _ _ _ _ c.in-Ok.ensures c.prepare_begun.ensures.grew) c.prepare_begun.ensures.overridden

pub returns-in-Ok-clause-grew : goal.returns-in-Ok-clause-grew
returns-in-Ok-clause-grew g c = grew-more _ _ _ (grew-call _ _ _ _ c.begin.ensures) c.prepare_begun.ensures.grew
