use Rattle.std.proofs.Common.{◌≡◌, Some, rules}
use Rattle.std.proofs.lemmas.Result.{IfOk-weaker}
use Rattle.jb_records.proofs.Following.{goes-on-by}
use Rattle.jb_records.proofs.Answered.{ok-all}
use Rattle.jb_records.proofs.Resuming.{if-some, stopped-run}
use Rattle.jb_records.proofs.run.begun.Goals as goal

pub returns-in_ok-saved-in-Some-clause-goes_on : goal.returns-in_ok-saved-in-Some-clause-goes_on
returns-in_ok-saved-in-Some-clause-goes_on c =
    let own = c.in-Some.earlier in
    let is : c.args.earlier.now ≡ Some own = search rules in
    if-some c.args.earlier.now own _ is
    (IfOk-weaker c.begin-in-Some.result _ _ (λ job goes f stopped. goes f (stopped-run f c.args.records.now own.saved.now _ own.results.now c.in_ok-saved-in-Some.ensures stopped)) c.begin-in-Some.ensures.goes_on)

pub returns-in_ok-saved-in-Some-clause-goes_on_by_rules : goal.returns-in_ok-saved-in-Some-clause-goes_on_by_rules
returns-in_ok-saved-in-Some-clause-goes_on_by_rules c =
    let own = c.in-Some.earlier in
    let is : c.args.earlier.now ≡ Some own = search rules in
    let begun = c.begin-in-Some.ensures in
    if-some c.args.earlier.now own _ is
    (ok-all c.begin-in-Some.result begun.resumed begun.begun begun.goes_on
    (λ job rows made goes f given. goes-on-by f c.args.step.now.rules c.args.records.now own.saved.now c.in_ok-saved-in-Some.saved own.results.now job.prepared job.results.items c.in_ok-saved-in-Some.ensures rows made.prepared.rules
    (λ stopped. goes f (stopped-run f c.args.records.now own.saved.now _ own.results.now c.in_ok-saved-in-Some.ensures stopped)) given))
