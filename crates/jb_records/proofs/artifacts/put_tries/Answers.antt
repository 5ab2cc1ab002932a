use Rattle.std.proofs.Common.{◌≡◌, ◌∙◌, false, length, ap, rules}
use Rattle.std.proofs.lemmas.Result.{on_ok_weaker}
use Rattle.std.specs.Prelude.{◌==◌}
use Rattle.jb_artifacts.specs.declared.faults.FaultPlan.TheVariants.{Shaky}
use Rattle.jb_artifacts.specs.Faults.{plans_of, with_plan}
use Rattle.jb_records.proofs.Trying.{some-put}
use Rattle.jb_records.proofs.artifacts.put_tries.Goals as goal

pub returns : goal.returns
returns c =
    let plans = plans_of c.args.tries.now in
    let some : false ≡ (length c.args.classes.items == 0) = search rules in
    on_ok_weaker c.insert.result
    (λ put. some-put plans (plans_of c.insert.new.self) c.args.number c.args.classes.items some (put ∙ ap (λ classes. with_plan plans c.args.number (Shaky classes)) c.from_vec.ensures))
    c.insert.ensures.ok
