-- The attempts of a steady function lead by the rules.
use Rattle.std.proofs.Common.{◌≡◌, ℕ, List, [], ◌∷◌, refl, ap, sym, subst, ◌∙◌}
use Rattle.jb_base.specs.Rules.{RulesRecord}
use Rattle.jb_chunk.specs.Alone.{IsOnTheWay, IsRunOf}
use Rattle.jb_chunk.specs.Attempt.{AttemptEnd, again_of, end_of, ending_by}
use Rattle.jb_chunk.specs.Laws.{RepeatsAreRetries, TasksStandAtCheckpoints, WaysJoin}
use Rattle.jb_chunk.specs.TaskState.{IsReady, TaskState}
use Rattle.jb_slices.specs.Deciding.{FailsDont, SkipsPass}
use Rattle.jb_records.specs.Following.{FollowsRules}
use Rattle.jb_records.specs.Function.{Function, IsSteady}
use Rattle.jb_records.specs.Runs.{HasResults, ResultsGoOn}
use Rattle.jb_records.proofs.Attempting.{attempt-follows, follows-same}
use Rattle.jb_records.proofs.Going.{repeated-task, repeats-have, same-task, way-on}

-- the row of the task follows the task's rules, which are these
record IsLed (f : Function) (rules : RulesRecord) (records : List (List ℕ)) (t : TaskState) : Type 0 where
  pub rules_are : t.rules ≡ rules
  pub follows : FollowsRules f rules records t.row

module _ (skip : SkipsPass) (fail : FailsDont) (stand : TasksStandAtCheckpoints) (join : WaysJoin) (law : RepeatsAreRetries) (goes : ResultsGoOn) where
  run-led : (f : Function) (records : List (List ℕ)) (rules : RulesRecord) (start : TaskState) → IsSteady f → IsReady start → HasResults f records start
      → (es : List AttemptEnd) (t s : TaskState) → IsOnTheWay start t → IsRunOf t es s → IsLed f rules records t → IsLed f rules records s
  run-led f records rules start steady ready begun [] t s way run led = subst (IsLed f rules records) (sym run) led
  run-led f records rules start steady ready begun (e ∷ es) t s way run led =
      let waiting = run.0 in
      let on = way-on join start t e.task e way waiting run.1 refl in
      let again = again_of t in
      let u = repeated-task t in
      let is : e ≡ ending_by u again (end_of u) = run.1 ∙ ap (λ (x : TaskState). ending_by x again (end_of x)) (same-task law t) in
      let has = goes f records start t ready begun way in
      let before = follows-same f rules records t.row u.row refl refl refl refl refl led.follows.failed led.follows in
      let own = subst (λ (r : RulesRecord). FollowsRules f r records u.row) (sym led.rules_are) before in
      let once = attempt-follows skip fail f records u again (end_of u) refl steady ((stand start t ready way).chunk waiting) (repeats-have f records t has) own in
      let here : IsLed f rules records (ending_by u again (end_of u)).task = record {
        rules_are = led.rules_are;
        follows = subst (λ (r : RulesRecord). FollowsRules f r records (ending_by u again (end_of u)).task.row) led.rules_are once;
      } in
      run-led f records rules start steady ready begun es e.task s on run.2 (subst (λ (x : AttemptEnd). IsLed f rules records x.task) (sym is) here)

  -- wherever they lead
  pub way-follows : (f : Function) (records : List (List ℕ)) (rules : RulesRecord) (t s : TaskState) → IsSteady f → IsReady t → HasResults f records t → t.rules ≡ rules → IsOnTheWay t s
      → FollowsRules f rules records t.row → FollowsRules f rules records s.row
  way-follows f records rules t s steady ready begun ruled way follows =
      (run-led f records rules t steady ready begun way.attempts t s (record { attempts = []; run = refl }) way.run (record { rules_are = ruled; follows = follows })).follows
