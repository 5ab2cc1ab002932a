-- A list of calls with its planned fault.
use Rattle.std.proofs.Common.{◌≡◌, ℕ, suc, ◌+◌, List, [], ◌∷◌, ◌++◌, length, map, Option, Some, None, Result, refl, ap, sym, ◌∙◌, arith, zero-add, subst}
use Rattle.std.specs.List.{enumerate_from}
use Rattle.jb_base.specs.declared.class.ClassId.{ClassId}
use Rattle.jb_base.specs.declared.artifact_error.ArtifactError.{ArtifactError}
use Rattle.jb_collect.specs.Listed.{Listed, planned_at, answer_with, answered_calls_of}
use Rattle.jb_collect.specs.AnsweredCalls.{AnsweredCall, TakesCall, calls_of, well}

module _ {C : Type 0} where
  -- the calls from a number on
  abbrev taken_from : Option (ℕ × ClassId) → ℕ → List C → List (AnsweredCall C)
  taken_from fault n calls = map (λ (k : ℕ × C). record { call = k.1; fault = planned_at fault k.0 }) (enumerate_from n calls)

  from_push : (fault : Option (ℕ × ClassId)) (n : ℕ) (calls : List C) (c : C) → taken_from fault n (calls ++ c ∷ []) ≡ taken_from fault n calls ++ record { call = c; fault = planned_at fault (n + length calls) } ∷ []
  from_push fault n [] c =
      let here : n ≡ n + 0 = omega arith in
      ap (λ (k : ℕ). record { call = c; fault = planned_at fault k } ∷ []) here
  from_push fault n (first ∷ rest) c =
      let next : (n + 1) + length rest ≡ n + suc (length rest) = omega arith in
      ap (λ (ts : List (AnsweredCall C)). record { call = first; fault = planned_at fault n } ∷ ts)
      (from_push fault (n + 1) rest c ∙ ap (λ (k : ℕ). taken_from fault (n + 1) rest ++ record { call = c; fault = planned_at fault k } ∷ []) next)

  pub taken_push : (fault : Option (ℕ × ClassId)) (calls : List C) (c : C) → answered_calls_of (record { calls = calls ++ c ∷ []; fault = fault }) ≡ answered_calls_of (record { calls = calls; fault = fault }) ++ record { call = c; fault = planned_at fault (length calls) } ∷ []
  taken_push fault calls c =
      from_push fault 0 calls c ∙ ap (λ (k : ℕ). taken_from fault 0 calls ++ record { call = c; fault = planned_at fault k } ∷ []) (zero-add (length calls))

  from_calls : (fault : Option (ℕ × ClassId)) (n : ℕ) (calls : List C) → calls_of (taken_from fault n calls) ≡ calls
  from_calls fault n [] = refl
  from_calls fault n (c ∷ rest) = ap (λ (cs : List C). c ∷ cs) (from_calls fault (n + 1) rest)

  -- calls that were all answered well
  pub well_calls : (calls : List C) → calls_of (map well calls) ≡ calls
  well_calls [] = refl
  well_calls (c ∷ rest) = ap (λ (cs : List C). c ∷ cs) (well_calls rest)

  pub calls_taken : (list : Listed C) → calls_of (answered_calls_of list) ≡ list.calls
  calls_taken list = from_calls list.fault 0 list.calls

  -- one call more is taken with the fault that is planned for it
  planned_one : (before : List (AnsweredCall C)) (call : C) (o : Option ClassId) → TakesCall before call (answer_with o) (before ++ record { call = call; fault = o } ∷ [])
  planned_one before call None = refl
  planned_one before call (Some class) = refl

  pub takes_planned : (list : Listed C) (calls : List C) (call : C) (number : ℕ) (fault : Option ClassId) (kept : Option (ℕ × ClassId)) (result : Result (Unit {0}) ArtifactError) → calls ≡ list.calls ++ call ∷ [] → number ≡ length list.calls → fault ≡ planned_at list.fault number → kept ≡ list.fault → result ≡ answer_with fault → TakesCall (answered_calls_of list) call result (answered_calls_of (record { calls = calls; fault = kept }))
  takes_planned list calls call number fault kept result pushed counted planned stays answered =
      let at : fault ≡ planned_at list.fault (length list.calls) = planned ∙ ap (planned_at list.fault) counted in
      let grown : answered_calls_of (record { calls = calls; fault = kept }) ≡ answered_calls_of list ++ record { call = call; fault = fault } ∷ [] =
      ap (λ (planned : Option (ℕ × ClassId)). answered_calls_of (record { calls = calls; fault = planned })) stays
      ∙ ap (λ (cs : List C). answered_calls_of (record { calls = cs; fault = list.fault })) pushed ∙ taken_push list.fault list.calls call
      ∙ ap (λ (o : Option ClassId). answered_calls_of list ++ record { call = call; fault = o } ∷ []) (sym at) in
      subst (λ (after : List (AnsweredCall C)). TakesCall (answered_calls_of list) call result after) (sym grown)
      (subst (λ (r : Result (Unit {0}) ArtifactError). TakesCall (answered_calls_of list) call r (answered_calls_of list ++ record { call = call; fault = fault } ∷ [])) (sym answered)
      (planned_one (answered_calls_of list) call fault))
