-- The ranges of a step's partitions, and the steps of a job, one after another.
use Rattle.std.proofs.Common.{◌≡◌, ℕ, zero, suc, ◌+◌, ◌-◌, ◌<◌, List, [], ◌∷◌, ◌++◌, drop, flat_map, get_or, length, slice_get, cond, Bool, true, false, Option, None, inl, inr, ◌⊎◌, refl, ap, sym, subst, ◌∙◌, arith, append_assoc, append-nil}
use Rattle.std.specs.List.{remove, zip}
use Rattle.std.specs.Prelude.{bytes_eq}
use Rattle.std.proofs.Math.Seq.{drop-nil}
use Rattle.std.proofs.lemmas.List.{nil_from_length}
use Rattle.json.specs.Token.{Token}
use Rattle.jb_base.specs.declared.range.Range.{Range}
use Rattle.jb_job.specs.Records.{StepRecord}
use Rattle.jb_plan.specs.Ranges.{AreDisjoint, HaveNoneInCommon}
use Rattle.jb_documents.specs.declared.restart.resume.Resume.{Resume}
use Rattle.jb_saved.specs.declared.place.SavedPlace.{SavedPlace}
use Rattle.jb_documents.specs.declared.run.step_data.StepData.{StepData}
use Rattle.jb_collect.specs.declared.calls.Status.{Status}
use Rattle.jb_collect.specs.declared.calls.Status.TheVariants as status
use Rattle.jb_texts.specs.Report.{StepReport}
use Rattle.jb_texts.specs.ReportTokens.{step_tokens}
use Rattle.jb_program.specs.declared.streams.error.ProgramError.{ProgramError}
use Rattle.jb_program.specs.declared.streams.error.ProgramError.TheVariants as failure
use Rattle.jb_program.specs.JobRun.{AreStepReports, IsRefusedAtStep, IsStepRefused, IsStepReport, earlier, status_in}
use Rattle.jb_program.specs.Refusals.{Explains, RunningRounds}

same-at : (ranges : List Range) (j : ℕ) (d e : Range) → j < length ranges → get_or ranges j d ≡ get_or ranges j e
same-at [] j d e h = absurd (omega (arith, h))
same-at (range ∷ ranges) zero d e h = refl
same-at (range ∷ ranges) (suc j) d e h = same-at ranges j d e (omega (arith, h))

pub apart-at : (ranges : List Range) → AreDisjoint ranges → (i j : ℕ) (d e : Range) → i < j → j < length ranges → HaveNoneInCommon (get_or ranges i d) (get_or ranges j e)
apart-at ranges disjoint i j d e before within =
    let P : Range → Type 0 = λ other. HaveNoneInCommon (get_or ranges i d) other in
    subst P (same-at ranges j d e within) (disjoint i j d before within)

-- ---- steps

-- what these steps leave, where so many tokens were written before and so many behind them
abbrev pub LeftOf : List (StepRecord × StepData) → Option ℕ → Option Resume → Status → List Token → List Token → Type 0
LeftOf steps round_limit resume ended before after =
    (reports : List StepReport) × AreStepReports steps round_limit resume reports × (ended ≡ status_in (slice_get reports (length reports - 1))) × (after ≡ before ++ flat_map step_tokens reports)

abbrev pub Left : List StepRecord → List StepData → Option ℕ → Option Resume → Status → List Token → List Token → Type 0
Left steps supplies = LeftOf (zip steps supplies)

pub head-removed : (supplies : List StepData) (supply : StepData) → (length supplies ≡ 0 → ⊥) → supply ≡ get_or supplies 0 supply → supplies ≡ supply ∷ remove supplies 0
head-removed [] supply some is = absurd (some refl)
head-removed (first ∷ supplies) supply some is = ap (λ one. one ∷ supplies) (sym is)

last-of : (report : StepReport) (reports : List StepReport) → report.status ≡ status.Completed → status_in (slice_get reports (length reports - 1)) ≡ status_in (slice_get (report ∷ reports) (length (report ∷ reports) - 1))
last-of report [] is = sym is
last-of report (next ∷ reports) is =
    let one : suc (length reports) - 1 ≡ length reports = omega arith in
    let two : suc (suc (length reports)) - 1 ≡ suc (length reports) = omega arith in
    rw (one, two) refl

pub completed-more : (round_limit : Option ℕ) (resume : Option Resume) (steps rest : List StepRecord) (step : StepRecord) (supplies others : List StepData) (supply : StepData) (report : StepReport) (ended : Status) (before between after : List Token)
    → steps ≡ step ∷ rest → supplies ≡ supply ∷ others → IsStepReport step supply round_limit resume report → report.status ≡ status.Completed → between ≡ before ++ step_tokens report
    → Left rest others round_limit None ended between after → Left steps supplies round_limit resume ended before after
completed-more round_limit resume steps rest step supplies others supply report ended before between after steps-are supplies-are run completed written left =
    let P : List StepRecord → List StepData → Type 0 = λ ss ds. AreStepReports (zip ss ds) round_limit resume (report ∷ left.0) in
    let failed : (report.status ≡ status.Completed → ⊥) → left.0 ≡ [] = λ other. absurd (other completed) in
    let own : P (step ∷ rest) (supply ∷ others) = (run, (λ _. left.1), failed) in (
      report ∷ left.0,
      subst (λ ss. P ss supplies) (sym steps-are) (subst (λ ds. P (step ∷ rest) ds) (sym supplies-are) own),
      left.2 ∙ last-of report left.0 completed,
      left.3 ∙ ap (λ text. text ++ flat_map step_tokens left.0) written ∙ append_assoc before (step_tokens report) (flat_map step_tokens left.0),
    )

-- a step that isn't completed is the last one
pub other-last : (round_limit : Option ℕ) (resume : Option Resume) (steps rest : List StepRecord) (step : StepRecord) (supplies others : List StepData) (supply : StepData) (report : StepReport) (ended : Status) (before between : List Token)
    → steps ≡ step ∷ rest → supplies ≡ supply ∷ others → IsStepReport step supply round_limit resume report → ended ≡ report.status → (report.status ≡ status.Completed → ⊥) → between ≡ before ++ step_tokens report
    → Left steps supplies round_limit resume ended before between
other-last round_limit resume steps rest step supplies others supply report ended before between steps-are supplies-are run same other written =
    let P : List StepRecord → List StepData → Type 0 = λ ss ds. AreStepReports (zip ss ds) round_limit resume (report ∷ []) in
    let own : P (step ∷ rest) (supply ∷ others) = (run, (λ completed. absurd (other completed)), (λ _. refl)) in (
      report ∷ [],
      subst (λ ss. P ss supplies) (sym steps-are) (subst (λ ds. P (step ∷ rest) ds) (sym supplies-are) own),
      same,
      written ∙ ap (λ text. before ++ text) (sym (append-nil (step_tokens report))),
    )

-- ---- why there is none

-- a step is refused, or one behind it
pub first-refused : (round_limit : Option ℕ) (resume : Option Resume) (steps rest : List StepRecord) (step : StepRecord) (supplies others : List StepData) (supply : StepData) (e : ProgramError)
    → steps ≡ step ∷ rest → supplies ≡ supply ∷ others → Explains RunningRounds e ⊎ IsStepRefused step supply resume e → Explains RunningRounds e ⊎ IsRefusedAtStep (zip steps supplies) round_limit resume e
first-refused round_limit resume steps rest step supplies others supply e steps-are supplies-are (inl broken) = inl broken
first-refused round_limit resume steps rest step supplies others supply e steps-are supplies-are (inr refused) =
    inr (subst (λ ss. IsRefusedAtStep (zip ss supplies) round_limit resume e) (sym steps-are) (subst (λ ds. IsRefusedAtStep (zip (step ∷ rest) ds) round_limit resume e) (sym supplies-are) (inl refused)))

pub later-refused : (round_limit : Option ℕ) (resume : Option Resume) (steps rest : List StepRecord) (step : StepRecord) (supplies others : List StepData) (supply : StepData) (report : StepReport) (e : ProgramError)
    → steps ≡ step ∷ rest → supplies ≡ supply ∷ others → IsStepReport step supply round_limit resume report → report.status ≡ status.Completed
    → Explains RunningRounds e ⊎ IsRefusedAtStep (zip rest others) round_limit None e → Explains RunningRounds e ⊎ IsRefusedAtStep (zip steps supplies) round_limit resume e
later-refused round_limit resume steps rest step supplies others supply report e steps-are supplies-are run completed (inl broken) = inl broken
later-refused round_limit resume steps rest step supplies others supply report e steps-are supplies-are run completed (inr refused) =
    inr (subst (λ ss. IsRefusedAtStep (zip ss supplies) round_limit resume e) (sym steps-are) (subst (λ ds. IsRefusedAtStep (zip (step ∷ rest) ds) round_limit resume e) (sym supplies-are) (inr (report, run, completed, refused))))

-- a step that begins anew isn't refused for saved rows
pub never-saved : (steps : List (StepRecord × StepData)) (round_limit : Option ℕ) (place : SavedPlace) → IsRefusedAtStep steps round_limit None (failure.Saved place) → ⊥
never-saved [] round_limit place refused = refused
never-saved ((step, supply) ∷ steps) round_limit place (inl refused) = let none = refused.1 in cc
never-saved ((step, supply) ∷ steps) round_limit place (inr later) = never-saved steps round_limit place later.3

-- ---- the steps that were done before

drop-by : (same : Bool) (id : List ℕ) (steps : List StepRecord) (step : StepRecord) → same ≡ false → cond same 0 (earlier id steps + 1) ≡ suc (earlier id steps)
drop-by true id steps step is = absurd (cc is)
drop-by false id steps step is = let one : earlier id steps + 1 ≡ suc (earlier id steps) = omega arith in one

-- a step that has another id is left out
pub left-out : (id : List ℕ) (step : StepRecord) (steps : List StepRecord) → bytes_eq step.id id ≡ false → earlier id (step ∷ steps) ≡ suc (earlier id steps)
left-out id step steps is = drop-by (bytes_eq step.id id) id steps step is

first-by : (same : Bool) (n : ℕ) → same ≡ true → cond same 0 n ≡ 0
first-by true n is = refl
first-by false n is = absurd (cc is)

-- none is, where the first has the id
pub none-out : (id : List ℕ) (step : StepRecord) (steps : List StepRecord) → bytes_eq step.id id ≡ true → earlier id (step ∷ steps) ≡ 0
none-out id step steps is = first-by (bytes_eq step.id id) (earlier id steps + 1) is

-- the steps from the one of this id on are those behind a step of another id
pub from-later : (P : List (StepRecord × StepData) → Type 0) (id : List ℕ) (steps rest : List StepRecord) (step : StepRecord) (supplies others : List StepData) (supply : StepData)
    → steps ≡ step ∷ rest → supplies ≡ supply ∷ others → bytes_eq step.id id ≡ false
    → P (drop (earlier id rest) (zip rest others)) → P (drop (earlier id steps) (zip steps supplies))
from-later P id steps rest step supplies others supply steps-are supplies-are is later =
    let there : P (drop (earlier id (step ∷ rest)) (zip (step ∷ rest) (supply ∷ others))) =
    subst (λ k. P (drop k (zip (step ∷ rest) (supply ∷ others)))) (sym (left-out id step rest is)) later in
    subst (λ (ss : List StepRecord). P (drop (earlier id ss) (zip ss supplies))) (sym steps-are)
    (subst (λ (ds : List StepData). P (drop (earlier id (step ∷ rest)) (zip (step ∷ rest) ds))) (sym supplies-are) there)

-- or they begin with the first
pub from-here : (P : List (StepRecord × StepData) → Type 0) (id : List ℕ) (steps rest : List StepRecord) (step : StepRecord) (supplies : List StepData) → steps ≡ step ∷ rest → bytes_eq step.id id ≡ true
    → P (zip steps supplies) → P (drop (earlier id steps) (zip steps supplies))
from-here P id steps rest step supplies steps-are is here =
    let none : earlier id steps ≡ 0 = ap (earlier id) steps-are ∙ none-out id step rest is in
    subst (λ k. P (drop k (zip steps supplies))) (sym none) here

-- where there are no steps, or no data, none runs
no-pairs : (steps : List StepRecord) → zip {X = StepData} steps [] ≡ []
no-pairs [] = refl
no-pairs (step ∷ steps) = refl

none-runs : (n : ℕ) (steps : List (StepRecord × StepData)) (round_limit : Option ℕ) (resume : Option Resume) → steps ≡ [] → AreStepReports (drop n steps) round_limit resume []
none-runs n steps round_limit resume none =
    subst (λ (ss : List (StepRecord × StepData)). AreStepReports ss round_limit resume []) (sym (ap (drop n) none ∙ drop-nil n)) refl

pub no-data : (n : ℕ) (steps : List StepRecord) (supplies : List StepData) (round_limit : Option ℕ) (resume : Option Resume) → length supplies ≡ 0 → AreStepReports (drop n (zip steps supplies)) round_limit resume []
no-data n steps supplies round_limit resume none =
    none-runs n (zip steps supplies) round_limit resume (ap (zip steps) (nil_from_length supplies none) ∙ no-pairs steps)

pub no-steps : (id : List ℕ) (steps : List StepRecord) (supplies : List StepData) (round_limit : Option ℕ) (resume : Option Resume) → length steps ≡ 0 → AreStepReports (drop (earlier id steps) (zip steps supplies)) round_limit resume []
no-steps id steps supplies round_limit resume none =
    none-runs (earlier id steps) (zip steps supplies) round_limit resume (ap (λ (ss : List StepRecord). zip ss supplies) (nil_from_length steps none))
