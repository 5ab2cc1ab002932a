-- Rounds lead each partition along its own attempts.
use Rattle.std.proofs.Common.{◌≡◌, Bool, true, false, cond, List, [], ◌∷◌, ◌++◌, map, refl, inl, sym, subst}
use Rattle.std.proofs.lemmas.Bool.{and_parts}
use Rattle.std.specs.List.{AllByRecursion, list_all}
use Rattle.jb_base.proofs.Pairwise.{pairwise-itself, pairwise-one}
use Rattle.jb_rules.specs.States.{has_ended}
use Rattle.jb_cert.specs.Lawful.{Pair}
use Rattle.jb_chunk.specs.Alone.{IsAlone, IsOnTheWay}
use Rattle.jb_chunk.specs.Attempt.{attempt_of}
use Rattle.jb_chunk.specs.Laws.{OneEnd, CalmRunsArePlain, WaysEnd}
use Rattle.jb_chunk.specs.TaskState.{TaskState}
use Rattle.jb_step.specs.Laws.{StepsAreOnTheWay, StepsEndAlone, AloneIsOnePlace, CalmStepsArePlain}
use Rattle.jb_step.specs.rounds.Rounds.{has_partition, after_in, after_round, after_rounds}
use Rattle.jb_step.specs.rounds.Runs.{table_after, rounds_of}
use Rattle.jb_step.specs.Alone.{AreOnTheWay, AreAlone, AreReady, have_ended}
use Rattle.jb_step.specs.Tables.{Table, held_in}
use Rattle.jb_step.proofs.table.Apart.{AllWait, IsWaiting, all-wait, run-more}
use Rattle.jb_step.proofs.table.Filters.{kept-so}
use Rattle.jb_step.proofs.table.Held.{held-round}
use Rattle.jb_step.proofs.plans.Steady.{waits, row_waits}

way-one : (b : Bool) (t s : TaskState) → IsOnTheWay t s → (b ≡ true → IsWaiting s) → IsOnTheWay t (cond b (attempt_of s).task s)
way-one true t s way waiting = record { attempts = way.attempts ++ attempt_of s ∷ []; run = run-more t way.attempts s way.run (waiting refl) }
way-one false t s way waiting = way

way-round : (set : List Pair) (ts ss : List TaskState) → AreOnTheWay ts ss → AllByRecursion (λ (s : TaskState). has_partition set s.partition ≡ true → IsWaiting s) ss → AreOnTheWay ts (map (after_in set) ss)
way-round set [] [] way waiting = tt
way-round set [] (s ∷ ss) way waiting = absurd way
way-round set (t ∷ ts) [] way waiting = absurd way
way-round set (t ∷ ts) (s ∷ ss) way waiting = (way-one (has_partition set s.partition) t s way.0 waiting.0, way-round set ts ss way.1 waiting.1)

way-none : (ts : List TaskState) → AreOnTheWay ts ts
way-none ts = pairwise-itself IsOnTheWay (λ t. record { attempts = []; run = refl }) ts

way-rounds : (rounds : List (List Pair)) (ts : List TaskState) (table : Table) → AreOnTheWay ts (held_in table) → AllWait rounds table → AreOnTheWay ts (held_in (after_rounds rounds table))
way-rounds [] ts table way all = way
way-rounds (set ∷ later) ts table way all =
    let waiting = kept-so IsWaiting (λ (s : TaskState). has_partition set s.partition) (held_in table) all.0 in
    way-rounds later ts (after_round set table) (subst (λ (ss : List TaskState). AreOnTheWay ts ss) (sym (held-round set table)) (way-round set ts (held_in table) way waiting)) all.1

pub steps_are_on_the_way : StepsAreOnTheWay
steps_are_on_the_way s start plans runs = way-rounds (rounds_of plans) (held_in start) start (way-none (held_in start)) (all-wait s start plans runs)

-- WHERE THEY END

pub alone-all : WaysEnd → (ts ss : List TaskState) → AreReady ts → AreOnTheWay ts ss → have_ended ss ≡ true → AreAlone ts ss
alone-all law [] [] ready way ended = tt
alone-all law [] (s ∷ ss) ready way ended = absurd way
alone-all law (t ∷ ts) [] ready way ended = absurd way
alone-all law (t ∷ ts) (s ∷ ss) ready way ended =
    (law t s ready.0 way.0 (and_parts (has_ended s.row.state) (have_ended ss) ended).0, alone-all law ts ss ready.1 way.1 (and_parts (has_ended s.row.state) (have_ended ss) ended).1)

pub steps_end_alone : WaysEnd → StepsEndAlone
steps_end_alone law s start plans ready runs ended = alone-all law (held_in start) (held_in (table_after plans start)) ready (steps_are_on_the_way s start plans runs) ended

pub alone_is_one_place : OneEnd → AloneIsOnePlace
alone_is_one_place law start one other = pairwise-one IsAlone law start one other

pub calm_steps_are_plain : CalmRunsArePlain → CalmStepsArePlain
calm_steps_are_plain law [] [] ready waiting calm alone = tt
calm_steps_are_plain law [] (s ∷ ss) ready waiting calm alone = absurd alone
calm_steps_are_plain law (t ∷ ts) [] ready waiting calm alone = absurd alone
calm_steps_are_plain law (t ∷ ts) (s ∷ ss) ready waiting calm alone = (
  law t s ready.0 (inl (waits t.row.state (and_parts (row_waits t) (list_all row_waits ts) waiting).0)) calm.0 alone.0,
  calm_steps_are_plain law ts ss ready.1 (and_parts (row_waits t) (list_all row_waits ts) waiting).1 calm.1 alone.1,
)
