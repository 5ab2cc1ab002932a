-- Rounds and plans, put at the end of those that were run.
use Rattle.std.proofs.Common.{◌≡◌, false, List, [], ◌∷◌, ◌++◌, refl, ap, sym, ◌∙◌, subst, append_assoc, inl, inr}
use Rattle.std.specs.Prelude.{◌⊎◌, not}
use Rattle.std.proofs.lemmas.Bool.{or_parts}
use Rattle.std.proofs.lemmas.List.Folds.{list_any-append}
use Rattle.jb_cert.specs.Lawful.{Pair}
use Rattle.jb_chunk.specs.Attempt.{AttemptEnd}
use Rattle.jb_step.specs.rounds.Rounds.{AreRun, CanRun, GoQuietly, after_round, after_rounds, attempts_in, attempts_of, breaks, breaks_in, is_commit}
use Rattle.jb_step.specs.rounds.Runs.{AreOver, ArePlanRuns, PlanRun, rounds_of, rounds_run, table_after}
use Rattle.jb_step.specs.preparing.Setup.{Setup}
use Rattle.jb_step.specs.Tables.{Table}

-- ROUNDS

pub after-append : (one more : List (List Pair)) (ts : Table) → after_rounds (one ++ more) ts ≡ after_rounds more (after_rounds one ts)
after-append [] more ts = refl
after-append (set ∷ one) more ts = after-append one more (after_round set ts)

pub attempts-append : (one more : List (List Pair)) (ts : Table) → attempts_of (one ++ more) ts ≡ attempts_of one ts ++ attempts_of more (after_rounds one ts)
attempts-append [] more ts = refl
attempts-append (set ∷ one) more ts =
    ap (λ es. attempts_in set ts ++ es) (attempts-append one more (after_round set ts))
    ∙ sym (append_assoc (attempts_in set ts) (attempts_of one (after_round set ts)) (attempts_of more (after_rounds one (after_round set ts))))

breaks-append : (es fs : List AttemptEnd) → breaks_in (es ++ fs) ≡ false → (breaks_in es ≡ false) × (breaks_in fs ≡ false)
breaks-append es fs quiet = or_parts (breaks_in es) (breaks_in fs) (sym (list_any-append (λ (e : AttemptEnd). not (is_commit e.outcome)) es fs) ∙ quiet)

-- the first of quiet rounds is quiet, and the others are
pub quiet-parts : (set : List Pair) (later : List (List Pair)) (ts : Table) → GoQuietly (set ∷ later) ts → (breaks set ts ≡ false) × GoQuietly later (after_round set ts)
quiet-parts set later ts quiet = breaks-append (attempts_in set ts) (attempts_of later (after_round set ts)) quiet

pub quiet-both : (set : List Pair) (later : List (List Pair)) (ts : Table) → breaks set ts ≡ false → GoQuietly later (after_round set ts) → GoQuietly (set ∷ later) ts
quiet-both set later ts one more = list_any-append (λ (e : AttemptEnd). not (is_commit e.outcome)) (attempts_in set ts) (attempts_of later (after_round set ts)) ∙ rw (one, more) refl

-- a round that isn't the last one is quiet
pub not-last : {set : List Pair} {later : List (List Pair)} {P : Type 0} → (set ∷ later ≡ []) ⊎ P → P
not-last (inl none) = let never : ⊥ = cc in absurd never
not-last (inr one) = one

-- behind quiet rounds, what the others do counts
pub breaks-more : (rounds more : List (List Pair)) (ts : Table) → GoQuietly rounds ts → breaks_in (attempts_of (rounds ++ more) ts) ≡ breaks_in (attempts_of more (after_rounds rounds ts))
breaks-more rounds more ts quiet =
    ap breaks_in (attempts-append rounds more ts)
    ∙ list_any-append (λ (e : AttemptEnd). not (is_commit e.outcome)) (attempts_of rounds ts) (attempts_of more (after_rounds rounds ts))
    ∙ rw quiet refl

-- a round more can be run behind quiet ones
pub run-more : (rounds : List (List Pair)) (set : List Pair) (ts : Table) → AreRun rounds ts → GoQuietly rounds ts → CanRun set (after_rounds rounds ts) → AreRun (rounds ++ set ∷ []) ts
run-more [] set ts run quiet can = (can, inl refl, tt)
run-more (one ∷ rounds) set ts run quiet can =
    let parts = quiet-parts one rounds ts quiet in
    (run.0, inr parts.0, run-more rounds set (after_round one ts) run.2 parts.1 can)

-- PLANS, behind those that are over

pub plans-more : (s : Setup) (start : Table) (plans more : List PlanRun) → ArePlanRuns s start plans → AreOver start plans → ArePlanRuns s (table_after plans start) more → ArePlanRuns s start (plans ++ more)
plans-more s start [] more runs over behind = behind
plans-more s start (first ∷ plans) more runs over behind = (
  runs.0,
  inr over.0,
  plans-more s (after_rounds (rounds_run first) start) plans more runs.2 over.1 (subst (λ ts. ArePlanRuns s ts more) (after-append (rounds_run first) (rounds_of plans) start) behind),
)

pub over-more : (start : Table) (plans more : List PlanRun) → AreOver start plans → AreOver (table_after plans start) more → AreOver start (plans ++ more)
over-more start [] more over behind = behind
over-more start (first ∷ plans) more over behind = (
  over.0,
  over-more (after_rounds (rounds_run first) start) plans more over.1 (subst (λ ts. AreOver ts more) (after-append (rounds_run first) (rounds_of plans) start) behind),
)
