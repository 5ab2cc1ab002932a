-- A run of a step so far, by a round more, and by a plan more.
use Rattle.std.proofs.Common.{◌≡◌, ℕ, ◌+◌, ◌<◌, ◌⊎◌, inl, inr, Bool, true, false, not, cond, Option, List, [], ◌∷◌, ◌++◌, length, map, drop, take, refl, ap, sym, ◌∙◌, subst, arith, append-nil, append_assoc, get_or, zero-add}
use Rattle.std.specs.List.{range_with_len}
use Rattle.std.proofs.lemmas.Bool.{not-false}
use Rattle.std.proofs.lemmas.Grind.{flat_map-append}
use Rattle.std.proofs.lemmas.List.{drop_more, get_or-map, length-append, length-map, map-append, take-append-drop, take_more}
use Rattle.std.proofs.lemmas.List.FromFn.{get_or-range_with_len, length-range_with_len}
use Rattle.jb_cert.specs.Lawful.{Pair, IsLawful}
use Rattle.jb_cert.specs.Load.{Load, mcnaughton}
use Rattle.jb_cert.specs.Plans.{sets_of, slot_pair}
use Rattle.jb_cert.specs.WrapAround.{slots_of_round, wrapped_rounds}
use Rattle.jb_cert.specs.declared.notes.PlanNote.{PlanNote}
use Rattle.jb_base.specs.Pairwise.{Pairwise}
use Rattle.jb_chunk.specs.Attempt.{attempt_of}
use Rattle.jb_chunk.specs.TaskState.{TaskState}
use Rattle.jb_collect.specs.declared.calls.AnalyzerCall.{AnalyzerCall}
use Rattle.jb_collect.specs.Heard.{heard_in, heard_of}
use Rattle.jb_step.specs.rounds.PlanLaws.{AreTasksOf, IsTaskTable}
use Rattle.jb_step.specs.Tables.{ArePlaced, held_in}
use Rattle.jb_step.specs.rounds.Rounds.{AreRun, CanRun, after_in, after_rounds, attempts_of, breaks_in, has_partition}
use Rattle.jb_step.specs.rounds.Runs.{AreOver, ArePlanRuns, note_of, rounds_run}
use Rattle.jb_step.specs.preparing.Setup.{Setup, counts_now}
use Rattle.jb_step.specs.Alone.{AreReady}
use Rattle.jb_step.specs.inside.LowerLaws.{LowerLaws}
use Rattle.jb_step.specs.inside.rounds.Round.{AreLeft, IsRound, Progress}
use Rattle.jb_step.specs.inside.rounds.SoFar.{AreWithin, IsOpen, IsPlanFor, IsRunOfStepSoFar, plan_run_of, set_of_round}
use Rattle.jb_step.specs.inside.callbacks.Telling.{HearsMore}
use Rattle.jb_step.proofs.run.Adding.{after-append, attempts-append, breaks-more, over-more, plans-more, run-more}
use Rattle.jb_step.proofs.plans.ChunksInOrder.{next_can_run}
use Rattle.jb_step.proofs.calls.Hearing.{hears-more, hears-none}
use Rattle.jb_step.proofs.table.Held.{HasItsTask, held-round, placed-round, tasks-stay}
use Rattle.jb_step.proofs.plans.Steady.{same-count}

-- TABLES

items-one : (set : List Pair) (t : TaskState) → (after_in set t).item_count ≡ t.item_count
items-one set t = elim (has_partition set t.partition) as (λ b. (cond b (attempt_of t).task t).item_count ≡ t.item_count) [ true ↦ same-count t | false ↦ refl ]

tasks-after : (s : Setup) (set : List Pair) (ts : List TaskState) → AreTasksOf s ts → AreReady (map (after_in set) ts) → AreTasksOf s (map (after_in set) ts)
tasks-after s set [] h r = tt
tasks-after s set (t ∷ ts) h r = ((r.0, items-one set t ∙ h.0.1), tasks-after s set ts h.1 r.1)

-- a round leaves a table of the step
pub table-round : (s : Setup) (set : List Pair) (broke : Bool) (now later : Progress) → IsTaskTable s now.table → IsRound set broke now later → IsTaskTable s later.table
table-round s set broke now later table round =
    let is = round.left.table_is in
    let held : held_in later.table ≡ map (after_in set) (held_in now.table) = ap held_in is ∙ held-round set now.table in
    record {
      tasks = subst (AreTasksOf s) (sym held) (tasks-after s set (held_in now.table) table.tasks (subst AreReady held round.ready));
      placed = subst (ArePlaced 0) (sym is) (placed-round set now.table table.placed);
      unfinished = subst (Pairwise HasItsTask s.rows) (sym is) (tasks-stay (after_in set) s.rows now.table table.unfinished);
    }

pub ready-of : (s : Setup) (ts : List TaskState) → AreTasksOf s ts → AreReady ts
ready-of s [] h = tt
ready-of s (t ∷ ts) h = (h.0.0, ready-of s ts h.1)

-- ROUNDS

none-left : (now : Progress) → AreLeft [] now now
none-left now = record { table_is = refl; rounds_are = omega arith; attempts_are = omega arith; heard_is = hears-none now.moment.fault now.moment.calls }

left-more : LowerLaws → (rounds more : List (List Pair)) (first now later : Progress) → AreLeft rounds first now → AreLeft more now later → AreLeft (rounds ++ more) first later
left-more below rounds more first now later l m =
    let es = attempts_of rounds first.table in
    let fs = attempts_of more now.table in
    let all : attempts_of (rounds ++ more) first.table ≡ es ++ fs = attempts-append rounds more first.table ∙ ap (λ ts. es ++ attempts_of more ts) (sym l.table_is) in
    let long = l.rounds_are in
    let behind = m.rounds_are in
    let tried = l.attempts_are in
    let again = m.attempts_are in
    record {
      table_is = m.table_is ∙ ap (after_rounds more) l.table_is ∙ sym (after-append rounds more first.table);
      rounds_are = omega (arith, long, behind, length-append rounds more);
      attempts_are = omega (arith, tried, again, ap length all, length-append es fs);
      heard_is =
          subst (λ (cs : List AnalyzerCall). HearsMore first.moment cs later.moment) (sym (ap heard_in all ∙ flat_map-append heard_of es fs))
          (hears-more below.more below.no_more first.moment.fault first.moment.calls (heard_in es) (heard_in fs) now.moment later.moment l.heard_is m.heard_is);
    }

-- A PLAN

pub long-plan : (load : Load) → length (sets_of (wrapped_rounds load.counts load.threads)) ≡ length (wrapped_rounds load.counts load.threads)
long-plan load = length-map (wrapped_rounds load.counts load.threads) (map slot_pair)

pub opens : (s : Setup) (load : Load) (first : Progress) → IsTaskTable s first.table → IsOpen s load 0 first first
opens s load first table = record { run = tt; quiet = refl; notes_are = refl; left = none-left first; table = table }

module _ (below : LowerLaws) (s : Setup) (load : Load) (first : Progress) (made : IsPlanFor s first.table (plan_run_of load 0)) (table : IsTaskTable s first.table) where
  abbrev sets : List (List Pair)
  sets = sets_of (wrapped_rounds load.counts load.threads)

  module _ (ran : ℕ) (more : ran < length sets) (now : Progress) (o : IsOpen s load ran first now) where
    abbrev set : List Pair
    set = set_of_round load ran

    here : get_or sets ran [] ≡ set
    here =
        let n = mcnaughton load.counts load.threads in
        let slots = slots_of_round load.counts load.threads in
        let among = long-plan load in
        let all = length-map (range_with_len 0 n) slots in
        let many = length-range_with_len 0 n in
        get_or-map (map slot_pair) (wrapped_rounds load.counts load.threads) ran [] [] (omega (arith, more, among))
        ∙ ap (map slot_pair) (get_or-map slots (range_with_len 0 n) ran 0 [] (omega (arith, more, among, all)) ∙ ap slots (get_or-range_with_len 0 n ran 0 (omega (arith, more, among, all, many)) ∙ zero-add ran))

    first-more : take (ran + 1) sets ≡ take ran sets ++ set ∷ []
    first-more = take_more sets ran [] more ∙ ap (λ x. take ran sets ++ x ∷ []) here

    parted : sets ≡ take ran sets ++ set ∷ drop (ran + 1) sets
    parted = sym (take-append-drop ran sets) ∙ ap (λ xs. take ran sets ++ xs) (drop_more sets ran [] more ∙ ap (λ x. x ∷ drop (ran + 1) sets) here)

    can-run : CanRun set (after_rounds (take ran sets) first.table)
    can-run =
        next_can_run below.chunks s first.table (take ran sets) set (drop (ran + 1) sets)
        (record {
          held = record { start = first.table; plans = []; first = table; run = tt; left = refl };
          lawful = subst (λ (xs : List (List Pair)). IsLawful (counts_now s first.table) s.threads xs) parted made.least.lawful;
          run = o.run;
          quiet = o.quiet;
        })

    -- its next round can be run
    pub open-can-run : CanRun set now.table
    open-can-run = subst (λ ts. CanRun set ts) (sym o.left.table_is) can-run

    module _ (later : Progress) (broke : Bool) (round : IsRound set broke now later) where
      run-next : AreRun (take (ran + 1) sets) first.table
      run-next = subst (λ rounds. AreRun rounds first.table) (sym first-more) (run-more (take ran sets) set first.table o.run o.quiet can-run)

      breaks-next : breaks_in (attempts_of (take (ran + 1) sets) first.table) ≡ broke
      breaks-next =
          ap (λ rounds. breaks_in (attempts_of rounds first.table)) first-more
          ∙ breaks-more (take ran sets) (set ∷ []) first.table o.quiet
          ∙ ap (λ ts. breaks_in (attempts_of (set ∷ []) ts)) (sym o.left.table_is)
          ∙ sym round.broke_is

      left-next : AreLeft (take (ran + 1) sets) first later
      left-next = subst (λ rounds. AreLeft rounds first later) (sym first-more) (left-more below (take ran sets) (set ∷ []) first now later o.left round.left)

      -- it goes on after a quiet round
      pub goes-on : broke ≡ false → IsOpen s load (ran + 1) first later
      goes-on quiet = record { run = run-next; quiet = breaks-next ∙ quiet; notes_are = round.notes_are ∙ o.notes_are; left = left-next; table = table-round s set broke now later o.table round }

      -- or its note is taken
      pub ends : (limit : Option ℕ) (over : Bool) (notes : List PlanNote) → (over ≡ true → (broke ≡ true) ⊎ (ran + 1 ≡ length sets)) → AreWithin limit later.rounds → notes ≡ later.notes ++ note_of (plan_run_of load (ran + 1)) ∷ []
          → IsRunOfStepSoFar s limit (not over) first (record later { notes = notes })
      ends limit over notes ended few noted =
          let plan = plan_run_of load (ran + 1) in
          let l = subst (λ rounds. AreLeft rounds first later) (sym (append-nil (take (ran + 1) sets))) left-next in
          record {
            plans = plan ∷ [];
            run = (record { least = made.least; certified = made.certified; some = omega arith; among = omega (arith, more); run = run-next }, inl refl, tt);
            over = λ going. (elim (ended (not-false over going)) [ inl it ↦ inr (breaks-next ∙ it) | inr all ↦ inl all ], tt);
            notes_are = noted ∙ ap (λ ns. ns ++ note_of plan ∷ []) (round.notes_are ∙ o.notes_are);
            few = few;
            left = record { table_is = l.table_is; rounds_are = l.rounds_are; attempts_are = l.attempts_are; heard_is = l.heard_is };
          }

-- PLANS

pub none-run : (s : Setup) (limit : Option ℕ) (stopped : Bool) (now : Progress) → AreWithin limit now.rounds → IsRunOfStepSoFar s limit stopped now now
none-run s limit stopped now few = record { plans = []; run = tt; over = λ going. tt; notes_are = sym (append-nil now.notes); few = few; left = none-left now }

pub runs-more : LowerLaws → (s : Setup) (limit : Option ℕ) (stopped : Bool) (first now later : Progress) → IsRunOfStepSoFar s limit false first now → IsRunOfStepSoFar s limit stopped now later → IsRunOfStepSoFar s limit stopped first later
runs-more below s limit stopped first now later one more =
    let is = one.left.table_is in
    record {
      plans = one.plans ++ more.plans;
      run = plans-more s first.table one.plans more.plans one.run (one.over refl) (subst (λ ts. ArePlanRuns s ts more.plans) is more.run);
      over = λ going. over-more first.table one.plans more.plans (one.over refl) (subst (λ ts. AreOver ts more.plans) is (more.over going));
      notes_are =
          more.notes_are ∙ ap (λ ns. ns ++ map note_of more.plans) one.notes_are
          ∙ append_assoc first.notes (map note_of one.plans) (map note_of more.plans) ∙ ap (λ ns. first.notes ++ ns) (sym (map-append note_of one.plans more.plans));
      few = more.few;
      left = subst (λ rounds. AreLeft rounds first later) (sym (flat_map-append rounds_run one.plans more.plans)) (left-more below _ _ first now later one.left more.left);
    }
