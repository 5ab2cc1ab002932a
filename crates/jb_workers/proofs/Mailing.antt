-- Each move on a mailbox keeps its rule.
use Rattle.std.proofs.Common.{◌≡◌, ◌≢◌, ℕ, zero, suc, true, false, true≢false, List, [], ◌∷◌, ◌++◌, length, set, sym, refl, ap, ◌∙◌, subst, ⊎_elim, Option, None, Some, inl, inr, Result}
use mathlib.Core.Option.{some, some-ne-none}
use lib.ListN.{get_elem?}
use Rattle.crossbeam_queue.specs.Fifo.{Pushes, Pops, Forks, Learns}
use Rattle.crossbeam_queue.proofs.Lists.{at_set, at_snoc}
use Rattle.jb_chunk.specs.TaskState.{TaskState}
use Rattle.jb_chunk.specs.declared.outcome.Done.{Done}
use Rattle.jb_workers.specs.declared.worker.lane_work.Work.{Work}
use Rattle.jb_workers.specs.declared.round.error.RoundError.{RoundError}
use Rattle.jb_workers.specs.declared.pool.mailbox.Known.{Known}
use Rattle.jb_workers.specs.declared.pool.mailbox.Message.{Message}
use Rattle.jb_workers.specs.declared.pool.mailbox.Message.TheVariants.{Ask, Answer}
use Rattle.jb_workers.specs.Works.{CanBegin}
use Rattle.jb_workers.specs.Turns.{MeetsWork}
use Rattle.jb_workers.specs.inside.Mailboxes.{known, IsAnswerTo, Lies, Knows, IsMailbox, AsksForAWork, Takes, AnswersAWork, Hears}

module _ {T : Type 0} where
  at_end : (l : List (Known T)) (a b : Known T) (j : ℕ) → get_elem? l j ≢ some b → get_elem? (l ++ a ∷ []) j ≡ some b → j ≡ length l
  at_end [] a b zero n e = refl
  at_end [] a b (suc j) n e = absurd (some-ne-none b (sym e))
  at_end (x ∷ xs) a b zero n e = absurd (n e)
  at_end (x ∷ xs) a b (suc j) n e = ap suc (at_end xs a b j n e)

  abbrev Each : (ℕ → Known T → Type 0) → List (Known T) → Type 0
  Each F views = (pass : ℕ) (v : Known T) → get_elem? views pass ≡ some v → F pass v

  each_set : (F : ℕ → Known T → Type 0) (views : List (Known T)) (pass : ℕ) (w : Known T) → F pass w → ((j : ℕ) (u : Known T) → j ≢ pass → get_elem? views j ≡ some u → F j u) → Each F (set views pass w)
  each_set F views pass w mine others j u e = ⊎_elim (λ (x : (j ≡ pass) × (w ≡ u)). subst (λ (y : ℕ × Known T). F y.0 y.1) (λ i. (sym x.0 i, x.1 i)) mine)
      (λ (x : (j ≢ pass) × (get_elem? views j ≡ some u)). others j u x.0 x.1) (at_set views pass j w u e)

  pub begins : (task_state : T → TaskState) → IsMailbox task_state [] (known true true None ∷ [])
  begins task_state = (0, 0, None, None, inl refl, each_set (Knows 0 0 None None) (known true true None ∷ []) 0 (known true true None) ((λ _. (refl, refl)), λ _. (refl, refl)) (λ j u other e. absurd (other (at_end [] _ u j (λ x. some-ne-none u (sym x)) e))))

  -- an end of the caller, or of the worker, and not of both
  caller-learns : (caller worker : ℕ) (asked doing new : Option (Work T)) (views : List (Known T)) (pass : ℕ) (v : Known T) → v.of_caller ≡ true → v.of_worker ≡ false
      → Each (Knows caller worker asked doing) views → get_elem? views pass ≡ some v → Each (Knows caller worker new doing) (set views pass (known v.of_caller v.of_worker new))
  caller-learns caller worker asked doing new views pass v of_caller of_worker fit at =
      let mine = (fit pass v at).0 of_caller in
      each_set (Knows caller worker new doing) views pass (known v.of_caller v.of_worker new) ((λ _. (mine.0, refl)), λ p. absurd (true≢false (sym p ∙ of_worker)))
      (λ j u other e. ((λ p. absurd (other (((fit j u e).0 p).0 ∙ sym mine.0))), (fit j u e).1))

  worker-learns : (caller worker : ℕ) (asked doing new : Option (Work T)) (views : List (Known T)) (pass : ℕ) (v : Known T) → v.of_caller ≡ false → v.of_worker ≡ true
      → Each (Knows caller worker asked doing) views → get_elem? views pass ≡ some v → Each (Knows caller worker asked new) (set views pass (known v.of_caller v.of_worker new))
  worker-learns caller worker asked doing new views pass v of_caller of_worker fit at =
      let mine = (fit pass v at).1 of_worker in
      each_set (Knows caller worker asked new) views pass (known v.of_caller v.of_worker new) ((λ p. absurd (true≢false (sym p ∙ of_caller))), λ _. (mine.0, refl))
      (λ j u other e. ((fit j u e).0, λ p. absurd (other (((fit j u e).1 p).0 ∙ sym mine.0))))

  -- a caller that has asked for nothing finds it empty, and nothing is being done
  empty_idle : (task_state : T → TaskState) (items : List (Message T)) (doing : Option (Work T)) → Lies task_state items None doing → (items ≡ []) × (doing ≡ None)
  empty_idle task_state [] doing (inl e) = (refl, e)
  empty_idle task_state [] doing (inr e) = (refl, e)
  empty_idle task_state (Ask work ∷ []) doing s = let e = s.1 in absurd cc
  empty_idle task_state (Answer answer ∷ []) doing s = let e = s.1.is in absurd cc
  empty_idle task_state (Ask work ∷ y ∷ rest) doing s = absurd s
  empty_idle task_state (Answer answer ∷ y ∷ rest) doing s = absurd s

  -- while a work is being done it is empty, and that work was asked for
  empty_busy : (task_state : T → TaskState) (items : List (Message T)) (asked : Option (Work T)) (work : Work T) → Lies task_state items asked (Some work) → (items ≡ []) × (asked ≡ Some work)
  empty_busy task_state [] asked work (inl e) = absurd cc
  empty_busy task_state [] asked work (inr e) = (refl, sym e)
  empty_busy task_state (Ask other ∷ []) asked work s = let e = s.0 in absurd cc
  empty_busy task_state (Answer answer ∷ []) asked work s = let e = s.0 in absurd cc
  empty_busy task_state (Ask other ∷ y ∷ rest) asked work s = absurd s
  empty_busy task_state (Answer answer ∷ y ∷ rest) asked work s = absurd s

  idle : (task_state : T → TaskState) (pass : ℕ) (v : Known T) (items : List (Message T)) (views : List (Known T)) → v ≡ known true false None → (h : IsMailbox task_state items views) → get_elem? views pass ≡ some v → (items ≡ []) × (h.3 ≡ None)
  idle task_state pass v items views is h at =
      let none : h.2 ≡ None = sym ((h.5 pass v at).0 (ap (λ (u : Known T). u.of_caller) is)).1 ∙ ap (λ (u : Known T). u.work) is in
      empty_idle task_state items h.3 (subst (λ o. Lies task_state items o h.3) none h.4)

  busy : (task_state : T → TaskState) (pass : ℕ) (v : Known T) (work : Work T) (items : List (Message T)) (views : List (Known T)) → v ≡ known false true (Some work) → (h : IsMailbox task_state items views) → get_elem? views pass ≡ some v
      → (items ≡ []) × (h.2 ≡ Some work)
  busy task_state pass v work items views is h at =
      let doing : h.3 ≡ Some work = sym ((h.5 pass v at).1 (ap (λ (u : Known T). u.of_worker) is)).1 ∙ ap (λ (u : Known T). u.work) is in
      empty_busy task_state items h.2 work (subst (λ o. Lies task_state items h.2 o) doing h.4)

  pub idle-learns : (task_state : T → TaskState) (pass : ℕ) (v : Known T) → v ≡ known true false None → Learns (IsMailbox task_state) pass v (λ items. items ≡ [])
  idle-learns task_state pass v is items views h at = (idle task_state pass v items views is h at).0

  pub busy-learns : (task_state : T → TaskState) (pass : ℕ) (v : Known T) (work : Work T) → v ≡ known false true (Some work) → Learns (IsMailbox task_state) pass v (λ items. items ≡ [])
  busy-learns task_state pass v work is items views h at = (busy task_state pass v work items views is h at).0

  pub asks : (task_state : T → TaskState) (n pass : ℕ) (v : Known T) (work : Work T) → v ≡ known true false None → CanBegin (task_state work.task) → Pushes (IsMailbox task_state) n pass v (Ask work) (AsksForAWork v (Ask work))
  asks task_state n pass v work is can items views room h at =
      let empty = idle task_state pass v items views is h at in
      let w : Known T = known v.of_caller v.of_worker (Some work) in (
        w,
        (
          h.0,
          h.1,
          Some work,
          None,
          subst (λ (l : List (Message T)). Lies task_state (l ++ Ask work ∷ []) (Some work) None) (sym empty.0) (refl, refl, can),
          subst (λ d. Each (Knows h.0 h.1 (Some work) d) (set views pass w)) empty.1 (caller-learns h.0 h.1 h.2 h.3 (Some work) views pass v (ap (λ (u : Known T). u.of_caller) is) (ap (λ (u : Known T). u.of_worker) is) h.5 at),
        ),
        refl,
      )

  pub answers : (task_state : T → TaskState) (n pass : ℕ) (v : Known T) (work : Work T) (answer : Result (Done T) RoundError) → v ≡ known false true (Some work) → MeetsWork task_state work answer
      → Pushes (IsMailbox task_state) n pass v (Answer answer) (AnswersAWork v (Answer answer))
  answers task_state n pass v work answer is meets items views room h at =
      let empty = busy task_state pass v work items views is h at in
      let w : Known T = known v.of_caller v.of_worker None in (
        w,
        (
          h.0,
          h.1,
          h.2,
          None,
          subst (λ (l : List (Message T)). Lies task_state (l ++ Answer answer ∷ []) h.2 None) (sym empty.0) (refl, record { work = work; is = empty.1; meets = meets }),
          worker-learns h.0 h.1 h.2 h.3 None views pass v (ap (λ (u : Known T). u.of_caller) is) (ap (λ (u : Known T). u.of_worker) is) h.5 at,
        ),
        refl,
      )

  pub takes : (task_state : T → TaskState) (pass : ℕ) (v : Known T) → v ≡ known false true None → Pops (IsMailbox task_state) pass v (Takes task_state v)
  takes task_state pass v is (Ask work) [] views h at = (
    known v.of_caller v.of_worker (Some work),
    (h.0, h.1, h.2, Some work, inr (sym h.4.1), worker-learns h.0 h.1 h.2 h.3 (Some work) views pass v (ap (λ (u : Known T). u.of_caller) is) (ap (λ (u : Known T). u.of_worker) is) h.5 at),
    (refl, h.4.2),
  )
  takes task_state pass v is (Answer answer) [] views h at = (
    known v.of_caller v.of_worker None,
    (h.0, h.1, h.2, None, inl refl, worker-learns h.0 h.1 h.2 h.3 None views pass v (ap (λ (u : Known T). u.of_caller) is) (ap (λ (u : Known T). u.of_worker) is) h.5 at),
    refl,
  )
  takes task_state pass v is (Ask work) (y ∷ rest) views h at = absurd h.4
  takes task_state pass v is (Answer answer) (y ∷ rest) views h at = absurd h.4

  pub hears : (task_state : T → TaskState) (pass : ℕ) (v : Known T) → v.of_caller ≡ true → v.of_worker ≡ false → Pops (IsMailbox task_state) pass v (Hears task_state v)
  hears task_state pass v of_caller of_worker (Ask work) [] views h at = (
    known v.of_caller v.of_worker None,
    (h.0, h.1, None, h.3, inl h.4.0, caller-learns h.0 h.1 h.2 h.3 None views pass v of_caller of_worker h.5 at),
    refl,
  )
  hears task_state pass v of_caller of_worker (Answer answer) [] views h at = (
    known v.of_caller v.of_worker None,
    (h.0, h.1, None, h.3, inl h.4.0, caller-learns h.0 h.1 h.2 h.3 None views pass v of_caller of_worker h.5 at),
    (refl, subst (λ o. IsAnswerTo task_state o answer) (sym ((h.5 pass v at).0 of_caller).1) h.4.1),
  )
  hears task_state pass v of_caller of_worker (Ask work) (y ∷ rest) views h at = absurd h.4
  hears task_state pass v of_caller of_worker (Answer answer) (y ∷ rest) views h at = absurd h.4

  pub forks : (task_state : T → TaskState) (pass : ℕ) (v : Known T) → v.of_caller ≡ true → v.of_worker ≡ true → Forks (IsMailbox task_state) pass v (known true false v.work) (known false true v.work)
  forks task_state pass v a b items views h at =
      let l : Known T = known true false v.work in
      let r : Known T = known false true v.work in
      let mine = h.5 pass v at in
      let vs : List (Known T) = set views pass l in
      let Old : ℕ → Known T → Type 0 = λ j u. (u.of_caller ≡ true → (j ≡ h.0) × (u.work ≡ h.2)) × (u.of_worker ≢ true) in
      let old : Each Old vs = each_set Old views pass l ((λ _. mine.0 a), λ p. true≢false (sym p)) (λ j u other e. ((h.5 j u e).0, λ p. other (((h.5 j u e).1 p).0 ∙ sym (mine.1 b).0))) in (
        h.0,
        length vs,
        h.2,
        h.3,
        h.4,
        λ j u e. ⊎_elim (λ x. ((old j u x).0, λ p. absurd ((old j u x).1 p)))
            (λ (is : r ≡ u). ((λ p. absurd (true≢false (sym (ap (λ (y : Known T). y.of_caller) is ∙ p)))), λ p. (at_end vs r u j (λ x. (old j u x).1 p) e, ap (λ (y : Known T). y.work) (sym is) ∙ (mine.1 b).1))) (at_snoc vs r u j e),
      )
