-- A round of one work.
use Rattle.std.proofs.Common.{ℕ, suc, zero, ◌<◌, [], ◌∷◌, Result, Ok, Err, refl, inl, inr, arith}
use Rattle.std.specs.Result.{IsOk}
use Rattle.std.specs.Prelude.{slice_index_or}
use Rattle.std.proofs.lemmas.List.Sorted.{IsPermutation-refl}
use Rattle.jb_chunk.specs.TaskState.{TaskState}
use Rattle.jb_chunk.specs.declared.outcome.Done.{Done}
use Rattle.jb_repo.specs.declared.events.Event.TheVariants.{Round}
use Rattle.jb_repo.specs.declared.refused.Refused.{Refused}
use Rattle.jb_workers.specs.declared.round.error.RoundError.{RoundError}
use Rattle.jb_workers.specs.declared.round.error.RoundError.TheVariants as error
use Rattle.jb_workers.specs.declared.worker.lane_work.Work.{Work}
use Rattle.jb_workers.specs.declared.round.report.Report.{Report}
use Rattle.jb_workers.specs.Turns.{IsDoneOf, IsKeptOut, MeetsWork}
use Rattle.jb_workers.specs.Works.{IsOrderOf, RiseByPartition}
use Rattle.jb_workers.specs.Round.{AreReports, IsRefusedRound, IsRoundError}
use Rattle.jb_workers.specs.Lock.{IsRefused}

module _ {T : Type 0} (task_state : T → TaskState) (w : Work T) where
  rising : RiseByPartition task_state (w ∷ [])
  rising zero zero d le lt = omega arith
  rising (suc i) zero d le lt = absurd (omega (arith, le))
  rising i (suc j) d le lt = absurd (omega (arith, lt))

  order : IsOrderOf task_state (w ∷ []) (w ∷ [])
  order = record { each = IsPermutation-refl (w ∷ []); rising = λ i j d le lt. rising i j d le lt }

  reported : (done : Result (Done T) RoundError) → MeetsWork task_state w done → AreReports task_state (w ∷ []) (record { lane = w.lane; done = done } ∷ [])
  reported done meets = (record { lane = refl; meets = meets }, tt)

  none-below : (why : RoundError) (i : ℕ) (d : Report T) → i < 1 → (slice_index_or (record { lane = w.lane; done = Err why } ∷ []) i d).lane < w.lane → IsOk (slice_index_or (record { lane = w.lane; done = Err why } ∷ []) i d).done
  none-below why zero d lt less = absurd (omega (arith, less))
  none-below why (suc i) d lt less = absurd (omega (arith, lt))

  all-done : (done : Done T) (i : ℕ) (d : Report T) → i < 1 → IsOk (slice_index_or (record { lane = w.lane; done = Ok done } ∷ []) i d).done
  all-done done zero d lt = refl
  all-done done (suc i) d lt = absurd (omega (arith, lt))

  -- the work was kept out
  pub kept-out-error : (why : RoundError) → IsKeptOut task_state w why → IsRoundError task_state (w ∷ []) why
  kept-out-error (error.Refused refused) kept = record {
    ordered = w ∷ [];
    order = order;
    reports = record { lane = w.lane; done = Err (error.Refused refused) } ∷ [];
    each = reported (Err (error.Refused refused)) kept;
    cause = inl (record {
      lowest = record { lane = w.lane; done = Err (error.Refused refused) };
      before = [];
      after = [];
      among = refl;
      refused = refl;
      lower = λ i d lt less. none-below (error.Refused refused) i d lt less;
    });
  }
  kept-out-error error.WorkerNotStarted kept = tt
  kept-out-error error.Memory kept = tt

  -- the work was done, and Round was refused
  pub closing-refused : (done : Done T) (refused : Refused) → IsDoneOf task_state w done → IsRefused Round refused → IsRefusedRound task_state (w ∷ []) refused
  closing-refused done refused is why = record {
    ordered = w ∷ [];
    order = order;
    reports = record { lane = w.lane; done = Ok done } ∷ [];
    each = reported (Ok done) is;
    cause = inr (λ i d lt. all-done done i d lt, why);
  }
