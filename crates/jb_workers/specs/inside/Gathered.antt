-- Gathering what came of the works of a round, report by report.
use Rattle.std.specs.Prelude.{◌≡◌, ℕ, nat_lt, if◌then◌else◌, List, Ok, Option, Some, None}
use Rattle.jb_base.specs.Pairwise.{Pairwise}
use Rattle.jb_chunk.specs.declared.outcome.Done.{Done}
use Rattle.jb_workers.specs.declared.round.error.RoundError.{RoundError}
use Rattle.jb_workers.specs.declared.round.report.Report.{Report}
use Rattle.jb_workers.specs.Round.{AllAreDone, IsLowestRefusal}

-- each report is of the attempt at its place
abbrev pub AreAllDone : {T : Type 0} → List (Report T) → List (Done T) → Type 0
AreAllDone = Pairwise (λ report done. report.done ≡ Ok done)

-- the refusal of the lower lane: the one found so far, or the lane's
abbrev pub lower : Option (ℕ × RoundError) → ℕ → RoundError → Option (ℕ × RoundError)
lower None lane error = Some (lane, error)
lower (Some (lowest, earlier)) lane error = if nat_lt lane lowest then Some (lane, error) else Some (lowest, earlier)

-- the lane was refused so, and the works of all lower lanes were done
pub record IsFoundAt {T : Type 0} (reports : List (Report T)) (lane : ℕ) (why : RoundError) : Type 0 where
  pub refusal : IsLowestRefusal reports why
  pub is : refusal.lowest.lane ≡ lane

-- the refusal found so far is that of the lowest lane that was refused
abbrev pub IsFoundIn : {T : Type 0} → List (Report T) → Option (ℕ × RoundError) → Type 0
IsFoundIn reports None = AllAreDone reports
IsFoundIn reports (Some (lane, why)) = IsFoundAt reports lane why
