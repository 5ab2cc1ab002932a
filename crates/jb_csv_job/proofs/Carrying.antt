-- Whatever is answered, nothing is taken yet.
use Rattle.std.{proofs.Common.{◌⊎◌, ℕ, List, [], Some, Result, Ok, Err, inr}, specs.Prelude.{MatchResult}}
use Rattle.jb_slices.specs.Slice.{Functions}
use Rattle.jb_csv_job.specs.{Done.{HasTakenSoFar}, Job.{JobRecord}, SliceFiles.{CanResumeJob}, declared.failure.CsvJobError.{CsvJobError}}
use Rattle.jb_csv_job.proofs.{Going.{read-of, so-far}, Owning.{given-none}}

either-way : (refuse : CsvJobError → Type 0) (P : Type 0) {T : Type 0} (result : Result T CsvJobError) → P → MatchResult result (λ _. P) (λ e. refuse e ⊎ P)
either-way refuse P (Ok end) so = so
either-way refuse P (Err e) so = inr so

pub none-taken : {T : Type 0} {job : JobRecord} {functions : Functions} {text : List ℕ} {log db : ℕ → List ℕ} (up : CanResumeJob job functions (Some text) log db) (took : List (List ℕ) → Type 0)
    → took [] → (refuse : CsvJobError → Type 0) (result : Result T CsvJobError) → MatchResult result (λ _. HasTakenSoFar job (Some text) took) (λ e. refuse e ⊎ HasTakenSoFar job (Some text) took)
none-taken {T} {job} up took none refuse result = either-way refuse _ result (so-far up.records [] 0 (read-of up) none (given-none job.task))
