-- WHICH INPUT IS ASKED FOR, by its number of bytes and by its SHA-256 digest.
use Rattle.std.specs.Prelude.{◌≡◌, ◌≢◌, ◌⊎◌, ℕ, Bool, true, List, length, Option, Some, IfSome, IsSome, string_bytes, ⊤}
use Rattle.std.specs.Io.Iter.{u64_saturate}
use Rattle.hex.specs.Hex.{encode_lower}
use Rattle.sha2.specs.Sha256.{sha256}
use Rattle.jb_csv_job.specs.declared.asked.Asked.{Asked}
use Rattle.jb_csv_job.specs.declared.failure.CsvJobError.{CsvJobError}
use Rattle.jb_csv_job.specs.declared.failure.CsvJobError.TheVariants as failure
use Rattle.jb_csv_job.specs.declared.measured.Measure.{Measure}

-- a last line without a line end isn't taken with `--records` alone
abbrev pub IsEndTaken : Asked → (ends_open : Bool) → Type 0
IsEndTaken asked ends_open = ends_open ≡ true → IsSome asked.records → IsSome asked.bytes ⊎ IsSome asked.sha256

-- an input of this measure agrees with what is asked for
pub record IsSameInput (asked : Asked) (measure : Measure) (ends_open : Bool) : Type 0 where
  pub bytes : IfSome asked.bytes (λ n. measure.bytes ≡ n)
  pub sha256 : IfSome asked.sha256 (λ digest. measure.sha256 ≡ Some digest)
  pub end : IsEndTaken asked ends_open

-- THESE BYTES ARE AS ASKED FOR: so many, and of this digest (FIPS 180-4)
pub record IsAskedFor (asked : Asked) (text : List ℕ) (ends_open : Bool) : Type 0 where
  pub bytes : IfSome asked.bytes (λ n. u64_saturate (length text) ≡ n)
  pub sha256_is : IfSome asked.sha256 (λ digest. sha256 text ≡ digest)
  pub end : IsEndTaken asked ends_open

-- another digest was read than is asked for, and the refusal names what is asked for
abbrev pub IsOtherDigest : (asked read : Option (List ℕ)) → CsvJobError → Type 0
IsOtherDigest asked read (failure.OtherDigest most found) = (digest : List ℕ) × (asked ≡ Some digest) × (read ≢ asked) × (string_bytes most ≡ encode_lower digest)
IsOtherDigest asked read failure.Memory = ⊤
IsOtherDigest asked read _ = ⊥
