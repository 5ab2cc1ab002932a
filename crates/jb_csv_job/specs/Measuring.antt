-- What a contract sees of an input that is measured as it is read.
use Rattle.std.specs.Prelude.{◌≡◌, ℕ, List, length, Option, IfSome, MatchOption, ⊤}
use Rattle.std.specs.Io.Iter.{u64_saturate}
use Rattle.sha2.specs.Hashers.{Holds256}
use Rattle.sha2.specs.Sha256.{sha256}
use Rattle.sha2.specs.declared.Sha256.{Sha256}
use Rattle.jb_csv_job.specs.declared.measured.Measure.{Measure}
use Rattle.jb_csv_job.specs.declared.measured.Measured.{Measured}

-- IT IS THE MEASURE OF THESE BYTES: their number, and their SHA-256 digest (FIPS 180-4), if there is one
pub record IsMeasureOf (text : List ℕ) (measure : Measure) : Type 0 where
  pub counted : measure.bytes ≡ u64_saturate (length text)
  pub hashed : IfSome measure.sha256 (λ digest. digest ≡ sha256 text)

-- the hasher, if there is one, took these bytes
abbrev pub IsHashed : Option Sha256 → List ℕ → Type 0
IsHashed hasher text = MatchOption hasher ⊤ (λ taking. Holds256 taking text)

module _ {R : Type 0} where
  -- the reader below
  abbrev pub reader_of : Measured R → R
  reader_of it = it.reader

  -- these bytes were read of it
  abbrev pub HasPassed : Measured R → List ℕ → Type 0
  HasPassed it text = (it.bytes ≡ u64_saturate (length text)) × IsHashed it.hasher text
