-- What a certificate says of a number of rounds: one of the two bounds of McNaughton's formula of 1959 is reached.
use Rattle.std.specs.Prelude.{◌≡◌, ℕ, ◌-◌, ◌*◌, ◌<◌, ◌≤◌, Bool, false, ◌&&◌, nat_eq, nat_lt, nat_le, List, length, sum, slice_index, slice_get, position, Option, Some, None, if◌then◌else◌, ◌==◌}
use Rattle.jb_cert.specs.declared.certificates.Certificate.{Certificate}
use Rattle.jb_cert.specs.declared.certificates.Certificate.TheVariants.{Nothing, Longest, FullLoad}
use Rattle.jb_cert.specs.Load.{mcnaughton}

abbrev pub Holds : List ℕ → ℕ → ℕ → Certificate → Type 0
-- no chunk and no round
Holds counts threads rounds Nothing = (sum counts ≡ 0) × (rounds ≡ 0)
-- a partition with as many chunks as there are rounds
Holds counts threads rounds (Longest p) = (p < length counts) × (slice_index counts p ≡ rounds)
-- one round fewer would not have room for the chunks
Holds counts threads rounds FullLoad = (1 ≤ rounds) × ((rounds - 1) * threads < sum counts)

-- the same as a test
abbrev pub is_count : Option ℕ → ℕ → Bool
is_count None rounds = false
is_count (Some n) rounds = nat_eq n rounds

abbrev pub certifies : List ℕ → ℕ → ℕ → Certificate → Bool
certifies counts threads rounds Nothing = nat_eq (sum counts) 0 && nat_eq rounds 0
certifies counts threads rounds (Longest p) = is_count (slice_get counts p) rounds
certifies counts threads rounds FullLoad = nat_le 1 rounds && nat_lt ((rounds - 1) * threads) (sum counts)

-- the number of rounds is McNaughton's bound, and the certificate holds for it
abbrev pub is_least_plan : List ℕ → ℕ → ℕ → Certificate → Bool
is_least_plan counts threads rounds certificate =
    nat_eq rounds (mcnaughton counts threads) && certifies counts threads rounds certificate

abbrev pub longest_or_full : Option ℕ → Certificate
longest_or_full (Some p) = Longest p
longest_or_full None = FullLoad

-- the certificate of the bound (own choice): Nothing if there is no chunk; else Longest of the first partition with as
-- many chunks as the bound, if there is one; else FullLoad
abbrev pub bound_certificate : List ℕ → ℕ → Certificate
bound_certificate counts threads =
    if sum counts == 0 then Nothing
    else longest_or_full (position (λ n. n == mcnaughton counts threads) counts)
