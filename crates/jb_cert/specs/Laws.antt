-- What holds of every load, whatever its size.
use Rattle.std.specs.Prelude.{◌≡◌, ℕ, ◌+◌, ◌<◌, ◌≤◌, ◌↔◌, List, length, map, find, slice_index, IsTrue, Some, ◌==◌}
use Rattle.jb_cert.specs.declared.certificates.Certificate.{Certificate}
use Rattle.jb_cert.specs.Load.{mcnaughton}
use Rattle.jb_cert.specs.Lawful.{NoneIsShorter, IsLeastNumber}
use Rattle.jb_cert.specs.Certificates.{Holds, certifies, is_least_plan, bound_certificate}
use Rattle.jb_cert.specs.Plans.{StandsForLeast}
use Rattle.jb_cert.specs.Rising.{Rise}
use Rattle.jb_cert.specs.WrapAround.{first_place, partition_at_place, slot_of, lane_slot, slots_of_round, wrapped_rounds}

-- THE BOUND

-- McNaughton's bound is the number of sets of a shortest valid plan
abbrev pub BoundIsLeast : Type 0
BoundIsLeast = (counts : List ℕ) (threads : ℕ) → 1 ≤ threads → IsLeastNumber counts threads (mcnaughton counts threads)

-- its certificate holds
abbrev pub BoundIsCertified : Type 0
BoundIsCertified =
    (counts : List ℕ) (threads : ℕ) → 1 ≤ threads
    → Holds counts threads (mcnaughton counts threads) (bound_certificate counts threads)

-- CERTIFICATES

-- if a certificate holds, no valid plan has fewer sets
abbrev pub CertifiedIsShortest : Type 0
CertifiedIsShortest =
    (counts : List ℕ) (threads rounds : ℕ) (certificate : Certificate)
    → Holds counts threads rounds certificate → NoneIsShorter counts threads rounds

-- the test of a certificate says that it holds
abbrev pub CertifiesWhatHolds : Type 0
CertifiesWhatHolds =
    (counts : List ℕ) (threads rounds : ℕ) (certificate : Certificate)
    → IsTrue (certifies counts threads rounds certificate) ↔ Holds counts threads rounds certificate

-- the test of a least plan says that the number of rounds is the least one, and that the certificate holds
abbrev pub LeastPlanMeans : Type 0
LeastPlanMeans =
    (counts : List ℕ) (threads rounds : ℕ) (certificate : Certificate) → 1 ≤ threads
    → IsTrue (is_least_plan counts threads rounds certificate)
    ↔ (IsLeastNumber counts threads rounds × Holds counts threads rounds certificate)

-- THE WRAP-AROUND

-- it has as many rounds as the bound
abbrev pub WrapAroundIsBound : Type 0
WrapAroundIsBound = (counts : List ℕ) (threads : ℕ) → length (wrapped_rounds counts threads) ≡ mcnaughton counts threads

-- and its sets are a shortest valid plan
abbrev pub WrapAroundIsLeast : Type 0
WrapAroundIsLeast = (counts : List ℕ) (threads : ℕ) → 1 ≤ threads → StandsForLeast counts threads (wrapped_rounds counts threads)

-- a slot has a partition of the load, and one of its chunks
abbrev pub SlotsAreKnown : Type 0
SlotsAreKnown =
    (counts : List ℕ) (threads r l p j : ℕ) → slot_of counts threads r l ≡ Some (p, j)
    → (p < length counts) × (j < slice_index counts p)

-- a search of a round's slots by lane finds what the lane has there
abbrev pub LanesAreFound : Type 0
LanesAreFound =
    (counts : List ℕ) (threads r l : ℕ) → l < threads
    → find (λ slot. slot.lane == l) (slots_of_round counts threads r) ≡ lane_slot counts threads r l

-- the slots of a round, which come by rising lane, come by rising partition too
abbrev pub PartitionsRise : Type 0
PartitionsRise = (counts : List ℕ) (threads r : ℕ) → Rise (map (λ slot. slot.partition) (slots_of_round counts threads r))

-- the partition at a place is the one whose chunks lie round it
abbrev pub PlacesLieRound : Type 0
PlacesLieRound =
    (counts : List ℕ) (p x : ℕ) → p < length counts → first_place counts p ≤ x → x < first_place counts p + slice_index counts p
    → partition_at_place counts x ≡ p
