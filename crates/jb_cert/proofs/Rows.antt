-- Worked loads and plans, computed from the definitions alone.
use Rattle.std.proofs.Common.{◌≡◌, ℕ, true, false, List, [], ◌∷◌, refl, Some, None, arith}
use Rattle.jb_cert.specs.declared.certificates.Certificate.TheVariants.{Nothing, Longest, FullLoad}
use Rattle.jb_cert.specs.declared.plans.Slot.{Slot}
use Rattle.jb_cert.specs.declared.plans.PlanFault.TheVariants.{LaneRange, TwiceInRound, OutOfOrder, Missing, Stranger}
use Rattle.jb_cert.specs.Load.{mcnaughton}
use Rattle.jb_cert.specs.Lawful.{Pair}
use Rattle.jb_cert.specs.Certificates.{Holds, certifies, is_least_plan, bound_certificate}
use Rattle.jb_cert.specs.Plans.{sets_of, StandsForLawful}
use Rattle.jb_cert.specs.WrapAround.{slot_of, wrapped_rounds}
use Rattle.jb_cert.specs.Faults.{first_plan_fault}
use Rattle.jb_cert.specs.inside.Walk.{found_fault}
use Rattle.jb_cert.proofs.Faultless.{lawful_from_no_fault, no_fault_from_lawful}

abbrev slot : ℕ → ℕ → ℕ → Slot
slot l p j = record { lane = l; partition = p; chunk = j }

-- ---- full load: three equal partitions on two threads, of which the second one changes lanes

abbrev counts_even : List ℕ
counts_even = 3 ∷ 3 ∷ 3 ∷ []

abbrev rounds_even : List (List Slot)
rounds_even =
    (slot 0 0 0 ∷ slot 1 1 0 ∷ []) ∷ (slot 0 0 1 ∷ slot 1 2 0 ∷ []) ∷ (slot 0 0 2 ∷ slot 1 2 1 ∷ [])
    ∷ (slot 0 1 1 ∷ slot 1 2 2 ∷ []) ∷ (slot 0 1 2 ∷ []) ∷ []

abbrev sets_even : List (List Pair)
sets_even =
    ((0, 0) ∷ (1, 0) ∷ []) ∷ ((0, 1) ∷ (2, 0) ∷ []) ∷ ((0, 2) ∷ (2, 1) ∷ []) ∷ ((1, 1) ∷ (2, 2) ∷ []) ∷ ((1, 2) ∷ []) ∷ []

length_even : mcnaughton counts_even 2 ≡ 5
length_even = refl

plan_even : wrapped_rounds counts_even 2 ≡ rounds_even
plan_even = refl

sets_of_even : sets_of rounds_even ≡ sets_even
sets_of_even = refl

certificate_even : bound_certificate counts_even 2 ≡ FullLoad
certificate_even = refl

holds_even : Holds counts_even 2 5 FullLoad
holds_even = (omega arith, omega arith)

-- no partition has five chunks
not_longest_even : Holds counts_even 2 5 (Longest 0) → ⊥
not_longest_even holds = omega (arith, holds.1)

-- ---- one long partition on three threads, of which the last lane stays empty

abbrev counts_long : List ℕ
counts_long = 5 ∷ 1 ∷ 1 ∷ []

abbrev rounds_long : List (List Slot)
rounds_long =
    (slot 0 0 0 ∷ slot 1 1 0 ∷ []) ∷ (slot 0 0 1 ∷ slot 1 2 0 ∷ []) ∷ (slot 0 0 2 ∷ []) ∷ (slot 0 0 3 ∷ []) ∷ (slot 0 0 4 ∷ []) ∷ []

length_long : mcnaughton counts_long 3 ≡ 5
length_long = refl

plan_long : wrapped_rounds counts_long 3 ≡ rounds_long
plan_long = refl

certificate_long : bound_certificate counts_long 3 ≡ Longest 0
certificate_long = refl

-- four rounds have places for all seven chunks
not_full_long : Holds counts_long 3 5 FullLoad → ⊥
not_full_long holds = omega (arith, holds.1)

-- ---- nothing to plan

length_nothing : mcnaughton (0 ∷ 0 ∷ []) 4 ≡ 0
length_nothing = refl

plan_nothing : wrapped_rounds (0 ∷ 0 ∷ []) 4 ≡ []
plan_nothing = refl

certificate_nothing : bound_certificate (0 ∷ 0 ∷ []) 4 ≡ Nothing
certificate_nothing = refl

plan_no_partition : wrapped_rounds [] 1 ≡ []
plan_no_partition = refl

certificate_no_partition : bound_certificate [] 1 ≡ Nothing
certificate_no_partition = refl

-- ---- a wrapped partition, ranked by round

abbrev counts_wrapped : List ℕ
counts_wrapped = 1 ∷ 4 ∷ 3 ∷ []

abbrev rounds_wrapped : List (List Slot)
rounds_wrapped =
    (slot 0 0 0 ∷ slot 1 1 0 ∷ []) ∷ (slot 0 1 1 ∷ slot 1 2 0 ∷ []) ∷ (slot 0 1 2 ∷ slot 1 2 1 ∷ []) ∷ (slot 0 1 3 ∷ slot 1 2 2 ∷ []) ∷ []

plan_wrapped : wrapped_rounds counts_wrapped 2 ≡ rounds_wrapped
plan_wrapped = refl

certificate_wrapped : bound_certificate counts_wrapped 2 ≡ Longest 1
certificate_wrapped = refl

-- ---- an empty partition between two, and more partitions than threads

abbrev rounds_gap : List (List Slot)
rounds_gap = (slot 0 0 0 ∷ slot 1 2 0 ∷ []) ∷ (slot 0 0 1 ∷ slot 1 2 1 ∷ []) ∷ []

plan_gap : wrapped_rounds (2 ∷ 0 ∷ 2 ∷ []) 2 ≡ rounds_gap
plan_gap = refl

certificate_gap : bound_certificate (2 ∷ 0 ∷ 2 ∷ []) 2 ≡ Longest 0
certificate_gap = refl

plan_ones : wrapped_rounds (1 ∷ 1 ∷ 1 ∷ []) 2 ≡ (slot 0 0 0 ∷ slot 1 2 0 ∷ []) ∷ (slot 0 1 0 ∷ []) ∷ []
plan_ones = refl

certificate_ones : bound_certificate (1 ∷ 1 ∷ 1 ∷ []) 2 ≡ FullLoad
certificate_ones = refl

-- ---- single slots: of the wrapped partition before and behind its cut, none past the chunks, the rounds, the threads

slot_before : slot_of counts_wrapped 2 3 0 ≡ Some (1, 3)
slot_before = refl

slot_behind : slot_of counts_wrapped 2 0 1 ≡ Some (1, 0)
slot_behind = refl

none_past_chunks : slot_of counts_even 2 4 1 ≡ None
none_past_chunks = refl

none_past_rounds : slot_of counts_even 2 5 0 ≡ None
none_past_rounds = refl

none_past_threads : slot_of counts_even 2 0 2 ≡ None
none_past_threads = refl

-- of a load too large to list
slot_last : slot_of (10000000 ∷ []) 64 9999999 0 ≡ Some (0, 9999999)
slot_last = refl

slot_idle : slot_of (10000000 ∷ []) 64 0 1 ≡ None
slot_idle = refl

-- ---- plans and certificates for the counts 2 and 1 on two threads

abbrev counts_small : List ℕ
counts_small = 2 ∷ 1 ∷ []

-- a round without a slot is allowed
abbrev rounds_late : List (List Slot)
rounds_late = [] ∷ (slot 0 0 0 ∷ slot 1 1 0 ∷ []) ∷ (slot 0 0 1 ∷ []) ∷ []

fault_none : first_plan_fault counts_small 2 ((slot 0 0 0 ∷ slot 1 1 0 ∷ []) ∷ (slot 0 0 1 ∷ []) ∷ []) ≡ None
fault_none = refl

fault_late : first_plan_fault counts_small 2 rounds_late ≡ None
fault_late = refl

lawful_late : StandsForLawful counts_small 2 rounds_late
lawful_late = lawful_from_no_fault counts_small 2 rounds_late refl

fault_lane : first_plan_fault counts_small 2 ((slot 0 0 0 ∷ slot 2 1 0 ∷ []) ∷ (slot 0 0 1 ∷ []) ∷ []) ≡ Some LaneRange
fault_lane = refl

fault_stranger : first_plan_fault counts_small 2 ((slot 0 0 0 ∷ slot 1 1 1 ∷ []) ∷ (slot 0 0 1 ∷ []) ∷ []) ≡ Some Stranger
fault_stranger = refl

fault_twice : first_plan_fault counts_small 2 ((slot 0 0 0 ∷ slot 1 0 1 ∷ []) ∷ (slot 0 1 0 ∷ []) ∷ []) ≡ Some TwiceInRound
fault_twice = refl

fault_order : first_plan_fault counts_small 2 ((slot 0 0 0 ∷ slot 1 1 0 ∷ []) ∷ (slot 0 0 0 ∷ []) ∷ []) ≡ Some OutOfOrder
fault_order = refl

fault_missing : first_plan_fault counts_small 2 ((slot 0 0 0 ∷ slot 1 1 0 ∷ []) ∷ []) ≡ Some Missing
fault_missing = refl

holds_small : Holds counts_small 2 2 (Longest 0)
holds_small = (omega arith, refl)

holds_one_round : Holds counts_small 2 1 FullLoad
holds_one_round = (omega arith, omega arith)

-- two rounds have places for all three chunks, so three rounds are not shown to be needed
not_full_small : Holds counts_small 2 3 FullLoad → ⊥
not_full_small holds = omega (arith, holds.1)

-- ---- two chunks of the wrapped partition exchanged

abbrev rounds_exchanged : List (List Slot)
rounds_exchanged =
    (slot 0 0 0 ∷ slot 1 1 0 ∷ []) ∷ (slot 0 0 1 ∷ slot 1 2 0 ∷ []) ∷ (slot 0 0 2 ∷ slot 1 2 1 ∷ [])
    ∷ (slot 0 1 2 ∷ slot 1 2 2 ∷ []) ∷ (slot 0 1 1 ∷ []) ∷ []

lawful_even : StandsForLawful counts_even 2 rounds_even
lawful_even = lawful_from_no_fault counts_even 2 rounds_even refl

fault_exchanged : first_plan_fault counts_even 2 rounds_exchanged ≡ Some OutOfOrder
fault_exchanged = refl

unlawful_exchanged : StandsForLawful counts_even 2 rounds_exchanged → ⊥
unlawful_exchanged lawful =
    let none : found_fault counts_even 2 rounds_exchanged ≡ None = no_fault_from_lawful counts_even 2 rounds_exchanged lawful in
    let some : found_fault counts_even 2 rounds_exchanged ≡ Some OutOfOrder = refl in
    cc

-- ---- the tests of certificates, on each side of each case

certifies_nothing : certifies (0 ∷ 0 ∷ []) 4 0 Nothing ≡ true
certifies_nothing = refl

not_nothing_rounds : certifies (0 ∷ 0 ∷ []) 4 1 Nothing ≡ false
not_nothing_rounds = refl

not_nothing_chunks : certifies (0 ∷ 1 ∷ []) 4 0 Nothing ≡ false
not_nothing_chunks = refl

certifies_longest : certifies counts_long 3 5 (Longest 0) ≡ true
certifies_longest = refl

not_another : certifies counts_long 3 5 (Longest 1) ≡ false
not_another = refl

not_absent : certifies counts_long 3 0 (Longest 3) ≡ false
not_absent = refl

certifies_full : certifies counts_even 2 5 FullLoad ≡ true
certifies_full = refl

-- eight places have room for eight chunks
not_full_exact : certifies (4 ∷ 4 ∷ []) 2 5 FullLoad ≡ false
not_full_exact = refl

not_full_none : certifies counts_even 2 0 FullLoad ≡ false
not_full_none = refl

least_even : is_least_plan counts_even 2 5 FullLoad ≡ true
least_even = refl

-- a certificate that holds for fewer rounds than any plan has
not_least_even : is_least_plan counts_even 2 4 FullLoad ≡ false
not_least_even = refl

not_certified_even : is_least_plan counts_even 2 5 (Longest 0) ≡ false
not_certified_even = refl
