-- Which lanes have a slot in a round.
use Rattle.std.proofs.Common.{◌≡◌, ℕ, ◌+◌, ◌-◌, ◌*◌, ◌<◌, ◌≤◌, true, false, Bool, cond, ltb, ◌&&◌, List, length, sum, slice_index, Option, Some, None, IsSome, is_some, IfSome, sym, ap, subst, inl, inr, arith}
use Rattle.std.specs.Int.{div_ceil}
use Rattle.std.proofs.lemmas.Bool.{cases_lt}
use Rattle.std.proofs.lemmas.Bool.Decides.{nat_tests}
use Rattle.std.proofs.lemmas.Grind.{div_ceil_times}
use Rattle.std.proofs.Math.Nat.{mul-le-mul_right}
use Rattle.jb_cert.specs.Load.{Load, mcnaughton}
use Rattle.jb_cert.specs.Lawful.{Pair}
use Rattle.jb_cert.specs.Laws.{SlotsAreKnown}
use Rattle.jb_cert.specs.WrapAround.{pair_at_place, slot_of}

-- the tests of a slot
abbrev tests : ℕ → ℕ → ℕ → ℕ → ℕ → ℕ → Bool
tests r rounds l threads x chunks = ltb r rounds && ltb l threads && ltb x chunks

pass : (r rounds l threads x chunks : ℕ) → r < rounds → l < threads → x < chunks → tests r rounds l threads x chunks ≡ true
pass r rounds l threads x chunks a b c = grind (arith, nat_tests)

fail_round : (r rounds l threads x chunks : ℕ) → rounds ≤ r → tests r rounds l threads x chunks ≡ false
fail_round r rounds l threads x chunks past = grind (arith, nat_tests)

fail_lane : (r rounds l threads x chunks : ℕ) → threads ≤ l → tests r rounds l threads x chunks ≡ false
fail_lane r rounds l threads x chunks past = grind (arith, nat_tests)

fail_place : (r rounds l threads x chunks : ℕ) → chunks ≤ x → tests r rounds l threads x chunks ≡ false
fail_place r rounds l threads x chunks past = grind (arith, nat_tests)

module _ (counts : List ℕ) (threads r l : ℕ) where
  abbrev by_tests : Bool → Option Pair
  by_tests b = cond b (Some (pair_at_place counts (mcnaughton counts threads) (l * mcnaughton counts threads + r))) None

  pub none_past_rounds : mcnaughton counts threads ≤ r → slot_of counts threads r l ≡ None
  none_past_rounds past = ap by_tests (fail_round r (mcnaughton counts threads) l threads (l * mcnaughton counts threads + r) (sum counts) past)

  pub none_past_threads : threads ≤ l → slot_of counts threads r l ≡ None
  none_past_threads past = ap by_tests (fail_lane r (mcnaughton counts threads) l threads (l * mcnaughton counts threads + r) (sum counts) past)

  pub none_past_chunks : sum counts ≤ l * mcnaughton counts threads + r → slot_of counts threads r l ≡ None
  none_past_chunks past = ap by_tests (fail_place r (mcnaughton counts threads) l threads (l * mcnaughton counts threads + r) (sum counts) past)

  pub some_before : r < mcnaughton counts threads → l < threads → l * mcnaughton counts threads + r < sum counts → IsSome (slot_of counts threads r l)
  some_before round lane place =
      ap (λ (b : Bool). is_some (by_tests b)) (pass r (mcnaughton counts threads) l threads (l * mcnaughton counts threads + r) (sum counts) round lane place)

  -- what stands there is known
  pub partition_known : SlotsAreKnown → (o : Option Pair) → o ≡ slot_of counts threads r l → IfSome o (λ slot. slot.0 < length counts)
  partition_known law (Some u) is = (law counts threads r l u.0 u.1 (sym is)).0
  partition_known law None is = search

  pub chunk_known : SlotsAreKnown → (o : Option Pair) → o ≡ slot_of counts threads r l → IfSome o (λ slot. slot.1 < slice_index counts slot.0)
  chunk_known law (Some u) is = (law counts threads r l u.0 u.1 (sym is)).1
  chunk_known law None is = search

-- how many lanes have a place before the last chunk
module _ (chunks rounds r : ℕ) (some : 0 < rounds) where
  pub lane_before : (l : ℕ) → l < div_ceil (chunks - r) rounds → l * rounds + r < chunks
  lane_before l below =
      let times = div_ceil_times (chunks - r) rounds some in
      let next : (l + 1) * rounds ≤ div_ceil (chunks - r) rounds * rounds = mul-le-mul_right rounds (omega arith) in
      omega (arith, times.1, next)

  pub lane_past : (l : ℕ) → div_ceil (chunks - r) rounds ≤ l → chunks ≤ l * rounds + r
  lane_past l past =
      let times = div_ceil_times (chunks - r) rounds some in
      let rows : div_ceil (chunks - r) rounds * rounds ≤ l * rounds = mul-le-mul_right rounds past in
      omega (arith, times.0, rows)

  pub lanes_within : (threads : ℕ) → chunks ≤ rounds * threads → div_ceil (chunks - r) rounds ≤ threads
  lanes_within threads room = elim (cases_lt threads (div_ceil (chunks - r) rounds)) [
    | inl more ↦ absurd (omega (arith, lane_before threads more, room))
    | inr few ↦ few
  ]

-- the first n lanes have a slot in the round, and no other
pub record BusyLanes (load : Load) (r n : ℕ) : Type 0 where
  pub few : n ≤ load.threads
  pub busy : (l : ℕ) → l < n → IsSome (slot_of load.counts load.threads r l)
  pub idle : (l : ℕ) → n ≤ l → slot_of load.counts load.threads r l ≡ None

pub busy_lanes_are : (load : Load) (r rounds n : ℕ) → rounds ≡ mcnaughton load.counts load.threads → sum load.counts ≤ rounds * load.threads → r < rounds → n ≡ div_ceil (sum load.counts - r) rounds → BusyLanes load r n
busy_lanes_are load r rounds n bound room within is =
    let counts : List ℕ = load.counts in
    let threads : ℕ = load.threads in
    let some : 0 < rounds = omega arith in
    let few : n ≤ threads = omega (arith, is, lanes_within (sum counts) rounds r some threads room) in
    record {
      few = few;
      busy = λ l below.
          let place : l * rounds + r < sum counts = lane_before (sum counts) rounds r some l (omega (arith, is)) in
          some_before counts threads r l (omega (arith, bound)) (omega (arith, few)) (subst (λ (k : ℕ). l * k + r < sum counts) bound place);
      idle = λ l past.
          let place : sum counts ≤ l * rounds + r = lane_past (sum counts) rounds r some l (omega (arith, is)) in
          none_past_chunks counts threads r l (subst (λ (k : ℕ). sum counts ≤ l * k + r) bound place);
    }
