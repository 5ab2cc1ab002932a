-- The lanes of a round: the busy ones, and behind them the idle ones.
use Rattle.std.proofs.Common.{◌≡◌, ℕ, zero, suc, add-one, ◌+◌, ◌-◌, ◌*◌, ◌≤◌, ◌<◌, List, [], ◌∷◌, ◌++◌, map, take, codes, decimal, Some, None, option_map, refl, ap, sym, ◌∙◌, append_assoc, append-nil, arith}
use Rattle.std.specs.List.{concat, range_with_len}
use Rattle.jb_cert.specs.Laws.{LanesAreFound}
use Rattle.jb_cert.specs.Lawful.{Pair}
use Rattle.jb_cert.specs.WrapAround.{in_lane, slot_of, slots_of_round}
use Rattle.jb_texts.specs.PlanText.{lane_text, slot_text}
use Rattle.jb_texts.specs.inside.Idle.{idle_text}
use Rattle.jb_texts.proofs.Writing.{lane_more}

pub busy-lane : LanesAreFound → (counts : List ℕ) (threads r l : ℕ) (pair : Pair) → l < threads → slot_of counts threads r l ≡ Some pair
    → lane_text (slots_of_round counts threads r) l ≡ 32 ∷ (decimal pair.0 ++ 46 ∷ decimal pair.1)
unfolding lane_text
busy-lane law counts threads r l pair within is = ap (λ slot. codes " " ++ slot_text slot) (law counts threads r l within ∙ ap (option_map (in_lane l)) is)

pub idle-lane : LanesAreFound → (counts : List ℕ) (threads r l : ℕ) → l < threads → slot_of counts threads r l ≡ None
    → lane_text (slots_of_round counts threads r) l ≡ 32 ∷ 45 ∷ []
unfolding lane_text
idle-lane law counts threads r l within is = ap (λ slot. codes " " ++ slot_text slot) (law counts threads r l within ∙ ap (option_map (in_lane l)) is)

idle-more : (n : ℕ) → idle_text n ++ 32 ∷ 45 ∷ [] ≡ idle_text (suc n)
idle-more zero = refl
idle-more (suc n) = ap (λ text. 32 ∷ 45 ∷ text) (idle-more n)

-- so many first lanes, and then so many idle ones
pub lanes-split : (f : ℕ → List ℕ) (busy idle : ℕ) → ((l : ℕ) → busy ≤ l → l < busy + idle → f l ≡ 32 ∷ 45 ∷ [])
    → concat (map f (range_with_len 0 busy)) ++ idle_text idle ≡ concat (map f (range_with_len 0 (busy + idle)))
lanes-split f busy zero h = let same : busy + 0 ≡ busy = omega arith in rw same (append-nil (concat (map f (range_with_len 0 busy))))
lanes-split f busy (suc idle) h =
    let lanes = concat (map f (range_with_len 0 busy)) in
    let last : f (busy + idle) ≡ 32 ∷ 45 ∷ [] = h (busy + idle) (omega arith) (omega arith) in
    let before = lanes-split f busy idle (λ l from to. h l from (omega (arith, to))) in
    let more : busy + idle + 1 ≡ busy + suc idle = omega arith in
    ap (λ text. lanes ++ text) (sym (idle-more idle)) ∙ sym (append_assoc lanes (idle_text idle) (32 ∷ 45 ∷ []))
    ∙ (λ i. before i ++ sym last i) ∙ sym (lane_more f (busy + idle)) ∙ ap (λ n. concat (map f (range_with_len 0 n))) more

-- the first ones of idle lanes
pub take-idle : (n m : ℕ) → n ≤ m → take (2 * n) (idle_text m) ≡ idle_text n
take-idle zero m h = refl
take-idle (suc n) zero h = absurd (omega (arith, h))
take-idle (suc n) (suc m) h =
    let twice : 2 * suc n ≡ suc (suc (2 * n)) = omega arith in
    rw twice (ap (λ text. 32 ∷ 45 ∷ text) (take-idle n m (omega (arith, h))))

-- one lane before the lanes behind it
pub lane-before : (f : ℕ → List ℕ) (lanes behind : ℕ) → behind < lanes
    → concat (map f (range_with_len (lanes - (behind + 1)) (behind + 1))) ≡ f (lanes - 1 - behind) ++ concat (map f (range_with_len (lanes - behind) behind))
lane-before f lanes behind some =
    let this : lanes - suc behind ≡ lanes - 1 - behind = omega arith in
    let next : lanes - suc behind + 1 ≡ lanes - behind = omega (arith, some) in
    rw (add-one behind) (λ i. f (this i) ++ concat (map f (range_with_len (next i) behind)))
