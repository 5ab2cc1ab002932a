-- What is made from a slot function: the cursor's fields, and the slots of a round.
use Rattle.std.proofs.Common.{◌≡◌, ℕ, zero, suc, ◌+◌, ◌-◌, ◌*◌, ◌≤◌, Bool, true, false, cond, ltb, ◌&&◌, sum, add-zero, zero-add, List, [], ◌∷◌, ◌++◌, map-id, filter_map, Option, Some, None, option_map, sym, ◌∙◌, refl, ap, subst, arith, append-nil}
use Rattle.std.specs.List.{range_with_len, cons_option}
use Rattle.std.proofs.lemmas.List.FromFn.{map-range_with_len_more}
use Rattle.std.proofs.lemmas.List.Elements.{filter_map-append}
use Rattle.std.proofs.lemmas.Bool.Decides.{nat_tests}
use Rattle.std.proofs.Math.Nat.{mul-le-mul_right}
use Rattle.jb_cert.specs.declared.plans.Slot.{Slot}
use Rattle.jb_cert.specs.declared.certificates.Certificate.{Certificate}
use Rattle.jb_cert.specs.Load.{IsWithinLimits, mcnaughton}
use Rattle.jb_cert.specs.Lawful.{Pair}
use Rattle.jb_cert.specs.Certificates.{bound_certificate}
use Rattle.jb_cert.specs.WrapAround.{pair_at_place, slot_of, in_lane, lane_slot, slots_of_round}
use Rattle.jb_rounds.specs.inside.Starts.{starts_from, counts_between}
use Rattle.jb_rounds.specs.inside.Index.{IsIndexOf}
use Rattle.jb_rounds.proofs.PrefixSums.{counts_between-starts_from}

pub counts_made : (counts starts : List ℕ) → starts ≡ starts_from 0 counts → counts_between starts ≡ counts
counts_made counts starts is = ap counts_between is ∙ counts_between-starts_from 0 counts

pub index_made : (counts starts : List ℕ) (threads rounds : ℕ) (certificate : Certificate) → starts ≡ starts_from 0 counts → IsWithinLimits counts threads → rounds ≡ mcnaughton counts threads → rounds ≤ sum counts → sum counts ≤ rounds * threads → certificate ≡ bound_certificate counts threads → IsIndexOf starts threads rounds certificate
index_made counts starts threads rounds certificate is limits bound few room certificate_is =
    let same : counts ≡ counts_between starts = sym (counts_made counts starts is) in
    record {
      indexed = is ∙ ap (starts_from 0) same;
      limits = subst (λ (cs : List ℕ). IsWithinLimits cs threads) same limits;
      bound = bound ∙ ap (λ (cs : List ℕ). mcnaughton cs threads) same;
      few_rounds = subst (λ (cs : List ℕ). rounds ≤ sum cs) same few;
      room = subst (λ (cs : List ℕ). sum cs ≤ rounds * threads) same room;
      certificate_is = certificate_is ∙ ap (λ (cs : List ℕ). bound_certificate cs threads) same;
    }

-- ---- one more lane of a round

range-more : (n : ℕ) → range_with_len 0 (n + 1) ≡ range_with_len 0 n ++ n ∷ []
range-more n =
    sym (map-id (range_with_len 0 (n + 1))) ∙ map-range_with_len_more (λ (k : ℕ). k) 0 n n (zero-add n) ∙ ap (λ (ks : List ℕ). ks ++ n ∷ []) (map-id (range_with_len 0 n))

-- one more number
filter_map-range_more : {Y : Type 0} (f : ℕ → Option Y) (n : ℕ) → filter_map f (range_with_len 0 (n + 1)) ≡ filter_map f (range_with_len 0 n) ++ cons_option (f n) []
filter_map-range_more f n = ap (filter_map f) (range-more n) ∙ filter_map-append f (range_with_len 0 n) (n ∷ [])

pub lane_step : (counts : List ℕ) (threads r l : ℕ) (slot : Option Pair) → slot ≡ slot_of counts threads r l → filter_map (lane_slot counts threads r) (range_with_len 0 (l + 1)) ≡ filter_map (lane_slot counts threads r) (range_with_len 0 l) ++ cons_option (option_map (in_lane l) slot) []
lane_step counts threads r l slot is =
    filter_map-range_more (lane_slot counts threads r) l ∙ ap (λ (s : Option Pair). filter_map (lane_slot counts threads r) (range_with_len 0 l) ++ cons_option (option_map (in_lane l) s) []) (sym is)

-- the slots of a round, and what its next lane adds
abbrev pub grow : Option Pair → ℕ → List Slot → List Slot
grow slot l slots = slots ++ cons_option (option_map (in_lane l) slot) []

pub with_slot : (slots : List Slot) (l : ℕ) (slot : Option Pair) (u : Pair) → slot ≡ Some u → slots ++ in_lane l u ∷ [] ≡ slots ++ cons_option (option_map (in_lane l) slot) []
with_slot slots l slot u is = sym (ap (λ (o : Option Pair). slots ++ cons_option (option_map (in_lane l) o) []) is)

-- ---- past the last chunk

test_fails : (b : Bool) (u : Pair) → cond b (Some u) None ≡ None → b ≡ false
test_fails true u is = cc
test_fails false u is = refl

later_fails : (r L l k m x y s : ℕ) → l ≤ k → x ≤ y → (ltb r L && ltb l m && ltb (x + r) s) ≡ false → (ltb r L && ltb k m && ltb (y + r) s) ≡ false
later_fails r L l k m x y s lanes places is = grind (arith, nat_tests)

-- a lane behind one that has no chunk in a round has none there either
none_behind : (counts : List ℕ) (threads r l k : ℕ) → l ≤ k → slot_of counts threads r l ≡ None → slot_of counts threads r k ≡ None
none_behind counts threads r l k behind none =
    let L : ℕ = mcnaughton counts threads in
    let fails = test_fails (ltb r L && ltb l threads && ltb (l * L + r) (sum counts)) (pair_at_place counts L (l * L + r)) none in
    let later = later_fails r L l k threads (l * L) (k * L) (sum counts) behind (mul-le-mul_right L behind) fails in
    ap (λ (b : Bool). cond b (Some (pair_at_place counts L (k * L + r))) None) later

pub nothing_behind : (counts : List ℕ) (threads r l more : ℕ) → slot_of counts threads r l ≡ None → filter_map (lane_slot counts threads r) (range_with_len 0 (l + more)) ≡ filter_map (lane_slot counts threads r) (range_with_len 0 l)
nothing_behind counts threads r l zero none = ap (λ (n : ℕ). filter_map (lane_slot counts threads r) (range_with_len 0 n)) (add-zero l)
nothing_behind counts threads r l (suc more) none =
    let next : l + suc more ≡ (l + more) + 1 = omega arith in
    let here : slot_of counts threads r (l + more) ≡ None = none_behind counts threads r l (l + more) (omega arith) none in
    ap (λ (n : ℕ). filter_map (lane_slot counts threads r) (range_with_len 0 n)) next
    ∙ lane_step counts threads r (l + more) None (sym here)
    ∙ append-nil (filter_map (lane_slot counts threads r) (range_with_len 0 (l + more)))
    ∙ nothing_behind counts threads r l more none

-- so the slots before such a lane are those of the whole round
pub whole_round : (counts : List ℕ) (threads r l : ℕ) → l ≤ threads → slot_of counts threads r l ≡ None → filter_map (lane_slot counts threads r) (range_with_len 0 l) ≡ slots_of_round counts threads r
whole_round counts threads r l within none =
    let all : l + (threads - l) ≡ threads = omega arith in
    sym (nothing_behind counts threads r l (threads - l) none) ∙ ap (λ (n : ℕ). filter_map (lane_slot counts threads r) (range_with_len 0 n)) all
