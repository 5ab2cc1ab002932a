-- The totals after one result more.
use Rattle.std.proofs.Common.{◌≡◌, ℕ, ◌+◌, ◌<◌, ◌≤◌, Bool, true, false, cond, ◌||◌, List, [], ◌∷◌, ◌++◌, map, length, take, drop, Some, Result, Ok, Err, IfOk, refl, sym, ap, subst, ◌∙◌, true≢false, add-zero, append_assoc, arith, length-append}
use Rattle.std.specs.Prelude.{bytes_eq, fold, slice_index_or, unwrap_or}
use Rattle.std.specs.List.{AllByRecursion, IsDistinct, list_any}
use Rattle.std.proofs.lemmas.List.{append-nil, get_or-map, length-map, take-append-drop, take_all, take_more}
use Rattle.std.proofs.lemmas.List.Elements.{filter_map-append}
use Rattle.std.proofs.lemmas.List.Sums.{fold_push, sum_by-append, sum_by-cons, sum_by_push}
use Rattle.std.proofs.lemmas.Slice.Eq.{bytes_eq-Decides}
use Rattle.jb_rows.specs.Fields.{Fields, fields_in}
use Rattle.sales.specs.Amounts.{Amount, amount_at, amount_of, amounts_in, with_amount}
use Rattle.sales.specs.Totals.{AreTotals, AreTotalsSoFar, HaveAdded, IfTooLarge, customers_in, record_of, total_in, totals_in, with_customer}
use Rattle.sales.specs.declared.sums.SumsError.{SumsError}
use Rattle.sales.specs.declared.sums.SumsError.TheVariants as error

-- ---- names

same : (a b : List ℕ) → bytes_eq a b ≡ true → a ≡ b
same a b = (bytes_eq-Decides a b).0

own : (a : List ℕ) → bytes_eq a a ≡ true
own a = (bytes_eq-Decides a a).1 refl

pub turned : (a b : List ℕ) → bytes_eq a b ≡ bytes_eq b a
turned a b =
    elim (bytes_eq a b) as (λ t. bytes_eq a b ≡ t → t ≡ bytes_eq b a) [
      | true ↦ λ equal. sym ((bytes_eq-Decides b a).1 (sym (same a b equal)))
      | false ↦ λ differ. other differ (bytes_eq b a) refl
    ] refl
  where
    other : bytes_eq a b ≡ false → (t : Bool) → bytes_eq b a ≡ t → false ≡ bytes_eq b a
    other differ true equal = sym differ ∙ (bytes_eq-Decides a b).1 (sym (same b a equal)) ∙ sym equal
    other differ false unequal = sym unequal

or-false : (t : Bool) → (t || false) ≡ t
or-false true = refl
or-false false = refl

or-assoc : (a b c : Bool) → (a || (b || c)) ≡ ((a || b) || c)
or-assoc true b c = refl
or-assoc false b c = refl

-- ---- the customers with one more

-- what passes a test is one of before, or the new one
any-with_customer : (test : List ℕ → Bool) (customers : List (List ℕ)) (name : List ℕ)
    → ((first : List ℕ) → bytes_eq name first ≡ true → test first ≡ test name)
    → list_any test (with_customer customers name) ≡ (list_any test customers || test name)
any-with_customer test [] name alike = or-false (test name)
any-with_customer test (first ∷ customers) name alike =
    elim (bytes_eq name first) as (λ t. bytes_eq name first ≡ t → list_any test (cond t (first ∷ customers) (first ∷ with_customer customers name)) ≡ ((test first || list_any test customers) || test name)) [
      | true ↦ λ equal. known (test first) (test name) (list_any test customers) (alike first equal)
      | false ↦ λ differ. ap (λ later. test first || later) (any-with_customer test customers name alike) ∙ or-assoc (test first) (list_any test customers) (test name)
    ] refl
  where
    known : (a b c : Bool) → a ≡ b → (a || c) ≡ ((a || c) || b)
    known true true c e = refl
    known false false c e = sym (or-false c)
    known true false c e = absurd (true≢false e)
    known false true c e = absurd (true≢false (sym e))

all-with_customer : (P : List ℕ → Type 0) (customers : List (List ℕ)) (name : List ℕ) → AllByRecursion P customers → P name → AllByRecursion P (with_customer customers name)
all-with_customer P [] name all new = (new, tt)
all-with_customer P (first ∷ customers) name all new =
    elim (bytes_eq name first) as (λ t. AllByRecursion P (cond t (first ∷ customers) (first ∷ with_customer customers name))) [
      | true ↦ all
      | false ↦ (all.0, all-with_customer P customers name all.1 new)
    ]

once-with_customer : (customers : List (List ℕ)) (name : List ℕ) → IsDistinct bytes_eq customers → IsDistinct bytes_eq (with_customer customers name)
unfolding IsDistinct
once-with_customer [] name once = (tt, tt)
once-with_customer (first ∷ customers) name once =
    elim (bytes_eq name first) as (λ t. bytes_eq name first ≡ t → IsDistinct bytes_eq (cond t (first ∷ customers) (first ∷ with_customer customers name))) [
      | true ↦ λ equal. once
      | false ↦ λ differ. (all-with_customer (λ other. bytes_eq first other ≡ false) customers name once.0 (turned first name ∙ differ), once-with_customer customers name once.1)
    ] refl

-- those of any amounts are distinct, and they are those that have an amount
once-from : (customers : List (List ℕ)) (amounts : List Amount) → IsDistinct bytes_eq customers → IsDistinct bytes_eq (fold (λ those amount. with_customer those amount.0) customers amounts)
once-from customers [] once = once
once-from customers (amount ∷ amounts) once = once-from (with_customer customers amount.0) amounts (once-with_customer customers amount.0 once)

pub customers-once : (amounts : List Amount) → IsDistinct bytes_eq (customers_in amounts)
unfolding IsDistinct
customers-once amounts = once-from [] amounts tt

any-from : (name : List ℕ) (customers : List (List ℕ)) (amounts : List Amount)
    → list_any (bytes_eq name) (fold (λ those amount. with_customer those amount.0) customers amounts) ≡ (list_any (bytes_eq name) customers || list_any (λ amount. bytes_eq name amount.0) amounts)
any-from name customers [] = sym (or-false (list_any (bytes_eq name) customers))
any-from name customers (amount ∷ amounts) =
    any-from name (with_customer customers amount.0) amounts
    ∙ ap (λ (t : Bool). t || list_any (λ (a : Amount). bytes_eq name a.0) amounts)
    (any-with_customer (bytes_eq name) customers amount.0 (λ first equal. ap (bytes_eq name) (sym (same amount.0 first equal))))
    ∙ sym (or-assoc (list_any (bytes_eq name) customers) (bytes_eq name amount.0) (list_any (λ (a : Amount). bytes_eq name a.0) amounts))

pub customers-all : (amounts : List Amount) (name : List ℕ) → list_any (bytes_eq name) (customers_in amounts) ≡ list_any (λ amount. bytes_eq name amount.0) amounts
customers-all amounts name = any-from name [] amounts

-- ---- their totals

abbrev with_totals : (total : List ℕ → ℕ) → (customers : List (List ℕ)) → List Amount
with_totals total customers = map (λ customer. (customer, total customer)) customers

-- the total of a name, or 0
at-total : (total : List ℕ → ℕ) (customers : List (List ℕ)) (name : List ℕ) → (list_any (bytes_eq name) customers ≡ false → total name ≡ 0)
    → unwrap_or (amount_at (with_totals total customers) name) 0 ≡ total name
at-total total [] name none = sym (none refl)
at-total total (first ∷ customers) name none =
    elim (bytes_eq name first) as (λ t. bytes_eq name first ≡ t → unwrap_or (cond t (Some (total first)) (amount_at (with_totals total customers) name)) 0 ≡ total name) [
      | true ↦ λ equal. ap total (sym (same name first equal))
      | false ↦ λ differ. at-total total customers name (λ nobody. none (rw differ nobody))
    ] refl

module _ (name : List ℕ) (cents : ℕ) (before after : List ℕ → ℕ) (is : (customer : List ℕ) → after customer ≡ before customer + cond (bytes_eq name customer) cents 0) where
  -- the total of nobody else changes
  unchanged : (customers : List (List ℕ)) → AllByRecursion (λ other. bytes_eq name other ≡ false) customers → with_totals after customers ≡ with_totals before customers
  unchanged [] others = refl
  unchanged (first ∷ customers) others =
      let total : after first ≡ before first = is first ∙ rw others.0 (add-zero (before first)) in
      ap (λ (t : ℕ). (first, t) ∷ with_totals after customers) total ∙ ap (λ (later : List Amount). (first, before first) ∷ later) (unchanged customers others.1)

  -- and that of the name is put in its place, or behind the others
  one-total : (customers : List (List ℕ)) → IsDistinct bytes_eq customers → (list_any (bytes_eq name) customers ≡ false → before name ≡ 0)
      → with_totals after (with_customer customers name) ≡ with_amount (with_totals before customers) name (before name + cents)
  unfolding IsDistinct
  one-total [] once none = ap (λ (t : ℕ). (name, t) ∷ []) (is name ∙ rw (own name) refl)
  one-total (first ∷ customers) once none =
      elim (bytes_eq name first) as (λ t. bytes_eq name first ≡ t → with_totals after (cond t (first ∷ customers) (first ∷ with_customer customers name))
      ≡ cond t ((first, before name + cents) ∷ with_totals before customers) ((first, before first) ∷ with_amount (with_totals before customers) name (before name + cents))) [
        | true ↦ λ equal.
            let total : after first ≡ before name + cents = is first ∙ rw (equal, same name first equal) refl in
            let others : AllByRecursion (λ other. bytes_eq name other ≡ false) customers =
            subst (λ (n : List ℕ). AllByRecursion (λ other. bytes_eq n other ≡ false) customers) (sym (same name first equal)) once.0 in
            ap (λ (t : ℕ). (first, t) ∷ with_totals after customers) total ∙ ap (λ (later : List Amount). (first, before name + cents) ∷ later) (unchanged customers others)
        | false ↦ λ differ.
            let total : after first ≡ before first = is first ∙ rw differ (add-zero (before first)) in
            ap (λ (t : ℕ). (first, t) ∷ with_totals after (with_customer customers name)) total
            ∙ ap (λ (later : List Amount). (first, before first) ∷ later) (one-total customers once.1 (λ nobody. none (rw differ nobody)))
      ] refl

-- who has no amount has the total 0
total-none : (amounts : List Amount) (name : List ℕ) → list_any (λ amount. bytes_eq name amount.0) amounts ≡ false → total_in amounts name ≡ 0
total-none [] name none = refl
total-none (amount ∷ amounts) name none =
    elim (bytes_eq name amount.0) as (λ t. bytes_eq name amount.0 ≡ t → (t || list_any (λ amount. bytes_eq name amount.0) amounts) ≡ false → total_in (amount ∷ amounts) name ≡ 0) [
      | true ↦ λ equal found. absurd (true≢false found)
      | false ↦ λ differ later.
          sum_by-cons (λ a. cond (bytes_eq a.0 name) a.1 0) amount amounts ∙ rw (turned amount.0 name, differ, total-none amounts name later) refl
    ] refl none

-- ---- one result more

pub amounts-more : (results : List Fields) (row : Fields) (amount : Amount) → amount_of row ≡ Some amount → amounts_in (results ++ row ∷ []) ≡ amounts_in results ++ amount ∷ []
amounts-more results row amount is = filter_map-append amount_of results (row ∷ []) ∙ rw is refl

customers-more : (amounts : List Amount) (amount : Amount) → customers_in (amounts ++ amount ∷ []) ≡ with_customer (customers_in amounts) amount.0
customers-more amounts amount = fold_push (λ customers amount. with_customer customers amount.0) [] amounts amount

total-more : (amounts : List Amount) (amount : Amount) (customer : List ℕ) → total_in (amounts ++ amount ∷ []) customer ≡ total_in amounts customer + cond (bytes_eq amount.0 customer) amount.1 0
total-more amounts amount customer = sum_by_push (λ a. cond (bytes_eq a.0 customer) a.1 0) amounts amount

-- who is no customer has the total 0
nobody-pays : (amounts : List Amount) (name : List ℕ) → list_any (bytes_eq name) (customers_in amounts) ≡ false → total_in amounts name ≡ 0
nobody-pays amounts name nobody = total-none amounts name (sym (customers-all amounts name) ∙ nobody)

-- the total of a name as it is found there
found-total : (results : List Fields) (totals : List Amount) (name : List ℕ) → AreTotalsSoFar results totals → unwrap_or (amount_at totals name) 0 ≡ total_in (amounts_in results) name
found-total results totals name so_far = rw so_far.sums (at-total (total_in (amounts_in results)) (customers_in (amounts_in results)) name (nobody-pays (amounts_in results) name))

more-results : (results : List Fields) (row : Fields) (totals : List Amount) (amount : Amount) → amount_of row ≡ Some amount → AreTotalsSoFar results totals
    → AreTotalsSoFar (results ++ row ∷ []) (with_amount totals amount.0 (unwrap_or (amount_at totals amount.0) 0 + amount.1))
more-results results row totals amount is so_far =
    let amounts : List Amount = amounts_in results in
    let more : amounts_in (results ++ row ∷ []) ≡ amounts ++ amount ∷ [] = amounts-more results row amount is in
    let sums : with_totals (total_in (amounts ++ amount ∷ [])) (with_customer (customers_in amounts) amount.0)
    ≡ with_amount (totals_in amounts) amount.0 (total_in amounts amount.0 + amount.1) =
    one-total amount.0 amount.1 (total_in amounts) (total_in (amounts ++ amount ∷ [])) (total-more amounts amount) (customers_in amounts) (customers-once amounts) (nobody-pays amounts amount.0) in
    record {
      whole = ap length more ∙ length-append amounts (amount ∷ []) ∙ ap (λ (n : ℕ). n + 1) so_far.whole ∙ sym (length-append results (row ∷ []));
      sums = ap (λ (cents : ℕ). with_amount totals amount.0 (cents + amount.1)) (found-total results totals amount.0 so_far)
          ∙ ap (λ (those : List Amount). with_amount those amount.0 (total_in amounts amount.0 + amount.1)) so_far.sums
          ∙ sym sums ∙ ap (with_totals (total_in (amounts ++ amount ∷ []))) (sym (customers-more amounts amount)) ∙ ap totals_in (sym more);
    }

-- ---- in a loop over the results, after earlier ones

module _ (earlier results : List Fields) (number : ℕ) (row : Fields) (totals : List Amount) (name : List ℕ) (cents : ℕ) (below : number < length results)
    (this : row ≡ slice_index_or results number []) (is : Some (name, cents) ≡ amount_of row) (so_far : AreTotalsSoFar (earlier ++ take number results) totals) where
  front : earlier ++ take (number + 1) results ≡ (earlier ++ take number results) ++ row ∷ []
  front =
      ap (λ (those : List Fields). earlier ++ those) (take_more results number [] below ∙ ap (λ (last : Fields). take number results ++ last ∷ []) (sym this))
      ∙ sym (append_assoc earlier (take number results) (row ∷ []))

  pub one-more : (after : List Amount) → after ≡ with_amount totals name (unwrap_or (amount_at totals name) 0 + cents) → AreTotalsSoFar (earlier ++ take (number + 1) results) after
  one-more after put =
      subst (AreTotalsSoFar (earlier ++ take (number + 1) results)) (sym put)
      (subst (λ (those : List Fields). AreTotalsSoFar those (with_amount totals name (unwrap_or (amount_at totals name) 0 + cents))) (sym front)
      (more-results (earlier ++ take number results) row totals (name, cents) (sym is) so_far))

  -- a sum that is too large is no larger than the total of all results
  pub too-large : (limit : ℕ) → limit ≤ unwrap_or (amount_at totals name) 0 + cents → limit ≤ total_in (amounts_in (earlier ++ results)) name
  too-large limit above =
      let before : List Fields = earlier ++ take number results in
      let later : List Fields = drop (number + 1) results in
      let sum : unwrap_or (amount_at totals name) 0 + cents ≡ total_in (amounts_in (before ++ row ∷ [])) name =
      ap (λ (those : ℕ). those + cents) (found-total before totals name so_far)
      ∙ rw (own name) at (sym (total-more (amounts_in before) (name, cents) name))
      ∙ ap (λ (those : List Amount). total_in those name) (sym (amounts-more before row (name, cents) (sym is))) in
      let all : earlier ++ results ≡ (before ++ row ∷ []) ++ later =
      ap (λ (those : List Fields). earlier ++ those) (sym (take-append-drop (number + 1) results))
      ∙ sym (append_assoc earlier (take (number + 1) results) later) ∙ ap (λ (those : List Fields). those ++ later) front in
      let whole : total_in (amounts_in (earlier ++ results)) name ≡ total_in (amounts_in (before ++ row ∷ [])) name + total_in (amounts_in later) name =
      ap (λ (those : List Fields). total_in (amounts_in those) name) all
      ∙ ap (λ (those : List Amount). total_in those name) (filter_map-append amount_of (before ++ row ∷ []) later)
      ∙ sum_by-append (λ (a : Amount). cond (bytes_eq a.0 name) a.1 0) (amounts_in (before ++ row ∷ [])) (amounts_in later) in
      omega arith

pub none-added : (totals : List Amount) → HaveAdded totals totals []
none-added totals earlier so_far = subst (λ (those : List Fields). AreTotalsSoFar those totals) (sym (append-nil earlier)) so_far

-- ---- of results that are packed

pub fewer : (packed : List (List ℕ)) (number : ℕ) → number < length packed → number < length (map fields_in packed)
fewer packed number below = rw (length-map packed fields_in) below

pub packed-row : (packed : List (List ℕ)) (number : ℕ) (bytes : List ℕ) (row : Fields) → number < length packed → bytes ≡ slice_index_or packed number [] → row ≡ fields_in bytes
    → row ≡ slice_index_or (map fields_in packed) number []
packed-row packed number bytes row below at is = is ∙ ap fields_in at ∙ sym (get_or-map fields_in packed number [] [] below)

pub at-end : (packed : List (List ℕ)) (number : ℕ) (before after : List Amount) → length packed ≤ number → HaveAdded before after (take number (map fields_in packed)) → HaveAdded before after (map fields_in packed)
at-end packed number before after past added = subst (HaveAdded before after) (take_all number (map fields_in packed) (rw (length-map packed fields_in) past)) added

-- ---- as records

pub as-records : {E : Type 0} (results : List Fields) (totals : List Amount) (rows : Result (List Fields) E) → AreTotalsSoFar results totals
    → IfOk rows (λ those. those ≡ map record_of totals) → IfOk rows (AreTotals (amounts_in results))
as-records results totals (Ok rows) so_far are =
    record { sums = are ∙ ap (map record_of) so_far.sums; once = customers-once (amounts_in results); all = customers-all (amounts_in results) }
as-records results totals (Err why) so_far are = tt

pub if-too-large : {P Q : Type 0} (why : SumsError) → (P → Q) → IfTooLarge why P → IfTooLarge why Q
if-too-large (error.NoAmount number) follows is = tt
if-too-large (error.TooLarge number) follows is = follows is
if-too-large error.Memory follows is = tt
