-- Counts of a document, each of which is bounded.
use Rattle.std.proofs.Common.{◌≡◌, ℕ, suc, ◌+◌, ◌*◌, ◌≤◌, ◌&&◌, nat_le, Bool, true, false, List, [], ◌∷◌, ◌++◌, length, sum, Option, Some, None, Ok, Err, arith, refl, sym, subst}
use Rattle.std.proofs.lemmas.Bool.Decides.{nat_tests}
use Rattle.std.proofs.lemmas.List.Sums.{sum_by_push}
use Rattle.serde_json.specs.View.{items_view}
use Rattle.serde_json.specs.declared.value.Value.{Value}
use Rattle.serde_json.proofs.Views.{items_len-items_view}
use Rattle.serde_json.specs.Data.{Data, Items, no_items, item}
use Rattle.serde_json.specs.Events.{items_len}
use Rattle.jb_job.specs.declared.field.Field.{Field}
use Rattle.jb_job.specs.Reading.{Read, ◌>>=◌, each_after, each_at, number_at, ranged, shaped, whole_number}

-- the number that is read, if one is, is at most `high`
Within : (high : ℕ) → Read ℕ → Type 0
Within high (Ok n) = n ≤ high
Within high (Err fault) = Unit {0}

ranged-within : (f : Field) (high n : ℕ) (b : Bool) → (b ≡ true → n ≤ high) → Within high (ranged f b n)
unfolding Within
ranged-within f high n true h = h refl
ranged-within f high n false h = tt

below : (high n : ℕ) → (nat_le 0 n && nat_le n high) ≡ true → n ≤ high
below high n e = grind (arith, nat_tests)

shaped-within : (f : Field) (high : ℕ) (o : Option ℕ) → Within high (shaped f o >>= λ n. ranged f (nat_le 0 n && nat_le n high) n)
unfolding Within
shaped-within f high None = tt
shaped-within f high (Some n) = ranged-within f high n _ (below high n)

number-within : (f : Field) (high : ℕ) (d : Data) → Within high (number_at 0 high f d)
unfolding number_at
number-within f high d = shaped-within f high (whole_number d)

-- the sum of the list that is read, if one is, is at most `bound`
SumWithin : (bound : ℕ) → Read (List ℕ) → Type 0
SumWithin bound (Ok counts) = sum counts ≤ bound
SumWithin bound (Err fault) = Unit {0}

wider : (bound wide : ℕ) (read : Read (List ℕ)) → bound ≤ wide → SumWithin bound read → SumWithin wide read
unfolding SumWithin
wider bound wide (Ok counts) h within = omega arith
wider bound wide (Err fault) h within = tt

one-more : (f : Field) (high : ℕ) (done : List ℕ) (ds : Items) (one : Read ℕ) → Within high one
    → ((more : List ℕ) → SumWithin (sum more + items_len ds * high) (each_after (λ _. number_at 0 high f) more ds))
    → SumWithin (sum done + suc (items_len ds) * high) (one >>= λ n. each_after (λ _. number_at 0 high f) (done ++ n ∷ []) ds)
unfolding Within SumWithin
one-more f high done ds (Ok n) within later = wider _ _ _ (grind (arith, sum_by_push (λ x. x) done n)) (later (done ++ n ∷ []))
one-more f high done ds (Err fault) within later = tt

after-within : (f : Field) (high : ℕ) (items : Items) (done : List ℕ) → SumWithin (sum done + items_len items * high) (each_after (λ _. number_at 0 high f) done items)
unfolding SumWithin
after-within f high no_items done = omega arith
after-within f high (item d ds) done = one-more f high done ds (number_at 0 high f d) (number-within f high d) (after-within f high ds)

given-within : (bound : ℕ) (counts : List ℕ) (read : Read (List ℕ)) → read ≡ Ok counts → SumWithin bound read → sum counts ≤ bound
unfolding SumWithin
given-within bound counts read e within = subst (SumWithin bound) e within

-- the sum of a list of counts of at most `high` each
pub sum-each : (f : Field) (high : ℕ) (vs : List Value) (counts : List ℕ) → each_at (λ _. number_at 0 high f) (items_view vs) ≡ Ok counts → sum counts ≤ length vs * high
sum-each f high vs counts e =
    let within : sum counts ≤ 0 + items_len (items_view vs) * high = given-within _ counts _ e (after-within f high (items_view vs) []) in
    rw (sym (items_len-items_view vs)) (omega (arith, within))
