-- The refusal of the lowest lane, report by report.
use Rattle.std.proofs.Common.{◌≡◌, ℕ, ◌++◌, ◌∷◌, ◌<◌, ◌≤◌, nat_lt, Bool, true, false, if◌then◌else◌, [], List, Ok, Err, Option, Some, None, refl, ap, ◌∙◌, arith}
use Rattle.std.proofs.lemmas.List.{append_assoc}
use Rattle.std.proofs.lemmas.List.Elements.{All-push}
use Rattle.std.proofs.lemmas.Bool.Decides.{nat_tests}
use Rattle.std.specs.Result.{IsOk}
use Rattle.jb_chunk.specs.declared.outcome.Done.{Done}
use Rattle.jb_workers.specs.declared.round.error.RoundError.{RoundError}
use Rattle.jb_workers.specs.declared.round.report.Report.{Report}
use Rattle.jb_workers.specs.Round.{AreDoneBelow}
use Rattle.jb_workers.specs.inside.Gathered.{lower, IsFoundAt, IsFoundIn}

is_ok-of : {T : Type 0} (r : Report T) (d : Done T) → r.done ≡ Ok d → IsOk r.done
is_ok-of r d h = rw h refl

-- a report of an attempt
pub found-done : {T : Type 0} (rs : List (Report T)) (r : Report T) (d : Done T) (found : Option (ℕ × RoundError)) → IsFoundIn rs found → r.done ≡ Ok d → IsFoundIn (rs ++ r ∷ []) found
found-done rs r d None h k = All-push (λ report. IsOk report.done) rs r h (is_ok-of r d k)
found-done rs r d (Some (lane, why)) h k =
    let old = h.refusal in
    record {
      refusal = record {
        lowest = old.lowest;
        before = old.before;
        after = old.after ++ r ∷ [];
        among = ap (λ xs. xs ++ r ∷ []) old.among ∙ append_assoc old.before (old.lowest ∷ old.after) (r ∷ []);
        refused = old.refused;
        lower = All-push (λ report. report.lane < old.lowest.lane → IsOk report.done) rs r old.lower (λ lt. is_ok-of r d k);
      };
      is = h.is;
    }

-- the first report of a refusal, or one of a lower lane
newer : {T : Type 0} (rs : List (Report T)) (r : Report T) (why : RoundError) → r.done ≡ Err why → AreDoneBelow r.lane rs → IsFoundAt (rs ++ r ∷ []) r.lane why
newer rs r why k below = record {
  refusal = record {
    lowest = r;
    before = rs;
    after = [];
    among = refl;
    refused = k;
    lower = All-push (λ report. report.lane < r.lane → IsOk report.done) rs r below (λ lt. absurd (omega (arith, lt)));
  };
  is = refl;
}

lower-by : {T : Type 0} (rs : List (Report T)) (r : Report T) (lane : ℕ) (earlier why : RoundError) (b : Bool) → nat_lt r.lane lane ≡ b → IsFoundAt rs lane earlier → r.done ≡ Err why
    → IsFoundIn (rs ++ r ∷ []) (if b then Some (r.lane, why) else Some (lane, earlier))
lower-by rs r lane earlier why true b h k =
    let lt : r.lane < lane = grind (arith, nat_tests, b) in
    newer rs r why k (λ i d at less. h.refusal.lower i d at (let e = h.is in omega (arith, less, lt, e)))
lower-by rs r lane earlier why false b h k =
    let le : lane ≤ r.lane = grind (arith, nat_tests, b) in
    let old = h.refusal in
    record {
      refusal = record {
        lowest = old.lowest;
        before = old.before;
        after = old.after ++ r ∷ [];
        among = ap (λ xs. xs ++ r ∷ []) old.among ∙ append_assoc old.before (old.lowest ∷ old.after) (r ∷ []);
        refused = old.refused;
        lower = All-push (λ report. report.lane < old.lowest.lane → IsOk report.done) rs r old.lower (λ lt. absurd (let e = h.is in omega (arith, lt, le, e)));
      };
      is = h.is;
    }

-- a report of a refusal
pub found-refused : {T : Type 0} (rs : List (Report T)) (r : Report T) (why : RoundError) (found : Option (ℕ × RoundError)) → IsFoundIn rs found → r.done ≡ Err why
    → IsFoundIn (rs ++ r ∷ []) (lower found r.lane why)
found-refused rs r why None h k = newer rs r why k (λ i d at less. h i d at)
found-refused rs r why (Some (lane, earlier)) h k = lower-by rs r lane earlier why (nat_lt r.lane lane) refl h k

lower-one : (lane l : ℕ) (why earlier : RoundError) (b : Bool) → ◌≡◌ {A = Option (ℕ × RoundError)} (if b then Some (lane, why) else Some (l, earlier)) None → ⊥
lower-one lane l why earlier true e = absurd cc
lower-one lane l why earlier false e = absurd cc

-- of two refusals one is the lower
pub never-none : (found : Option (ℕ × RoundError)) (lane : ℕ) (why : RoundError) → lower found lane why ≡ None → ⊥
never-none None lane why e = absurd cc
never-none (Some (l, earlier)) lane why e = lower-one lane l why earlier (nat_lt lane l) e
