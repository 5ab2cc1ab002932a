-- What was added up of the results of slices.
use Rattle.std.specs.Prelude.{ℕ, ◌≡◌, List, [], None, map}
use Rattle.std.proofs.Common.{subst, sym}
use Rattle.std.proofs.lemmas.List.{append-nil}
use Rattle.jb_rows.specs.Fields.{Fields, fields_in}
use Rattle.sales.specs.Totals.{AreTotalsSoFar, HaveAdded}
use Rattle.totals.specs.declared.adding.Adding.{Adding}

-- THESE RESULTS, PACKED, WERE ADDED since it was `start`, unless a total was refused
abbrev pub HasAdded : (start now : Adding) → (results : List (List ℕ)) → Type 0
HasAdded start now results = now.refusal ≡ None → HaveAdded start.totals.by_customer now.totals.by_customer (map fields_in results)

pub nothing-added : (adding : Adding) → HasAdded adding adding []
nothing-added adding well earlier so_far = subst (λ (those : List Fields). AreTotalsSoFar those adding.totals.by_customer) (sym (append-nil earlier)) so_far
