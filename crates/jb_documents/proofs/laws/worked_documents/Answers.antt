use Rattle.std.proofs.Common.{◌≡◌, ℕ, zero, suc, ◌<◌, List, [], ◌∷◌, get_or, ap, refl, arith}
use Rattle.std.specs.Prelude.{codes}
use Rattle.std.specs.Fmt.{digits}
use Rattle.std.specs.List.{zip}
use Rattle.std.specs.List.Sorted.{IsStrictlyIncreasing}
use Rattle.std.proofs.lemmas.List.Elements.{All-cons, All-nil, All-from_recursion}
use Rattle.serde_json.proofs.OnLiterals.{serde_json_on_literals}
use Rattle.jb_job.specs.Worked.{classes_job}
use Rattle.jb_rules.specs.declared.row.Row.{Row}
use Rattle.jb_rules.specs.declared.row.RowState.TheVariants.{Waiting}
use Rattle.jb_saved.specs.Worked.{row, stopped}
use Rattle.jb_base.specs.Classes.{class_of}
use Rattle.jb_documents.specs.declared.run.faults.PlannedFault.{PlannedFault}
use Rattle.jb_documents.specs.DocumentRanges.{HoldsResults, IsPlannedFault, AreFaults}
use Rattle.jb_documents.specs.Worked.{bad_record, two_texts}
use Rattle.jb_documents.proofs.laws.worked_documents.Goals as goal

abbrev Fits : PlannedFault → Type 0
Fits = IsPlannedFault classes_job.classes 3

two-rise : (a b : ℕ) → a < b → IsStrictlyIncreasing (a ∷ b ∷ [])
two-rise a b lt zero within = lt
two-rise a b lt (suc k) within = absurd (omega (arith, within))

fits : (number : ℕ) → number < 3 → Fits (bad_record number 2)
unfolding class_of
fits number lt = record { within = lt; kind = omega arith }

first : (fault : PlannedFault) → AreFaults classes_job.classes 3 (fault ∷ []) → Fits fault
first fault are = are.each 0 fault (omega arith)

same-step : (k : ℕ) → k < 1 → get_or (codes "s" ∷ []) k (codes "t") ≡ codes "t" → ⊥
same-step zero lt is = let first : 115 ≡ 116 = ap (λ (id : List ℕ). get_or id 0 0) is in omega (arith, first)
same-step (suc k) lt is = omega (arith, lt)

first_row : Row
first_row = row 0 3 2 0 2 1 Waiting

pub returns : goal.returns
unfolding digits serde_json_on_literals class_of
returns c = record {
  run = refl;
  plan = refl;
  check = refl;
  rising = record { few = omega arith; rise = two-rise 0 2 (omega arith); each = All-cons Fits (bad_record 0 2) (bad_record 2 2 ∷ []) (fits 0 (omega arith)) (All-cons Fits (bad_record 2 2) [] (fits 2 (omega arith)) (All-nil Fits)) };
  twice = λ are. omega (arith, are.rise 0 (omega arith));
  past = λ are. omega (arith, (first (bad_record 3 2) are).within);
  undeclared = λ are. omega (arith, (first (bad_record 0 3) are).kind);
  last_lane = record { lane = omega arith; partition = omega arith };
  past_lanes = λ is. omega (arith, is.lane);
  left = record { one_each = refl; held = All-from_recursion HoldsResults (zip (two_texts ∷ two_texts ∷ [] ∷ []) stopped.rows) (omega arith, (omega arith, (omega arith, tt))); named = (0, omega arith, refl) };
  fewer = λ kept. omega (arith, kept.held 1 ([], first_row) (omega arith));
  no_writer = λ kept. omega (arith, kept.one_each);
  another = λ kept. same-step kept.named.0 kept.named.1 kept.named.2;
}
