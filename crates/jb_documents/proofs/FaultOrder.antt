-- A list of planned faults that was read is in order.
use Rattle.std.proofs.Common.{◌≡◌, ℕ, ◌-◌, ◌≤◌, ◌<◌, List, [], length, get_or, Ok, IfOk, refl, subst, arith}
use Rattle.std.specs.Prelude.{slice_get}
use Rattle.std.proofs.lemmas.Result.{IfOk-weaker}
use Rattle.std.proofs.lemmas.List.{get_or-map}
use Rattle.std.proofs.lemmas.List.Sorted.{IsNonDecreasingBy-push, IsNonDecreasingBy-short}
use Rattle.serde_json.specs.Data.{Data, Items}
use Rattle.serde_json.specs.Find.{as_str}
use Rattle.jb_job.specs.declared.field.Field.{Field}
use Rattle.jb_base.proofs.Causes.{followed, next}
use Rattle.jb_job.proofs.Kept.{each-keeps}
use Rattle.jb_job.specs.Reading.{Read, shaped, whole_number, triple_at, each_at}
use Rattle.jb_documents.specs.declared.run.faults.PlannedFault.{PlannedFault}
use Rattle.jb_documents.specs.FaultLists.{is_past, fault_number, form_at, fault_kind, planned_fault_at}
use Rattle.jb_documents.specs.FaultOrder.{AreFaultsInOrder}
use Rattle.jb_documents.proofs.DocumentRanges.{number_of, IsPast, number-read}

fault-follows : (classes : List (List ℕ)) (f : Field) (records : ℕ) (earlier : List PlannedFault) (d : Data) → IfOk (planned_fault_at classes f records earlier d) (λ one. IsPast earlier one.number)
unfolding planned_fault_at
fault-follows classes f records earlier d =
    next _ (triple_at f d) _ (λ entry. next _ (shaped f (whole_number entry.0)) _ (λ number. next _ (shaped f (as_str entry.1)) _ (λ word. next _ (form_at f word entry.2) _ (λ form.
    followed (λ n. IsPast earlier n × (n < records)) _ (fault_number f records earlier number) _ (number-read f records number earlier (is_past (slice_get earlier (length earlier - 1)) number) refl) (λ place is.
    next _ (fault_kind classes f form) _ (λ kind. is.0))))))

no-fault : AreFaultsInOrder []
no-fault = IsNonDecreasingBy-short number_of [] (omega arith)

last-below : (earlier : List PlannedFault) (number : ℕ) → IsPast earlier number → (d : PlannedFault) → 0 < length earlier → (get_or earlier (length earlier - 1) d).number ≤ number
last-below earlier number past d some =
    let same = get_or-map number_of earlier (length earlier - 1) d 0 (omega (arith, some)) in
    omega (arith, same, past some)

all-follow : (classes : List (List ℕ)) (f : Field) (records : ℕ) (items : Items) → IfOk (each_at (planned_fault_at classes f records) items) AreFaultsInOrder
all-follow classes f records items =
    each-keeps AreFaultsInOrder (planned_fault_at classes f records)
    (λ done d so_far. IfOk-weaker (planned_fault_at classes f records done d) _ _ (λ one past. IsNonDecreasingBy-push number_of done one so_far (last-below done one.number past)) (fault-follows classes f records done d))
    [] items no-fault

-- what reading the members gives is in order
pub planned-in-order : (classes : List (List ℕ)) (f : Field) (records : ℕ) (items : Items) (faults : List PlannedFault) → each_at (planned_fault_at classes f records) items ≡ Ok faults → AreFaultsInOrder faults
planned-in-order classes f records items faults is = subst (λ (read : Read (List PlannedFault)). IfOk read AreFaultsInOrder) is (all-follow classes f records items)
