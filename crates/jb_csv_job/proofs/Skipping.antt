-- The lines of the list of skipped records.
use Rattle.std.{proofs.Common.{◌≡◌, ℕ, ◌+◌, ◌<◌, List, [], ◌∷◌, ◌++◌, ap, append_assoc, arith, length, map, refl, take}, specs.Prelude.{slice_index_or}, proofs.lemmas.List.{map_more, map_push}, proofs.lemmas.Option.{slice_get-map}}
use Rattle.jb_ready.specs.{FaultClasses.{class_name}, declared.fault_class.FaultClass.{FaultClass}}
use Rattle.jb_base.specs.declared.class.ClassId.{ClassId}
use Rattle.jb_rows.{specs.Fields.{Fields, fields_in, packed, packed_field}, proofs.Packing.{fields-first, first-packed}}
use Rattle.jb_csv_job.specs.Skipped.{name_in}

pub name-is : (classes : List FaultClass) (class : ClassId) → class_name classes class ≡ name_in (map (λ (c : FaultClass). c.name.now) classes) class
name-is classes class = grind (arith, slice_get-map)

-- the fields in packed ones and bytes after them
pub fields-after : (head : Fields) (bytes : List ℕ) → fields_in (packed head ++ bytes) ≡ head ++ fields_in bytes
unfolding packed
fields-after [] bytes = refl
fields-after (field ∷ later) bytes =
    rw (append_assoc (packed_field field) (packed later) bytes, fields-first (packed_field field ++ (packed later ++ bytes)) (field, packed later ++ bytes) (first-packed field (packed later ++ bytes)))
    (ap (λ fields. field ∷ fields) (fields-after later bytes))

-- one line more, whose fields are those of the next one
pub one-line : {A : Type 0} (line : A → Fields) (all : List A) (place : ℕ) (d one : A) (rows new : List (List ℕ)) (bytes : List ℕ) → place < length all → one ≡ slice_index_or all place d
    → new ≡ rows ++ bytes ∷ [] → fields_in bytes ≡ line one → map fields_in rows ≡ map line (take place all) → map fields_in new ≡ map line (take (place + 1) all)
one-line line all place d one rows new bytes below is grown said before = rw (grown, map_push fields_in rows bytes, before, said, is, map_more line all place d below)
