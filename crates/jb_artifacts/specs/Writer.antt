-- What an item writer means (Jakarta Batch 2.1, "ItemWriter"). Own choices: it has a list, and faults are planned.
use Rattle.std.specs.Prelude.{ℕ, ◌≡◌, ◌-◌, List, [], ◌∷◌, length, take, map, ◌++◌, Option, Some, None, not, find, take_while, Result, Ok, Err}
use Rattle.jb_base.specs.declared.class.ClassId.{ClassId}
use Rattle.jb_base.specs.declared.artifact_error.ArtifactError.{ArtifactError}
use Rattle.jb_base.specs.declared.artifact_error.ArtifactError.TheVariants.{Fault, Memory}
use Rattle.jb_artifacts.specs.Faults.{FaultTable, live, is_live, used_at}

-- results in the order in which they were written
abbrev pub Texts : Type 0
Texts = List (List ℕ)

-- results with the numbers of their records
abbrev pub Numbered : Type 0
Numbered = List (ℕ × List ℕ)

-- the results alone
abbrev pub texts_of : Numbered → Texts
texts_of results = map (λ r. r.1) results

-- a record's result with its number, if it has one
abbrev pub numbered : (k : ℕ) → Option (List ℕ) → Option (ℕ × List ℕ)
numbered k None = None
numbered k (Some text) = Some (k, text)

-- the list written, and a fault plan per record
pub record Writer : Type 0 where
  pub written : Texts
  pub faults : FaultTable

-- the writer with only its first `count` results
abbrev pub cut : Writer → ℕ → Writer
cut w count = record w { written = take count w.written }

-- the first result whose record has a live fault
abbrev pub failing : FaultTable → Numbered → Option (ℕ × List ℕ)
failing plans results = find (λ r. is_live plans r.0) results

-- the fault of the failing result, if there is one
abbrev pub fault_of : FaultTable → Option (ℕ × List ℕ) → Option ClassId
fault_of plans None = None
fault_of plans (Some r) = live (plans r.0)

-- the plans after that fault
abbrev pub used_for : FaultTable → Option (ℕ × List ℕ) → FaultTable
used_for plans None = plans
used_for plans (Some r) = used_at plans r.0

-- the fault with which a write of these results fails, if it does
abbrev pub write_fault : Writer → Numbered → Option ClassId
write_fault w results = fault_of w.faults (failing w.faults results)

-- the results before the failing one are appended, and its fault is used
abbrev pub after_write : Writer → Numbered → Writer
after_write w results = record {
  written = w.written ++ texts_of (take_while (λ r. not (is_live w.faults r.0)) results);
  faults = used_for w.faults (failing w.faults results);
}

-- a write that ran out of memory: first results are appended until the list has `count`, and no fault is used
abbrev pub torn_write : Writer → Numbered → (count : ℕ) → Writer
torn_write w results count = record w { written = w.written ++ texts_of (take (count - length w.written) results) }

-- one result is appended, or its record's plan has a fault, or memory ran out and nothing changed
abbrev pub Appends : Result (Unit {0}) ArtifactError → (number : ℕ) → (text : List ℕ) → (old new : Writer) → Type 0
Appends (Err Memory) number text old new = new ≡ old
Appends (Err (Fault class)) number text old new = (live (old.faults number) ≡ Some class) × (new ≡ record old { faults = used_at old.faults number })
Appends (Ok done) number text old new = (live (old.faults number) ≡ None) × (new ≡ record old { written = old.written ++ text ∷ [] })
