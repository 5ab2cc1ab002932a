-- A map by names, and the list of amounts that a contract sees.
use Rattle.std.proofs.Common.{◌≡◌, ℕ, true, false, cond, List, [], ◌∷◌, map, Some, refl, ap}
use Rattle.std.specs.Prelude.{bytes_eq}
use Rattle.std.specs.Map.{lookup}
use Rattle.std.specs.Map.Iter.{deref_pair}
use Rattle.std.specs.Borrow.{Bor}
use Rattle.indexmap.specs.IndexMap.{insert_entry}
use Rattle.sales.specs.Amounts.{Amount, amount_at, with_amount}
use Rattle.sales.specs.Totals.{record_of}

module _ {K : Type 0} (bytes : K → List ℕ) where
  -- the entries of the map, as a contract sees them
  abbrev pub shown : List (K × ℕ) → List Amount
  shown entries = map (λ entry. (bytes entry.0, entry.1)) entries

  pub lookup-shown : (entries : List (K × ℕ)) (name : List ℕ) → lookup (λ key. bytes_eq name (bytes key)) entries ≡ amount_at (shown entries) name
  lookup-shown [] name = refl
  lookup-shown (entry ∷ entries) name = ap (λ later. cond (bytes_eq name (bytes entry.0)) (Some entry.1) later) (lookup-shown entries name)

  pub insert-shown : (entries : List (K × ℕ)) (key : K) (cents : ℕ)
      → shown (insert_entry (λ a b. bytes_eq (bytes a) (bytes b)) entries key cents) ≡ with_amount (shown entries) (bytes key) cents
  insert-shown [] key cents = refl
  insert-shown (entry ∷ entries) key cents =
      elim (bytes_eq (bytes key) (bytes entry.0)) as (λ b. shown (cond b ((entry.0, cents) ∷ entries) (entry ∷ insert_entry (λ a b. bytes_eq (bytes a) (bytes b)) entries key cents))
      ≡ cond b ((bytes entry.0, cents) ∷ shown entries) ((bytes entry.0, entry.1) ∷ with_amount (shown entries) (bytes key) cents)) [
        | true ↦ refl
        | false ↦ ap (λ later. (bytes entry.0, entry.1) ∷ later) (insert-shown entries key cents)
      ]

  -- the records of the entries that a loop was lent
  pub records-lent : (lent : List (Bor K × Bor ℕ)) → map (λ entry. record_of (bytes entry.0.now, entry.1.now)) lent ≡ map record_of (shown (map deref_pair lent))
  records-lent [] = refl
  records-lent (entry ∷ lent) = ap (λ later. record_of (bytes entry.0.now, entry.1.now) ∷ later) (records-lent lent)
