-- The wrap-around, as sets of chunks.
use Rattle.std.proofs.Common.{ℕ, ◌≤◌, List, map, sym, subst}
use Rattle.std.proofs.lemmas.List.{length-map}
use Rattle.jb_cert.specs.Laws.{WrapAroundIsLeast}
use Rattle.jb_cert.specs.Lawful.{IsLeast, NoneIsShorter}
use Rattle.jb_cert.specs.Plans.{StandsForLeast, sets_of, slot_pair}
use Rattle.jb_cert.specs.WrapAround.{wrapped_rounds}
use Rattle.jb_cert.specs.declared.plans.Slot.{Slot}

-- a plan of slots that is least, as sets
pub least-sets : (counts : List ℕ) (threads : ℕ) (rounds : List (List Slot)) → StandsForLeast counts threads rounds → IsLeast counts threads (sets_of rounds)
least-sets counts threads rounds stands = record {
  lawful = stands.lawful.lawful;
  least = subst (λ n. NoneIsShorter counts threads n) (sym (length-map rounds (map slot_pair))) stands.least;
}

pub least-wrapped : WrapAroundIsLeast → (counts : List ℕ) (threads : ℕ) → 1 ≤ threads → IsLeast counts threads (sets_of (wrapped_rounds counts threads))
least-wrapped law counts threads some = least-sets counts threads (wrapped_rounds counts threads) (law counts threads some)
