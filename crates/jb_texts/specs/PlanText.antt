-- What `plan` prints. The form is this project's own choice.
use Rattle.std.specs.Prelude.{ℕ, ◌==◌, List, [], ◌∷◌, ◌++◌, length, map, codes, decimal, Option, Some, None}
use Rattle.std.specs.List.{concat, enumerate_from, find, range_with_len}
use Rattle.jb_cert.specs.declared.plans.Slot.{Slot}
use Rattle.jb_cert.specs.declared.certificates.Certificate.{Certificate}
use Rattle.jb_cert.specs.Certificates.{bound_certificate}
use Rattle.jb_cert.specs.Texts.{certificate_text}
use Rattle.jb_cert.specs.Load.{Load}
use Rattle.jb_cert.specs.WrapAround.{wrapped_rounds}

-- partition and chunk, with a dot between; a dash for an idle lane
abbrev pub slot_text : Option Slot → List ℕ
slot_text None = codes "-"
slot_text (Some slot) = decimal slot.partition ++ (codes "." ++ decimal slot.chunk)

-- a space, and what lane l has in the round
unfoldable pub lane_text : List Slot → ℕ → List ℕ
lane_text round l = codes " " ++ slot_text (find (λ slot. slot.lane == l) round)

-- each lane in order
abbrev pub lanes_text : ℕ → List Slot → List ℕ
lanes_text threads round = concat (map (lane_text round) (range_with_len 0 threads))

-- the round's number and a colon, then the lanes and a line feed
unfoldable pub round_line : ℕ → ℕ → List Slot → List ℕ
round_line threads r round = decimal r ++ (codes ":" ++ (lanes_text threads round ++ 10 ∷ []))

-- the number of rounds and the certificate
unfoldable pub heading : List (List Slot) → Certificate → List ℕ
heading rounds certificate = codes "rounds " ++ (decimal (length rounds) ++ (codes " " ++ (certificate_text certificate ++ 10 ∷ [])))

-- rounds with their numbers
abbrev pub lines_of : ℕ → List (ℕ × List Slot) → List ℕ
lines_of threads rounds = concat (map (λ numbered. round_line threads numbered.0 numbered.1) rounds)

-- the heading, and then a line for each round
unfoldable pub plan_text : ℕ → List (List Slot) → Certificate → List ℕ
plan_text threads rounds certificate = heading rounds certificate ++ lines_of threads (enumerate_from 0 rounds)

-- the wrap-around plan for a load
abbrev pub text_of_load : Load → List ℕ
text_of_load load = plan_text load.threads (wrapped_rounds load.counts load.threads) (bound_certificate load.counts load.threads)
