use Rattle.std.proofs.Common.{◌≡◌, ℕ, List, length, map, take, Some}
use Rattle.serde_json.specs.View.{view}
use Rattle.jb_saved.specs.inside.Forms.{padded, whole_numbers}
use Rattle.jb_saved.proofs.form.numbers_in.Given as goal

-- the numbers so far are those of the members that were passed
abbrev pub invariant-loop-place : goal.invariant-loop-place
invariant-loop-place l = (ns : List ℕ) × (length ns ≡ l.place) × (l.numbers ≡ padded ns) × (whole_numbers (map view (take l.place l.members)) ≡ Some ns)
