-- What a keeper remembers that watches the files of slices.
use Rattle.std.specs.Prelude.{ℕ, Bool, if◌then◌else◌, List, ◌∷◌}

-- THE SLICES WHOSE FILES GAVE BACK OTHER BYTES THAN WERE WRITTEN, once the files of one more slice were given: clean ones, which didn't, or others
abbrev pub unclean_after : (before : List ℕ) → (number : ℕ) → (is_clean : Bool) → List ℕ
unclean_after before number is_clean = if is_clean then before else number ∷ before
