-- What the values of a command line's options say.
use Rattle.std.specs.Prelude.{◌≡◌, ◌==◌, ◌&&◌, ◌<◌, ◌≤◌, ℕ, Bool, true, false, List, length, nat_le, nat_lt, Option, Some, None, option_and_then, if◌then◌else◌}
use Rattle.std.specs.List.{after_first, before_first, position_or_len}
use Rattle.jb_csv_job.specs.declared.asked.Task.{Task}
use Rattle.jb_csv_job.specs.declared.asked.Task.TheVariants.{Run, Part, Collect}
use Rattle.std.specs.Result.{result_ok}
use Rattle.hex.specs.Hex.{decode_sized}
use Rattle.jb_rows.specs.Numbers.{number_of}

-- the bytes that 64 hexadecimal digits write
abbrev pub digest_in : List ℕ → Option (List ℕ)
digest_in text = result_ok (decode_sized text 32)

-- a part is one of so many
abbrev pub IsInParts : Task → Type 0
IsInParts task = (part of : ℕ) → task ≡ Part part of → part < of

-- the number that decimal digits write, if it is one of these
abbrev pub number_between : (least most : ℕ) → List ℕ → Option ℕ
number_between least most text = option_and_then (λ n. if nat_le least n && nat_le n most then Some n else None) (number_of text)

-- K/N, with K below N (47 is a slash)
abbrev pub part_with : (part of : Option ℕ) → Option Task
part_with (Some part) (Some of) = if nat_lt part of then Some (Part part of) else None
part_with _ _ = None

abbrev pub part_of : List ℕ → Option Task
part_of text = if nat_lt (position_or_len (λ b. b == 47) text) (length text)
    then part_with (number_of (before_first (λ b. b == 47) text)) (number_of (after_first (λ b. b == 47) text)) else None

-- what `--collect` and the value of `--part` ask for: not both
abbrev pub task_in : (is_collect : Bool) → (part : Option (List ℕ)) → Option Task
task_in false None = Some Run
task_in true None = Some Collect
task_in false (Some text) = part_of text
task_in true (Some text) = None

-- so many records are read, up to the end of the input or not: as many as `--records` says, or not yet more; at least one, if it says nothing
abbrev pub AreAsMany : (asked : Option ℕ) → (read : ℕ) → (is_end : Bool) → Type 0
AreAsMany (Some n) read is_end = (read ≤ n) × (is_end ≡ true → read ≡ n)
AreAsMany None read is_end = is_end ≡ true → 1 ≤ read
