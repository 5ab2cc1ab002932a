-- THE COMMAND LINE OF A JOB, `[OPTIONS] FOLDER`, and what it asks for (own choice).
use Rattle.std.specs.Prelude.{◌≡◌, ◌≢◌, ◌⊎◌, ◌-◌, ◌^◌, Bool, true, false, List, [], map, is_some, Option, Some, None, option_map, option_and_then, codes, string_bytes, IfSome, ⊤, unwrap_or}
use Rattle.std.specs.Option.{option_map_or}
use Rattle.std.specs.Str.{bytes_eq}
use Rattle.clap.specs.Words.{App, IsAmong, Rule, Text, all_of, fault_of, first_of, matches_of, new_app, new_rule, with_rule}
use Rattle.clap.specs.declared.builder.action.ArgAction.TheVariants.{Append, Set, SetTrue}
use Rattle.clap.specs.declared.error.kind.ErrorKind.{ErrorKind}
use Rattle.clap.specs.declared.error.kind.ErrorKind.TheVariants.{DisplayHelp, DisplayVersion}
use Rattle.jb_base.specs.Limits.{max_threads}
use Rattle.jb_csv_job.specs.Asking.{digest_in, number_between, part_of, task_in}
use Rattle.jb_csv_job.specs.declared.asked.Asked.{Asked}
use Rattle.jb_csv_job.specs.declared.failure.CsvJobError.{CsvJobError}
use Rattle.jb_csv_job.specs.declared.failure.CsvJobError.TheVariants as failure
use Rattle.jb_csv_job.specs.declared.failure.WordsFault.{WordsFault}
use Rattle.jb_csv_job.specs.declared.failure.WordsFault.TheVariants as fault

-- ---- the options that there are

-- an option with a value, and one that may come several times
abbrev pub option_rule : Text → Rule
option_rule name = record (new_rule name) { long = Some name; action = Some Set; value_names = 1 }

abbrev pub many_rule : Text → Rule
many_rule name = record (new_rule name) { long = Some name; action = Some Append; value_names = 1 }

-- an option without one
abbrev pub flag_rule : Text → Rule
flag_rule name = record (new_rule name) { long = Some name; action = Some SetTrue }

-- the program's own option, and FOLDER, must be there
abbrev pub own_rule : Text → Rule
own_rule name = record (new_rule name) { long = Some name; action = Some Set; value_names = 1; required = true }

abbrev pub folder_rule : Rule
folder_rule = record (new_rule (codes "FOLDER")) { required = true }

abbrev pub with_own : App → Option Text → App
with_own app None = app
with_own app (Some name) = with_rule app (own_rule name)

-- the program with no option; it has `-h`, `--help`, `-V` and `--version`
abbrev pub program : Text → App
program name = record (new_app name) { top = record (new_app name).top { no_binary_name = true; has_version = true } }

abbrev pub job_app : (name : Text) → (own : Option Text) → App
job_app name own = with_rule (with_own (with_rule (with_rule (with_rule (with_rule (with_rule (with_rule (with_rule (with_rule (with_rule (program name)
    (option_rule (codes "threads"))) (option_rule (codes "part"))) (flag_rule (codes "collect"))) (many_rule (codes "keep-stamp"))) (option_rule (codes "output"))) (option_rule (codes "skipped")))
    (option_rule (codes "records"))) (option_rule (codes "bytes"))) (option_rule (codes "sha256"))) own) folder_rule

-- ---- what their values ask for, by the first value of an option, and by all of them

-- `--collect` is there
abbrev pub is_collect : Option Text → Bool
is_collect value = option_map_or (bytes_eq (codes "true")) value false

-- WHAT IS ASKED. Without `--threads` their number is some, from 1 to 64.
pub record IsLine (first : Text → Option Text) (all : Text → Option (List Text)) (own : Option Text) (asked : Asked) : Type 0 where
  pub threads : IfSome (first (codes "threads")) (λ text. number_between 1 max_threads text ≡ Some asked.threads)
  pub folder : first (codes "FOLDER") ≡ Some (string_bytes asked.folder)
  pub stamps : map string_bytes asked.stamps.items ≡ unwrap_or (all (codes "keep-stamp")) []
  pub task : task_in (is_collect (first (codes "collect"))) (first (codes "part")) ≡ Some asked.task
  pub records : asked.records ≡ option_and_then (number_between 0 (2 ^ 64 - 1)) (first (codes "records"))
  pub bytes : asked.bytes ≡ option_and_then (number_between 0 (2 ^ 64 - 1)) (first (codes "bytes"))
  pub sha256 : asked.sha256 ≡ option_and_then digest_in (first (codes "sha256"))
  pub output : option_map string_bytes asked.output ≡ first (codes "output")
  pub skipped : option_map string_bytes asked.skipped ≡ first (codes "skipped")
  pub own_is : option_map string_bytes asked.own ≡ option_and_then first own

-- why a value isn't taken
abbrev pub IsWrongValue : (first : Text → Option Text) → WordsFault → Type 0
IsWrongValue first (fault.Threads value) = (first (codes "threads") ≡ Some (string_bytes value)) × (number_between 1 max_threads (string_bytes value) ≡ None)
IsWrongValue first (fault.Records value) = (first (codes "records") ≡ Some (string_bytes value)) × (number_between 0 (2 ^ 64 - 1) (string_bytes value) ≡ None)
IsWrongValue first (fault.Bytes value) = (first (codes "bytes") ≡ Some (string_bytes value)) × (number_between 0 (2 ^ 64 - 1) (string_bytes value) ≡ None)
IsWrongValue first (fault.Sha256 value) = (first (codes "sha256") ≡ Some (string_bytes value)) × (digest_in (string_bytes value) ≡ None)
IsWrongValue first (fault.Part value) = (first (codes "part") ≡ Some (string_bytes value)) × (part_of (string_bytes value) ≡ None)
IsWrongValue first fault.PartAndCollect = (is_collect (first (codes "collect")) ≡ true) × (is_some (first (codes "part")) ≡ true)
IsWrongValue first fault.PartAndOutput = (is_some (first (codes "part")) ≡ true) × (is_some (first (codes "output")) ≡ true)
IsWrongValue first fault.NoFolder = first (codes "FOLDER") ≡ None
IsWrongValue first _ = ⊥

abbrev pub IsWrong : (first : Text → Option Text) → CsvJobError → Type 0
IsWrong first (failure.Words fault) = IsWrongValue first fault
IsWrong first failure.Memory = ⊤
IsWrong first _ = ⊥

-- ---- what the arguments ask for

-- the values that `clap` gives the options for these arguments
abbrev pub first_at : (name : Text) → (own : Option Text) → (words : List Text) → Text → Option Text
first_at name own words id = first_of id (matches_of (job_app name own) words)

abbrev pub all_at : (name : Text) → (own : Option Text) → (words : List Text) → Text → Option (List Text)
all_at name own words id = all_of id (matches_of (job_app name own) words)

-- THE ARGUMENTS ASK FOR THIS: `clap` takes them, and their values say it
abbrev pub AskFor : (name : Text) → (own : Option Text) → (words : List Text) → Asked → Type 0
AskFor name own words asked = (fault_of (job_app name own) words ≡ []) × IsLine (first_at name own words) (all_at name own words) own asked

-- they ask for the help, or for the version
abbrev pub AskForText : (name : Text) → (own : Option Text) → (words : List Text) → Type 0
AskForText name own words = IsAmong DisplayHelp (fault_of (job_app name own) words) ⊎ IsAmong DisplayVersion (fault_of (job_app name own) words)

-- WHY THEY ARE REFUSED: `clap` finds a mistake, or it takes them, and a value is wrong
abbrev pub AreRefused : (name : Text) → (own : Option Text) → (words : List Text) → CsvJobError → Type 0
AreRefused name own words (failure.Words (fault.Wrong text)) = (kind : ErrorKind) × IsAmong kind (fault_of (job_app name own) words) × (kind ≢ DisplayHelp) × (kind ≢ DisplayVersion)
AreRefused name own words e = IsWrong (first_at name own words) e
