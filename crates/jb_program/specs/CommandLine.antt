-- The command line of the program, and what it asks for (own choice). It is one subcommand: `run` and `restart` take a number of
-- rounds, and `help` a subcommand if need be. Or it is one of the usual options for help and the version.
use Rattle.std.specs.Prelude.{◌≡◌, ◌≢◌, ◌⊎◌, ◌+◌, ◌<◌, ◌≤◌, ◌-◌, ◌*◌, ◌==◌, ◌&&◌, ◌||◌, ℕ, Bool, List, [], ◌∷◌, ◌++◌, length, take, nat_le, true, false, not, Option, Some, None, is_some, option_map, option_and_then, slice_get, codes, bytes_eq, string_bytes, if◌then◌else◌, IsSomeAnd}
use Rattle.std.specs.Char.{is_ascii_digit}
use Rattle.std.specs.List.{starts_with}
use Rattle.std.specs.Option.{option_map_or}
use Rattle.clap.specs.Words.{App, IsAmong, Row, Rule, Shape, Text, fault_of, first_of, new_app, new_rule, subcommand_of, with_rule, with_subcommand}
use Rattle.clap.specs.declared.builder.action.ArgAction.TheVariants.{Set}
use Rattle.clap.specs.declared.error.kind.ErrorKind.{ErrorKind}
use Rattle.clap.specs.declared.error.kind.ErrorKind.TheVariants.{DisplayHelp, DisplayVersion}
use Rattle.jb_base.specs.Limits.{max_rounds}
use Rattle.jb_program.specs.UsageText.{escaped}
use Rattle.jb_program.specs.declared.words.fault.Reason.{Reason}
use Rattle.jb_program.specs.declared.words.fault.Reason.TheVariants.{Rounds, Document, Unknown}
use Rattle.jb_program.specs.declared.words.fault.UsageFault.{UsageFault}
use Rattle.jb_program.specs.declared.words.fault.UsageFault.TheVariants as usage
use Rattle.jb_program.specs.declared.words.request.Request.{Request}
use Rattle.jb_program.specs.declared.words.request.Request.TheVariants.{Help, Version, Perform}
use Rattle.jb_program.specs.declared.words.request.Word.{Word}
use Rattle.jb_program.specs.declared.words.request.Word.TheVariants.{Run, Restart, Plan, Check}

-- ---- the words and options that there are

-- the program with no word; it has `-h`, `--help`, `-V` and `--version`, and so has each word
abbrev pub program : App
program = record (new_app (codes "batchrun")) { top = record (new_app (codes "batchrun")).top { no_binary_name = true; disable_help_subcommand = true; has_version = true; propagate_version = true } }

-- a word that takes no argument but these
abbrev pub word_app : Text → Shape
word_app name = (new_app name).top

-- the option `--rounds`, which takes a number
abbrev pub rounds_rule : Rule
rounds_rule = record (new_rule (codes "rounds")) { long = Some (codes "rounds"); action = Some Set }

-- a word that takes a number of rounds
abbrev pub limited_app : Text → Shape
limited_app name = (with_rule (new_app name) rounds_rule).top

-- `help`, which takes a word
abbrev pub help_app : Shape
help_app = (with_rule (new_app (codes "help")) (new_rule (codes "word"))).top

-- `batchrun run`, `batchrun restart`, `batchrun plan`, `batchrun check` and `batchrun help`
abbrev pub app : App
app = with_subcommand (with_subcommand (with_subcommand (with_subcommand (with_subcommand program (limited_app (codes "run"))) (limited_app (codes "restart"))) (word_app (codes "plan"))) (word_app (codes "check"))) help_app

-- the names of the subcommands that do something with a document
abbrev pub word_in : Text → Option Word
word_in name = if bytes_eq name (codes "run") then Some Run
    else (if bytes_eq name (codes "restart") then Some Restart
    else (if bytes_eq name (codes "plan") then Some Plan
    else (if bytes_eq name (codes "check") then Some Check else None)))

-- ---- the number of rounds

-- a number, and decimal digits after it, give a number up to the most
abbrev pub rounds_from : ℕ → Text → Option ℕ
rounds_from n [] = if nat_le n max_rounds then Some n else None
rounds_from n (digit ∷ digits) = if is_ascii_digit digit then rounds_from (n * 10 + (digit - 48)) digits else None

-- a number of rounds: one decimal digit or more
abbrev pub rounds_of_word : Text → Option ℕ
rounds_of_word [] = None
rounds_of_word (digit ∷ digits) = rounds_from 0 (digit ∷ digits)

-- ---- what they ask for

-- a word by itself, or with its number of rounds
abbrev pub line_in : Word → (given : Option Text) → Option Request
line_in word None = Some (Perform (record { word = word; rounds = None }))
line_in word (Some text) = option_map (λ n. Perform (record { word = word; rounds = Some n })) (rounds_of_word text)

-- a word's name, and the number of rounds that is given
abbrev pub perform_in : Text → (given : Option Text) → Option Request
perform_in name given = option_and_then (λ word. line_in word given) (word_in name)

-- `help` alone is about the program, and so is `help help`; with another subcommand it is about that one
abbrev pub topic_in : Option Text → Option Request
topic_in None = Some (Help None)
topic_in (Some name) = if bytes_eq name (codes "help") then Some (Help None) else option_map (λ word. Help (Some word)) (word_in name)

-- what a subcommand's name and matches ask for
abbrev pub request_in : Option (Text × List Row) → Option Request
request_in None = None
request_in (Some found) = if bytes_eq found.0 (codes "help") then topic_in (first_of (codes "word") found.1)
    else perform_in found.0 (first_of (codes "rounds") found.1)

-- `clap` takes the arguments, and its matches of them ask for this
abbrev pub AreTakenAs : List Text → Option Request → Type 0
AreTakenAs words request = (fault_of app words ≡ []) × (request_in (subcommand_of app words) ≡ request)

-- `clap` ends reading the arguments for this
abbrev pub EndIn : List Text → ErrorKind → Type 0
EndIn words kind = IsAmong kind (fault_of app words)

-- what `--help` and `-h` tell of: the word before them
abbrev pub topic_at : List Text → Option Word
topic_at words = option_and_then word_in (slice_get words 0)

-- What the arguments ask for: the subcommand that `clap` takes; the help, by its option or by `help`; the version, by its option.
abbrev pub Asks : List Text → Request → Type 0
Asks words (Perform line) = AreTakenAs words (Some (Perform line))
Asks words (Help topic) = AreTakenAs words (Some (Help topic)) ⊎ (EndIn words DisplayHelp × (topic ≡ topic_at words))
Asks words Version = EndIn words DisplayVersion

-- The arguments ask for nothing: `clap` takes them and finds nothing in them, or finds a mistake.
abbrev pub AreUnknown : List Text → Type 0
AreUnknown words = AreTakenAs words None ⊎ ((kind : ErrorKind) × EndIn words kind × (kind ≢ DisplayHelp) × (kind ≢ DisplayVersion))

-- ---- which word is wrong

-- The arguments ask for something, or would with a number after them.
abbrev pub CanBeCompleted : List Text → Type 0
CanBeCompleted words = (request : Request) × (Asks words request ⊎ Asks (words ++ codes "0" ∷ []) request)

-- The arguments ask for nothing, with a number after them or without.
abbrev pub CannotGoOn : List Text → Type 0
CannotGoOn words = AreUnknown words × AreUnknown (words ++ codes "0" ∷ [])

-- the last of these words is `--rounds`
abbrev pub end_in_rounds : List Text → Bool
end_in_rounds words = option_map_or (λ last. bytes_eq last (codes "--rounds")) (slice_get words (length words - 1)) false

-- Why a word is wrong after these: it is about a number of rounds; it isn't an option, and follows a word that reads a document; or it
-- isn't known.
abbrev pub reason_after : (before : List Text) → (word : Text) → Reason
reason_after before word = if starts_with ◌==◌ word (codes "--rounds") || end_in_rounds before then Rounds
    else (if is_some (topic_at before) && not (starts_with ◌==◌ word (codes "-")) then Document else Unknown)

-- This is said of the word at this place: the word, escaped, and why it is wrong.
pub record IsTold (words : List Text) (place : ℕ) (text : Text) (reason : Reason) : Type 0 where
  pub word : Text
  pub is_there : slice_get words place ≡ Some word
  pub is_escaped : text ≡ escaped word
  pub is_why : reason ≡ reason_after (take place words) word

-- what a fault says of the word at this place
abbrev pub IsToldAt : List Text → (place : ℕ) → UsageFault → Type 0
IsToldAt words place (usage.Wrong text reason) = IsTold words place (string_bytes text) reason
IsToldAt words place _ = ⊥

-- The arguments ask for nothing. This is said of the first one up to which no number after them would help. If there is no such
-- argument, it is said of the last, whose number is missing.
pub record IsWrongWord (words : List Text) (text : Text) (reason : Reason) : Type 0 where
  pub unknown : AreUnknown words
  pub place : ℕ
  pub told : IsTold words place text reason
  pub before : (n : ℕ) → 0 < n → n ≤ place → CanBeCompleted (take n words)
  pub up_to : CannotGoOn (take (place + 1) words) ⊎ (place + 1 ≡ length words)

-- what is wrong with the arguments of the process; they are `None` if one is no text
abbrev pub IsWrong : UsageFault → Option (List Text) → Type 0
IsWrong usage.NoWord words = words ≡ Some []
IsWrong usage.NoText words = words ≡ None
IsWrong (usage.Wrong text reason) words = IsSomeAnd words (λ given. IsWrongWord given (string_bytes text) reason)
