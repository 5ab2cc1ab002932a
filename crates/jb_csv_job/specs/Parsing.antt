-- How the arguments of a command line are answered.
use Rattle.std.specs.Prelude.{List, Option}
use Rattle.clap.specs.Words.{Text}
use Rattle.jb_csv_job.specs.CommandLine.{AskFor, AskForText}
use Rattle.jb_csv_job.specs.declared.words.Parsed.{Parsed}
use Rattle.jb_csv_job.specs.declared.words.Parsed.TheVariants as parsed

abbrev pub IsAnswer : (name : Text) → (own : Option Text) → (words : List Text) → Parsed → Type 0
IsAnswer name own words (parsed.Job asked) = AskFor name own words asked
IsAnswer name own words (parsed.Text text) = AskForText name own words
